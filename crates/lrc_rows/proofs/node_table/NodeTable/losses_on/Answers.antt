use Rattle.std.proofs.Common.{◌≡◌, ◌<◌, ◌&&◌, not, nat_lt, is_none, get_or, None, arith, refl, ap, ◌∙◌}
use Rattle.lrc_topology.specs.declared.seat.Seat.{Seat}
use Rattle.lrc_code.specs.Codes.{fragment_count}
use Rattle.lrc_homes.specs.Homes.{seated_homes, is_missing, is_to_move}
use Rattle.lrc_rows.specs.NodeStates.{states_in}
use Rattle.lrc_rows.proofs.SeatedLemmas.{within-seated, missing-at, to_move-at, mask-empty, mask-first, mask-next}
use Rattle.lrc_rows.proofs.node_table.NodeTable.losses_on.Goals as goal

-- a filler for no seat
abbrev no_seat : Seat
no_seat = record { node = record { value = 0 }; slot = 0 }

pub loop-number-init : goal.loop-number-init
loop-number-init c =
    let none = c.none-losses.ensures in
    record { code_is = none.code; homeless = none.homeless; missing = mask-first _ c.none-losses.result.missing.bits none.missing; needs = mask-first _ c.none-losses.result.needs.bits none.needs }

pub loop-number-preserved : goal.loop-number-preserved
loop-number-preserved c =
    let i = c.loop-number.number in
    let code = c.args.code in
    let seats = c.args.seats.now in
    let z = states_in c.args.self.now in
    let below : i < fragment_count code = omega (arith, c.loop-number-test.true, c.fragments-number-end.ensures.value) in
    let long = c.requires in
    let losses = c.loop-number.losses in
    let is = c.loop-number.invariant in
    record {
      code_is = is.code_is;
      homeless = is.homeless;
      missing = mask-next (λ f. is_missing z.up (get_or (seated_homes seats) f None)) i losses.missing.bits c.with_where-losses.result.bits (not c.is_up.result)
          (missing-at code seats long z.up no_seat i c.is_up.result below c.is_up.ensures) is.missing c.with_where-losses.ensures;
      needs = mask-next (λ f. is_to_move z.draining (get_or (seated_homes seats) f None)) i losses.needs.bits c.with_where-losses-in-loop-number.result.bits c.is_draining.result
          (to_move-at code seats long z.draining no_seat i c.is_draining.result below c.is_draining.ensures) is.needs c.with_where-losses-in-loop-number.ensures;
    }

pub returns-clause-losses : goal.returns-clause-losses
returns-clause-losses c =
    let code = c.args.code in
    let seats = c.args.seats.now in
    let z = states_in c.args.self.now in
    let all : c.loop-number.number ≡ fragment_count code = omega (arith, c.loop-number-test.false, c.loop-number.auto.number-end, c.fragments-number-end.ensures.value) in
    let is = c.loop-number.invariant in
    record {
      within = within-seated code seats c.requires;
      homeless = mask-empty code seats c.requires is_none no_seat c.loop-number.losses.homeless is.homeless (λ f low. refl);
      missing = λ f. is.missing f ∙ ap (λ n. nat_lt f n && is_missing z.up (get_or (seated_homes seats) f None)) all;
      needs = λ f. is.needs f ∙ ap (λ n. nat_lt f n && is_to_move z.draining (get_or (seated_homes seats) f None)) all;
    }

pub returns-clause-code : goal.returns-clause-code
returns-clause-code c = c.loop-number.invariant.code_is
