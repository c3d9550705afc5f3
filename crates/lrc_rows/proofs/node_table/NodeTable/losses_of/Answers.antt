use Rattle.std.proofs.Common.{◌≡◌, ℕ, ◌<◌, not, true, IsTrue, is_none, get_or, refl, ap, arith}
use Rattle.std.proofs.lemmas.List.Elements.{All-get_or}
use Rattle.lrc_code.specs.Codes.{fragment_count}
use Rattle.lrc_topology.specs.declared.seat.Seat.{Seat}
use Rattle.lrc_homes.specs.Homes.{is_missing, is_to_move}
use Rattle.lrc_rows.specs.NodeStates.{has_node, states_in}
use Rattle.lrc_rows.proofs.SeatedLemmas.{within-seated, mask-empty}
use Rattle.lrc_rows.proofs.node_table.NodeTable.losses_of.Goals as goal

-- a filler for no seat
abbrev no_seat : Seat
no_seat = record { node = record { value = 0 }; slot = 0 }

pub returns-then-are_plain-clause-losses : goal.returns-then-are_plain-clause-losses
returns-then-are_plain-clause-losses c =
    let code = c.args.code in
    let seats = c.args.seats.now in
    let long = c.requires.length in
    let z = states_in c.args.self.now in
    let known : (f : ℕ) → f < fragment_count code → has_node z.nodes (get_or seats f no_seat).node ≡ true =
    λ f low. All-get_or (λ (seat : Seat). IsTrue (has_node z.nodes seat.node)) seats f no_seat (omega (arith, low, long)) c.requires.nodes in
    record {
      within = within-seated code seats long;
      homeless = mask-empty code seats long is_none no_seat c.none.result.homeless c.none.ensures.homeless (λ f low. refl);
      missing = mask-empty code seats long (is_missing z.up) no_seat c.none.result.missing c.none.ensures.missing
          (λ f low. ap not (c.are_plain.ensures c.if-are_plain.true (get_or seats f no_seat).node (known f low)).0);
      needs = mask-empty code seats long (is_to_move z.draining) no_seat c.none.result.needs c.none.ensures.needs
          (λ f low. (c.are_plain.ensures c.if-are_plain.true (get_or seats f no_seat).node (known f low)).1);
    }
