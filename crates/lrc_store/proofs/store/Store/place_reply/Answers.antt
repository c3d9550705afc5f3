use Rattle.std.proofs.Common.{List, take, ap, sym, ◌∙◌, arith}
use Rattle.std.proofs.lemmas.List.{take_all}
use Rattle.lrc_code.specs.declared.codes.Code.{Code}
use Rattle.lrc_code.specs.Codes.{fragment_count}
use Rattle.lrc_topology.specs.declared.seat.Seat.{Seat}
use Rattle.lrc_stripes.specs.Stored.{Stored}
use Rattle.lrc_rules.specs.declared.reply.Reply.TheVariants.{Placed, Placed6}
use Rattle.lrc_rules.specs.Outcomes.{Outcome}
use Rattle.lrc_rules.specs.Steps.{placed_reply}
use Rattle.lrc_rules.proofs.StepLemmas.{place-there}
use Rattle.lrc_rules.proofs.LawLemmas.{chosen-told, none-told}
use Rattle.lrc_store.proofs.store.Store.place_reply.Goals as goal

pub returns-then-contains : goal.returns-then-contains
returns-then-contains c = λ st kept.
    sym (ap (λ (o : Outcome). o.0) (place-there c.args.self.now.topology st c.args.code c.args.stripe
    (sym (ap (λ (x : Stored). x.stripes c.args.stripe) kept.stripes_is) ∙ sym c.contains.ensures ∙ c.if-contains.true)))

pub returns-in-Wide : goal.returns-in-Wide
returns-in-Wide c = λ st kept.
    let absent = sym (ap (λ (x : Stored). x.stripes c.args.stripe) kept.stripes_is) ∙ sym c.contains.ensures ∙ c.if-contains.false in
    let seats = c.plan_seats.new.seats in
    sym (chosen-told c.args.self.now.topology st c.args.code c.args.stripe (take (fragment_count c.args.code) seats) absent (c.in-Ok.ensures.chosen st kept absent)
    ∙ ap (λ (code : Code). placed_reply code (take (fragment_count code) seats)) c.in-Wide.is
    ∙ ap (λ (xs : List Seat). Placed xs) (take_all 16 seats (omega arith)))

pub returns-in-Narrow : goal.returns-in-Narrow
returns-in-Narrow c = λ st kept.
    let absent = sym (ap (λ (x : Stored). x.stripes c.args.stripe) kept.stripes_is) ∙ sym c.contains.ensures ∙ c.if-contains.false in
    let seats = c.plan_seats.new.seats in
    ap (λ (xs : List Seat). Placed6 xs) c.copy_from_slice.ensures.after
    ∙ sym (chosen-told c.args.self.now.topology st c.args.code c.args.stripe (take (fragment_count c.args.code) seats) absent (c.in-Ok.ensures.chosen st kept absent)
    ∙ ap (λ (code : Code). placed_reply code (take (fragment_count code) seats)) c.in-Narrow.is)

pub returns-in-Err : goal.returns-in-Err
returns-in-Err c = λ st kept.
    let absent = sym (ap (λ (x : Stored). x.stripes c.args.stripe) kept.stripes_is) ∙ sym c.contains.ensures ∙ c.if-contains.false in
    sym (none-told c.args.self.now.topology st c.args.code c.args.stripe c.in-Err.fragment absent (c.in-Err.ensures.first st kept absent))
