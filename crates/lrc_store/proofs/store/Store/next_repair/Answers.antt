use Rattle.std.proofs.Common.{IsTrue, suc, List, Option, find, option_map, sym, ap, ◌∙◌, subst, arith}
use Rattle.std.specs.List.{All}
use Rattle.std.specs.Option.{option_or}
use Rattle.lrc_code.specs.declared.numbers.StripeNo.{StripeNo}
use Rattle.lrc_terms.specs.Stripes.{StripeFragment}
use Rattle.lrc_stripes.specs.Tables.{stored_in}
use Rattle.lrc_store.specs.declared.repair.Repair.{Repair}
use Rattle.lrc_rules.specs.Urgency.{is_grantable}
use Rattle.lrc_store.specs.Repairing.{fragment_of, HaveGrantable}
use Rattle.lrc_rules.proofs.UrgencyLemmas.{fragments_in}
use Rattle.lrc_store.proofs.NoRoomLemmas.{no-next}
use Rattle.lrc_store.proofs.store.Store.next_repair.Goals as goal
use Rattle.lrc_store.proofs.WorkLemmas.{grantable-turn, next-first}

pub returns-then-not-has_free_seat-clause-first : goal.returns-then-not-has_free_seat-clause-first
returns-then-not-has_free_seat-clause-first c = λ st kept ahead. no-next st c.args.self.now kept (sym (c.has_free_seat.ensures st kept) ∙ c.if-not-has_free_seat.true)

pub loop-stripe-init : goal.loop-stripe-init
loop-stripe-init c =
    let stripes = c.into_iter-stripe-iterator.result in
    let same = sym c.into_iter-stripe-iterator.ensures.into_iter_gives in (
      subst (All (λ s. IsTrue ((stored_in c.args.self.now.stripes).stripes s))) same c.work_from-stripe-items.ensures.there,
      λ st kept ahead.
          next-first c.args.self.now.topology st stripes
          (subst (HaveGrantable c.args.self.now.topology st) same (c.work_from-stripe-items.ensures.all st kept ahead)),
    )

pub first_repair-requires : goal.first_repair-requires
first_repair-requires c =
    let there = subst (All (λ s. IsTrue ((stored_in c.args.self.now.stripes).stripes s))) c.in-Some.ensures.steps c.loop-stripe.invariant.0 in
    record { tied = (c.requires.0, c.requires.1); there = there 0 c.in-Some.stripe (omega (arith)) }

pub returns-in-Some-first_repair-clause-first : goal.returns-in-Some-first_repair-clause-first
returns-in-Some-first_repair-clause-first c = λ st kept ahead.
    let test = is_grantable c.args.self.now.topology st in
    let rest = c.next.new.self in
    sym (
    c.loop-stripe.invariant.1 st kept ahead ∙ ap (λ (left : List StripeNo). find test (fragments_in st left)) c.in-Some.ensures.steps ∙ grantable-turn c.args.self.now.topology st c.in-Some.stripe rest
    ∙ ap (λ (o : Option StripeFragment). option_or o (find test (fragments_in st rest))) (sym (c.first_repair.ensures.first st kept) ∙ ap (λ (o : Option Repair). option_map fragment_of o) c.in-Some-first_repair.is)
    )

pub loop-stripe-preserved : goal.loop-stripe-preserved
loop-stripe-preserved c =
    let rest = c.next.new.self in
    let there = subst (All (λ s. IsTrue ((stored_in c.args.self.now.stripes).stripes s))) c.in-Some.ensures.steps c.loop-stripe.invariant.0 in (
      λ k d within. there (suc k) d (omega (arith, within)),
      λ st kept ahead.
          let test = is_grantable c.args.self.now.topology st in
          c.loop-stripe.invariant.1 st kept ahead ∙ ap (λ (left : List StripeNo). find test (fragments_in st left)) c.in-Some.ensures.steps ∙ grantable-turn c.args.self.now.topology st c.in-Some.stripe rest
          ∙ ap (λ (o : Option StripeFragment). option_or o (find test (fragments_in st rest))) (sym (c.first_repair.ensures.first st kept) ∙ ap (λ (o : Option Repair). option_map fragment_of o) c.in_default.is),
    )
