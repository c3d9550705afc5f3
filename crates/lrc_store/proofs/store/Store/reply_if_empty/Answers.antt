use Rattle.std.proofs.Common.{◌≡◌, ℕ, nat_lt, IsSome, refl, sym, ap, ◌∙◌, subst, arith}
use Rattle.std.proofs.lemmas.Bool.{lt-ltb}
use Rattle.lrc_topology.specs.Nodes.{node_at}
use Rattle.lrc_slots.specs.Slots.{Slots}
use Rattle.lrc_rules.specs.declared.reply.Reply.TheVariants.{Changed}
use Rattle.lrc_rules.specs.declared.refusal.Refusal.TheVariants as refusal
use Rattle.lrc_rules.specs.States.{load}
use Rattle.lrc_rules.specs.Outcomes.{refuse_if}
use Rattle.lrc_rules.specs.Steps.{with_gone}
use Rattle.lrc_store.proofs.ShownLemmas.{load-kept}
use Rattle.lrc_store.proofs.store.Store.reply_if_empty.Goals as goal

pub load-load-requires : goal.load-load-requires
load-load-requires c = subst (λ (t : Slots). IsSome (node_at t.nodes c.args.node)) (sym c.requires.tied.1.table_is) c.requires.known

pub returns-then-load-gt0 : goal.returns-then-load-gt0
returns-then-load-gt0 c = λ st kept.
    let counted : load st c.args.node ≡ c.load-load.result = sym
    (c.load-load.ensures.value ∙ load-kept st c.args.self.now kept c.args.node c.requires.known) in
    sym (ap (λ (count : ℕ). (refuse_if (nat_lt 0 count) (refusal.NotEmpty count) st (Changed, with_gone st c.args.node)).0) counted
    ∙ rw (lt-ltb 0 c.load-load.result (let some = c.if-load-gt0.true in omega (arith, some))) refl)

pub returns : goal.returns
returns c = λ st kept.
    let counted : load st c.args.node ≡ c.load-load.result = sym
    (c.load-load.ensures.value ∙ load-kept st c.args.self.now kept c.args.node c.requires.known) in
    let none : load st c.args.node ≡ 0 = counted ∙ (let few = c.if-load-gt0.false in omega (arith, few)) in
    sym (ap (λ (count : ℕ). (refuse_if (nat_lt 0 count) (refusal.NotEmpty count) st (Changed, with_gone st c.args.node)).0) none)
