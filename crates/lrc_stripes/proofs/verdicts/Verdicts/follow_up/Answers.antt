use Rattle.std.proofs.Common.{Bool, refl, ap, sym, ◌∙◌}
use Rattle.lrc_code.specs.declared.numbers.StripeNo.{StripeNo}
use Rattle.lrc_ranks.specs.Sets.{has}
use Rattle.lrc_rows.specs.NodeStates.{states_in}
use Rattle.lrc_stripes.proofs.VerdictLemmas.{or-parts, marked}
use Rattle.lrc_stripes.proofs.verdicts.Verdicts.follow_up.Goals as goal

pub returns-in-Some : goal.returns-in-Some
returns-in-Some c = λ lost now several after are same stays.
    marked c.args.self.now _ ((states_in c.args.node_table.now).on c.args.node) refl refl
    (λ s kept.
    let both = or-parts (has c.args.self.now.changed s) (has c.in-Some.stripes.now s) (sym (ap (λ (f : StripeNo → Bool). f s) c.insert_all.ensures) ∙ kept) in
    (sym (ap (λ (f : StripeNo → Bool). f s) c.in-Some.ensures.set) ∙ both.1, both.0))
    lost now several after are same
