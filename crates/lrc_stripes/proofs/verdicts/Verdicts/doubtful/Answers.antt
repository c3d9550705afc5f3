use Rattle.std.proofs.Common.{◌≡◌, ◌||◌, [], Bool, true, List, get_or, ap, sym, ◌∙◌}
use Rattle.lrc_code.specs.declared.numbers.StripeNo.{StripeNo}
use Rattle.lrc_ranks.specs.Sets.{has}
use Rattle.lrc_rows.specs.NodeStates.{states_in, is_on_several_down}
use Rattle.lrc_rows.specs.Listed.{rows_in}
use Rattle.lrc_rows.specs.Kept.{row_has_work}
use Rattle.lrc_stripes.proofs.UpgradeLemmas.{left-all, left-without}
use Rattle.lrc_stripes.proofs.verdicts.Verdicts.doubtful.Goals as goal

pub returns-then-not-self : goal.returns-then-not-self
returns-then-not-self c = λ lost are.
    let z = states_in c.args.node_table.now in
    let list = c.args.rows.now.list in
    left-all (λ s. is_on_several_down z s || row_has_work (rows_in list s)) (lost c.args.domain) (has c.join_work.new.set)
    (c.join_work.ensures ∙ ap {B = StripeNo → Bool} (λ (f : StripeNo → Bool) (s : StripeNo). f s || row_has_work (rows_in list s)) c.stripes_on_several_down-all.ensures)

pub returns-in-Some : goal.returns-in-Some
returns-in-Some c = λ lost are.
    let z = states_in c.args.node_table.now in
    let list = c.args.rows.now.list in
    let several = c.insert_all.ensures ∙ (ap {B = StripeNo → Bool} (λ (f : StripeNo → Bool) (s : StripeNo). f s || has c.args.self.now.several s) c.new-left.ensures ∙ are.counted c.if-not-self.false) in
    left-without (λ s. is_on_several_down z s || row_has_work (rows_in list s)) (lost c.args.domain) (has c.join_work-2.new.set) (has c.in-Some.safe.now) (has c.remove_all.new.self)
    (c.join_work-2.ensures ∙ ap {B = StripeNo → Bool} (λ (f : StripeNo → Bool) (s : StripeNo). f s || row_has_work (rows_in list s)) several)
    (λ t there.
    are.safe c.args.domain t (sym (ap (λ (x : List Bool). has x t) (c.in-Some.ensures.lookup.3.1 []) ∙ ap (λ (sets : List (List Bool)). has (get_or sets c.args.domain.value []) t) c.deref.ensures.value) ∙ there)
    (are.unchanged c.if-not-self.false t))
    c.remove_all.ensures

pub returns-in_default : goal.returns-in_default
returns-in_default c = λ lost are.
    let z = states_in c.args.node_table.now in
    let list = c.args.rows.now.list in
    let several = c.insert_all.ensures ∙ (ap {B = StripeNo → Bool} (λ (f : StripeNo → Bool) (s : StripeNo). f s || has c.args.self.now.several s) c.new-left.ensures ∙ are.counted c.if-not-self.false) in
    left-all (λ s. is_on_several_down z s || row_has_work (rows_in list s)) (lost c.args.domain) (has c.join_work-2.new.set)
    (c.join_work-2.ensures ∙ ap {B = StripeNo → Bool} (λ (f : StripeNo → Bool) (s : StripeNo). f s || row_has_work (rows_in list s)) several)
