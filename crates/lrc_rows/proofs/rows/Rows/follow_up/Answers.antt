use Rattle.std.proofs.Common.{Bool, if◌then◌else◌, ap, sym, ◌∙◌}
use Rattle.lrc_code.specs.declared.numbers.StripeNo.{StripeNo}
use Rattle.lrc_code.specs.Numbers.{same_node}
use Rattle.lrc_rows.specs.NodeStates.{states_in}
use Rattle.lrc_rows.specs.Listed.{rows_in}
use Rattle.lrc_rows.proofs.RenewLemmas.{told-follows}
use Rattle.lrc_rows.proofs.rows.Rows.follow_up.Goals as goal

pub follow_node-requires : goal.follow_node-requires
follow_node-requires c = λ s none. sym (ap (λ (f : StripeNo → Bool). f s) c.work_set-work.ensures) ∙ none

pub returns-then-has_work-clause-kept : goal.returns-then-has_work-clause-kept
returns-then-has_work-clause-kept c = λ kept.
    let z = states_in c.args.node_table.now in
    told-follows z c.args.node c.args.was_up (rows_in c.follow_node.new.self.list)
    (c.follow_node.ensures.kept (λ m. if same_node c.args.node m then c.args.was_up else z.up m) kept)
