use Rattle.std.proofs.Common.{Bool, subst}
use Rattle.lrc_code.specs.declared.numbers.StripeNo.{StripeNo}
use Rattle.lrc_ranks.specs.Sets.{has}
use Rattle.lrc_rows.specs.Listed.{rows_in}
use Rattle.lrc_rows.specs.Kept.{AreRenewed, IsMissingOn}
use Rattle.lrc_rows.proofs.BecomeLemmas.{missing_on-work}
use Rattle.lrc_rows.proofs.rows.Rows.renew_missing.Goals as goal

pub returns-in-Some-clause-rows : goal.returns-in-Some-clause-rows
returns-in-Some-clause-rows c =
    let n = c.args.node in
    let e = c.renew_missing_in.ensures.rows in
    subst (λ (on : StripeNo → Bool). AreRenewed on (IsMissingOn n c.args.are_missing) (rows_in c.args.self.now.list) (rows_in c.renew_missing_in.new.self.list)) c.in-Some.ensures.set
    (missing_on-work n c.args.are_missing (has c.in-Some.stripes.now) (has c.args.work.now) (has c.new-common.result) (has c.insert_common.new.self) (rows_in c.args.self.now.list)
    (rows_in c.renew_missing_in.new.self.list) c.new-common.ensures c.insert_common.ensures c.requires (record { listed = e.listed; others = e.others }))
