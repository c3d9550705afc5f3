use Rattle.lrc_rows.specs.Listed.{rows_in}
use Rattle.lrc_rows.specs.Kept.{IsMissingOn, IsWithMissing}
use Rattle.lrc_rows.proofs.BecomeLemmas.{renewed-alike, missing_on-put}
use Rattle.lrc_rows.proofs.rows.Rows.renew_missing_of.Goals as goal

pub returns-clause-rows : goal.returns-clause-rows
returns-clause-rows c =
    let fragments = c.fragments_on-fragments.result in
    let changed = c.put_missing.ensures.rows in
    renewed-alike (IsWithMissing fragments c.args.are_missing) (IsMissingOn c.args.node c.args.are_missing) (rows_in c.args.self.now.list) (rows_in c.put_missing.new.self.list) c.args.stripe
    (record { listed = changed.listed; others = changed.others })
    (λ r q there is. missing_on-put c.args.node c.args.are_missing fragments r q (c.fragments_on-fragments.ensures.on r there) is)
