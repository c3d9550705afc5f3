use Rattle.std.proofs.Common.{sym}
use Rattle.lrc_rows.specs.Listed.{rows_in}
use Rattle.lrc_rows.proofs.TurnLemmas.{any-on}
use Rattle.lrc_rows.proofs.rows.Rows.is_on.Goals as goal

pub returns : goal.returns
returns c =
    any-on (rows_in c.args.self.now.list c.args.stripe) c.args.node c.fragments_on.result.bits c.fragments_on.ensures.few c.fragments_on.ensures.on (sym c.requires)
