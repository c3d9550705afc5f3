use Rattle.std.proofs.Common.{sym}
use Rattle.lrc_rows.proofs.rows.Rows.level.Goals as goal

pub losses_kept-requires-clause-domains : goal.losses_kept-requires-clause-domains
losses_kept-requires-clause-domains c = c.requires.kept.domains c.args.stripe c.in-Some.row.now (sym c.in-Some.ensures)
