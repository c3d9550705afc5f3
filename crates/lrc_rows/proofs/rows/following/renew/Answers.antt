use Rattle.std.proofs.Common.{◌≡◌, ◌&&◌, Bool, true, false, [], refl, sym}
use Rattle.lrc_ranks.specs.Sets.{has}
use Rattle.lrc_rows.specs.Listed.{rows_in}
use Rattle.lrc_rows.specs.Kept.{is_in_upgrade}
use Rattle.lrc_rows.proofs.TurnLemmas.{none-upgraded}
use Rattle.lrc_rows.proofs.rows.following.renew.Goals as goal

bare : (a b : Bool) → b ≡ false → false ≡ (a && b)
bare true b e = sym e
bare false b e = refl

pub returns-then-is_empty-clause-ranks : goal.returns-then-is_empty-clause-ranks
returns-then-is_empty-clause-ranks c = record {
  more = [];
  each = λ f s low.
      bare (has c.args.planes.now.work s) (is_in_upgrade c.args.upgrading.now f (rows_in c.args.list.now.items s)) (none-upgraded c.args.upgrading.now (c.is_empty.ensures c.if-is_empty.true) f (rows_in c.args.list.now.items s));
  ranks = c.renew_by.ensures.ranks;
}
