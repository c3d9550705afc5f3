use Rattle.std.proofs.Common.{Bool, ◌||◌, ap, ◌∙◌}
use Rattle.lrc_code.specs.declared.numbers.StripeNo.{StripeNo}
use Rattle.lrc_ranks.specs.declared.planes.Planes.{Planes}
use Rattle.lrc_ranks.specs.Sets.{has}
use Rattle.lrc_rows.proofs.rows.Rows.join_work.Goals as goal

pub returns : goal.returns
returns c =
    let same = ap {B = StripeNo → Bool} (λ (p : Planes). has p.work) c.planes.ensures in
    rw (← c.self.view_is) (c.insert_all.ensures ∙ ap {B = StripeNo → Bool} (λ (f : StripeNo → Bool) (s : StripeNo). has c.args.set.now s || f s) (same ∙ c.self.invariant.planed.work))
