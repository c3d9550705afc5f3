use Rattle.std.proofs.Common.{ℕ, Bool, ◌&&◌, nat_eq, ◌∙◌, ap}
use Rattle.lrc_code.specs.declared.numbers.StripeNo.{StripeNo}
use Rattle.lrc_code.specs.Losses.{joined}
use Rattle.lrc_terms.specs.Levels.{rank_by}
use Rattle.lrc_ranks.specs.Missing.{code_by, fragments_at}
use Rattle.lrc_ranks.specs.Sets.{has}
use Rattle.lrc_ranks.proofs.kept_planes.ranks_of.Goals as goal

pub returns : goal.returns
returns c =
    let planes = c.args.planes.now in
    c.ranked.ensures
    ∙ ap {B = ℕ → StripeNo → Bool} (λ (more : ℕ → StripeNo → Bool) (k : ℕ) (s : StripeNo). has planes.work s && nat_eq (rank_by (code_by planes.narrow s) (joined (fragments_at planes.missing s) (λ f. more f s))) k) c.new-none.ensures
