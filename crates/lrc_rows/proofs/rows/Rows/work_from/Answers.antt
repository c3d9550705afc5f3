use Rattle.std.proofs.Common.{◌≡◌, ℕ, Bool, true, false, sym, ap, ◌∙◌}
use Rattle.std.proofs.lemmas.Bool.{eqb-true}
use Rattle.lrc_code.specs.declared.numbers.StripeNo.{StripeNo}
use Rattle.lrc_ranks.specs.Ranks.{is_at, queue_from}
use Rattle.lrc_rows.specs.Listed.{rows_in}
use Rattle.lrc_rows.specs.Kept.{ranked}
use Rattle.lrc_rows.proofs.rows.Rows.work_from.Goals as goal

pub returns-in-Some : goal.returns-in-Some
returns-in-Some c = λ k at.
    let first = c.args.first in
    let rank = c.in-Some.rank in
    let found : is_at k c.rank.result ≡ true =
    sym (c.rank.ensures.shown k) ∙ (ap (λ (queue : ℕ → StripeNo → Bool). queue k first) c.self.invariant.works ∙ rw (← c.self.view_is) at at) in
    let same : rank ≡ k = eqb-true rank k (ap (is_at k) (sym c.in-Some.is) ∙ found) in
    rw (← c.self.view_is)
    (c.walk.ensures ∙ ap (λ (queue : ℕ → StripeNo → Bool). queue_from queue rank first.value) c.self.invariant.works
    ∙ ap (λ n. queue_from (ranked c.self.inside.upgrading (rows_in c.self.inside.list.items)) n first.value) same)

pub returns-in-None : goal.returns-in-None
returns-in-None c = λ k at.
    let found : is_at k c.rank.result ≡ true =
    sym (c.rank.ensures.shown k) ∙ (ap (λ (queue : ℕ → StripeNo → Bool). queue k c.args.first) c.self.invariant.works ∙ rw (← c.self.view_is) at at) in
    absurd (let clash : false ≡ true = ap (is_at k) (sym c.in-None.is) ∙ found in cc)
