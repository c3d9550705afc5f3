-- A walk over the book of an open handle, from the rows that it writes.
use Rattle.std.proofs.Common.{◌≡◌, ℕ, List, take, length, Option, Some, inl, refl, sym, ◌∙◌, subst, arith}
use Rattle.lrc_book.specs.Books.{BookView}
use Rattle.lrc_walks.specs.WalkRows.{AreFirstRows}
use Rattle.lrc_embed.specs.declared.status.TheConstants.{DONE}
use Rattle.lrc_embed.specs.Walks.{IsWalk}
use Rattle.lrc_embed.proofs.OfLemmas.{of_some}

-- a walk over the book of an open handle
pub walk-done : {T : Type 0} (Rows : BookView → List T) (old new : Option BookView) (b shown : BookView) (before after : List T) (count_before count : ℕ) → old ≡ Some b → new ≡ Some b
    → shown ≡ b → AreFirstRows (take (length before) (Rows shown)) count before after → IsWalk Rows old new DONE before after count_before count
walk-done Rows old new b shown before after count_before count was is own rows = record {
  same = is ∙ sym was;
  done = λ z. of_some (λ (x : BookView). AreFirstRows (take (length before) (Rows x)) count before after) was
      (subst (λ (x : BookView). AreFirstRows (take (length before) (Rows x)) count before after) own rows);
  closed = λ e. absurd (omega (arith, e));
  statuses = inl refl;
  unwritten = λ other. absurd (other refl);
}
