-- A look whose numbers are in range, from a look without numbers.
use Rattle.std.proofs.Common.{ℕ, Option, Some, None}
use Rattle.lrc_book.specs.Books.{BookView}
use Rattle.lrc_embed.specs.Calls.{Of, IsLook}

of_by : {P Q : BookView → Type 0} (book : Option BookView) → ((b : BookView) → P b → Q b) → Of book P → Of book Q
of_by None says is = is
of_by (Some b) says is = says b is

-- what is found says this of the book
pub look_by : {T : Type 0} {Outside : Type 0} {P Q : BookView → Option T → Type 0} {old new : Option BookView} {status : ℕ} {before after : T}
    → (Outside → ⊥) → ((b : BookView) (found : Option T) → P b found → Q b found)
    → IsLook ⊥ P old new status before after → IsLook Outside Q old new status before after
look_by {old = old} {after = after} inside says l = record {
  same = l.same;
  done = λ e. of_by old (λ b. says b (Some after)) (l.done e);
  unknown = λ e. of_by old (λ b. says b None) (l.unknown e);
  closed = l.closed;
  range = (λ e. absurd (l.range.0 e), λ o. absurd (inside o));
  statuses = l.statuses;
  unwritten = l.unwritten;
}
