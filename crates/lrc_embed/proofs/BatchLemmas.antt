-- Calls one after the other, as they are made.
use Rattle.std.proofs.Common.{◌≡◌, ◌≢◌, ℕ, ◌+◌, ◌<◌, true, List, [], ◌∷◌, ◌++◌, length, take, get_or, set, Option, Some, None, refl, sym, ap, subst, ◌∙◌, arith}
use Rattle.std.proofs.lemmas.List.{take_more, take_more_set, drop-set-lt, get_or-drop, set-get_or}
use Rattle.std.proofs.lemmas.Option.{slice_get-get_or}
use Rattle.std.proofs.lemmas.Grind.{drop_more_same}
use Rattle.lrc_topology.specs.declared.NodeInfo.{NodeInfo}
use Rattle.lrc_rules.specs.declared.entry.Entry.{Entry}
use Rattle.lrc_rules.specs.Histories.{World}
use Rattle.lrc_book.specs.Books.{BookView}
use Rattle.lrc_records.specs.declared.command.LrcCommand.{LrcCommand}
use Rattle.lrc_records.specs.declared.entry.LrcEntry.{LrcEntry}
use Rattle.lrc_embed.specs.Calls.{contents}
use Rattle.lrc_embed.specs.Entries.{IsCallEntry}
use Rattle.lrc_embed.specs.Batches.{AreCalls, AreMade, StopsBefore}

-- ---- books with the same contents

abbrev Contents : Type 0
Contents = List NodeInfo × ℕ × List Entry × World × ℕ

-- a book of these contents
abbrev book_of : Contents → BookView
book_of c = record { nodes = c.0; limit = c.1; history = c.2; base = c.3; before = c.4; ready = true }

-- this holds of a book of these contents
abbrev On : (BookView → Type 0) → Option Contents → Type 0
On P None = ⊥
On P (Some c) = P (book_of c)

pub call_other : (number : ℕ) (c : LrcCommand) (e : LrcEntry) (b other after : BookView) → contents (Some other) ≡ contents (Some b)
    → IsCallEntry number c e other after → IsCallEntry number c e b after
call_other number c e b other after same is = subst (On (λ (x : BookView). IsCallEntry number c e x after)) same is

pub full_other : (b other : BookView) → contents (Some b) ≡ contents (Some other) → length other.history ≡ other.limit → length b.history ≡ b.limit
full_other b other same = subst (On (λ (x : BookView). length x.history ≡ x.limit)) (sym same)

pub callable_other : (b other : BookView) → contents (Some b) ≡ contents (Some other) → length other.history ≢ other.limit → length b.history ≢ b.limit
callable_other b other same = subst (On (λ (x : BookView). length x.history ≢ x.limit)) (sym same)

-- ---- one call more

calls_push : (cs es : List LrcEntry) (c e : LrcEntry) (b mid after : BookView) → AreCalls cs es b mid → IsCallEntry c.session c.command e mid after
    → AreCalls (cs ++ c ∷ []) (es ++ e ∷ []) b after
calls_push [] [] c e b mid after are is = (after, call_other c.session c.command e b mid after are is, refl)
calls_push [] (x ∷ xs) c e b mid after are is = absurd are
calls_push (y ∷ ys) [] c e b mid after are is = absurd are
calls_push (y ∷ ys) (x ∷ xs) c e b mid after are is = (are.0, are.1, calls_push ys xs c e are.0 mid after are.2 is)

-- the book that they lead to is known by its contents
calls_end : (cs es : List LrcEntry) (b mid after : BookView) → AreCalls cs es b mid → contents (Some after) ≡ contents (Some mid) → AreCalls cs es b after
calls_end [] [] b mid after are same = same ∙ are
calls_end [] (x ∷ xs) b mid after are same = absurd are
calls_end (y ∷ ys) [] b mid after are same = absurd are
calls_end (y ∷ ys) (x ∷ xs) b mid after are same = (are.0, are.1, calls_end ys xs are.0 mid after are.2 same)

-- no call is made by nothing
pub made_none : (calls : List LrcEntry) (b : BookView) → AreMade 0 calls calls b b
made_none calls b = (refl, refl)

module _ (calls entries : List LrcEntry) (i : ℕ) (d : LrcEntry) (b mid : BookView) (made : AreMade i calls entries b mid) where
  -- what stands at the position is still the call
  pub call_there : get_or entries i d ≡ get_or calls i d
  call_there =
      let here : i + 0 ≡ i = omega arith in
      sym (get_or-drop i entries 0 d ∙ ap (λ k. get_or entries k d) here)
      ∙ ap (λ (l : List LrcEntry). get_or l 0 d) made.1 ∙ get_or-drop i calls 0 d ∙ ap (λ k. get_or calls k d) here

  -- the call there is made
  pub made_more : (e : LrcEntry) (after : BookView) → i < length calls → i < length entries
      → IsCallEntry (get_or entries i d).session (get_or entries i d).command e mid after → AreMade (i + 1) calls (set entries i e) b after
  made_more e after within room is = (
    subst (λ (cs : List LrcEntry). AreCalls cs (take (i + 1) (set entries i e)) b after) (sym (take_more calls i d within))
        (subst (λ (es : List LrcEntry). AreCalls (take i calls ++ get_or calls i d ∷ []) es b after) (sym (take_more_set entries i e room))
        (calls_push (take i calls) (take i entries) (get_or calls i d) e b mid after made.0
        (subst (λ (c : LrcEntry). IsCallEntry c.session c.command e mid after) call_there is))),
    drop-set-lt (i + 1) entries i e (omega arith) ∙ drop_more_same entries calls i made.1,
  )

  -- the call there is not made, and nothing changes
  pub made_same : (e : LrcEntry) (after : BookView) → e ≡ get_or entries i d → contents (Some after) ≡ contents (Some mid) → AreMade i calls (set entries i e) b after
  made_same e after is same =
      subst (λ (es : List LrcEntry). AreMade i calls es b after) (sym (ap (set entries i) is ∙ set-get_or entries i d))
      (calls_end (take i calls) (take i entries) b mid after made.0 same, made.1)

  -- this holds of the call there
  pub stops_before : (P : LrcEntry → BookView → Type 0) (after : BookView) → i < length calls → P (get_or entries i d) after → StopsBefore P calls i after
  stops_before P after within holds = (get_or calls i d, slice_get-get_or calls i d within, subst (λ (c : LrcEntry). P c after) call_there holds)
