-- The rows that are written of what a call changed.
use Rattle.std.proofs.Common.{◌≡◌, ℕ, List, [], ◌∷◌, ◌++◌, map, length, refl, sym, ap, ◌∙◌, subst}
use Rattle.lrc_topology.specs.declared.NodeInfo.{NodeInfo}
use Rattle.lrc_terms.specs.Stripes.{StripeFragment}
use Rattle.lrc_rules.specs.declared.entry.Entry.{Entry}
use Rattle.lrc_rules.specs.States.{State}
use Rattle.lrc_rules.specs.Histories.{World, state_from}
use Rattle.lrc_rules.proofs.AlikeWorldLemmas.{world_from-append}
use Rattle.lrc_book.specs.Books.{BookView, state_of, state_after_entry}
use Rattle.lrc_walks.specs.WalkRows.{AreFirstRows}
use Rattle.lrc_changes.specs.declared.touch.Former.{Former}
use Rattle.lrc_changes.specs.declared.change.LrcChange.{LrcChange}
use Rattle.lrc_changes.specs.Changes.{former, changed, row_now, changes}

state-made : (b after : BookView) (e : Entry) → after.history ≡ b.history ++ e ∷ [] → after.nodes ≡ b.nodes → after.base ≡ b.base
    → state_of after ≡ state_after_entry b e
state-made b after e history nodes base =
    ap (λ (ns : List NodeInfo). state_from ns after.base after.history) nodes ∙ ap (λ (w : World). state_from b.nodes w after.history) base
    ∙ ap (state_from b.nodes b.base) history ∙ ap (λ (w : World). w.state) (world_from-append b.nodes b.base b.history (e ∷ []))

-- a row of each
rows-of : (was now : State) (ps : List StripeFragment) → map (row_now now) (map (former was) ps) ≡ map (λ p. row_now now (former was p)) ps
rows-of was now [] = refl
rows-of was now (p ∷ ps) = ap (λ (rows : List LrcChange). row_now now (former was p) ∷ rows) (rows-of was now ps)

pub rows-made : (b after : BookView) (e : Entry) (formers : List Former) (count : ℕ) (before rows : List LrcChange)
    → formers ≡ map (former (state_of b)) (changed (state_of b) (state_after_entry b e))
    → after.history ≡ b.history ++ e ∷ [] → after.nodes ≡ b.nodes → after.base ≡ b.base → count ≡ length formers
    → AreFirstRows (map (row_now (state_of after)) formers) (length formers) before rows
    → AreFirstRows (changes (state_of b) (state_of after)) count before rows
rows-made b after e formers count before rows found history nodes base counted written =
    let was = state_of b in
    let now = state_of after in
    let all : map (row_now now) formers ≡ changes was now =
    ap (map (row_now now)) found ∙ ap (λ (next : State). map (row_now now) (map (former was) (changed was next))) (sym (state-made b after e history nodes base))
    ∙ rows-of was now (changed was now) in
    subst (λ (k : ℕ). AreFirstRows (changes was now) k before rows) (sym counted)
    (subst (λ (l : List LrcChange). AreFirstRows l (length formers) before rows) all written)
