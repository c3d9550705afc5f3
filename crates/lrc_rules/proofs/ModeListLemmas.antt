-- The lists of nodes that are gone, draining or down, after one node is added or removed.
use Rattle.std.proofs.Common.{◌≡◌, ◌||◌, ◌&&◌, Bool, true, false, not, eqb, List, [], ◌∷◌, ◌++◌, refl, sym, ap, ◌∙◌}
use Rattle.std.proofs.lemmas.Bool.{eqb-true}
use Rattle.std.proofs.lemmas.List.Folds.{list_any-append}
use Rattle.std.proofs.lemmas.Map.Views.{any-filter_same}
use Rattle.lrc_code.specs.declared.numbers.NodeNo.{NodeNo}
use Rattle.lrc_rules.specs.States.{has_number, without_number}
use Rattle.lrc_rules.proofs.LookUpLemmas.{test-sym}

module _ (numbers : List NodeNo) (n m : NodeNo) where
  pub added-apart : eqb n.value m.value ≡ false → has_number (numbers ++ n ∷ []) m ≡ has_number numbers m
  added-apart apart = list_any-append (λ (k : NodeNo). eqb m.value k.value) numbers (n ∷ []) ∙ rw (test-sym m.value n.value, apart) (or_false (has_number numbers m))
    where
      or_false : (b : Bool) → (b || false) ≡ b
      or_false true = refl
      or_false false = refl

  pub left : (b : Bool) → eqb n.value m.value ≡ b → has_number (without_number numbers n) m ≡ (not b && has_number numbers m)
  left b is =
      any-filter_same (λ (k : NodeNo). eqb m.value k.value) (λ k. not (eqb n.value k.value)) (not b)
      (λ k hit. ap (λ v. not (eqb n.value v)) (sym (eqb-true m.value k.value hit)) ∙ ap not is) numbers

  pub left-apart : eqb n.value m.value ≡ false → has_number (without_number numbers n) m ≡ has_number numbers m
  left-apart apart = left false apart
