-- The empty set of node numbers.
use Rattle.std.proofs.Common.{◌≡◌, ℕ, ◌≤◌, Bool, false, List, length, get_or, replicate, inl, inr, sym, ap, subst, ◌∙◌}
use Rattle.std.proofs.lemmas.Bool.{cases_lt}
use Rattle.std.proofs.lemmas.List.{length-replicate, get_or-replicate, get_or_past}

module _ (n : ℕ) (set : List Bool) (is : set ≡ replicate n false) where
  pub none-long : length set ≡ n
  none-long = ap length is ∙ length-replicate n false

  pub none-in : (k : ℕ) → get_or set k false ≡ false
  none-in k = elim (cases_lt k n) [
    | inl within ↦ ap (λ (l : List Bool). get_or l k false) is ∙ get_or-replicate n k false false within
    | inr past ↦ get_or_past set k false (subst (λ (m : ℕ). m ≤ k) (sym none-long) past)
  ]
