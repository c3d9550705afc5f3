-- A list that is filled from its start.
use Rattle.std.proofs.Common.{◌≡◌, ℕ, ◌-◌, List, ◌++◌, length, take, drop, map, replicate, sym, ap, ◌∙◌}
use Rattle.std.proofs.lemmas.List.{take-append-drop, drop-replicate}
use Rattle.std.proofs.Math.Seq.{take-length}

-- once all are written, the rest is what was there before
pub filled : {X Y : Type 0} (f : X → Y) (xs : List X) (ys : List Y) (y : Y) (n i : ℕ) → i ≡ length xs → take i ys ≡ map f (take i xs)
    → drop i ys ≡ drop i (replicate n y) → ys ≡ map f xs ++ replicate (n - length xs) y
filled f xs ys y n i all front rest =
    sym (take-append-drop i ys) ∙ ap (λ zs. zs ++ drop i ys) (front ∙ ap (map f) (ap (λ k. take k xs) all ∙ take-length xs))
    ∙ ap (λ zs. map f xs ++ zs) (rest ∙ drop-replicate i n y ∙ ap (λ k. replicate (n - k) y) all)
