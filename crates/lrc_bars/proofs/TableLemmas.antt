-- Pairs of a list, told by places.
use Rattle.std.proofs.Common.{ℕ, ◌<◌, List, length, take, get_or, arith, subst}
use Rattle.std.specs.List.{All, AllPairs}
use Rattle.std.proofs.lemmas.List.{get_or-take, length-take, get_or_default}

-- each of the first elements stands so to the one behind them
pub pairs-before : {X : Type 0} (R : X → X → Type 0) (xs : List X) (i : ℕ) (d : X) → AllPairs R xs → i < length xs → All (λ x. R x (get_or xs i d)) (take i xs)
pairs-before R xs i d pairs within k e short =
    let low : k < i = omega (arith, length-take i xs, short) in
    rw (get_or-take i xs k e low) (subst (λ y. R (get_or xs k e) y) (get_or_default xs i e d within) (pairs k i e low within))
