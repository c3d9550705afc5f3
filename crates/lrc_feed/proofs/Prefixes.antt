-- Prefixes of lists.
use Rattle.std.proofs.Common.{◌≡◌, ℕ, zero, suc, ◌≤◌, List, [], ◌∷◌, ◌++◌, length, take, Some, slice_get, refl, ap, sym, ◌∙◌, arith, length-append}
use mathlib.Core.List.{IsPrefix}

-- a prefix as long as the whole is the whole
pub prefix_whole : {A : Type 0} (xs ys : List A) → IsPrefix xs ys → length ys ≤ length xs → xs ≡ ys
prefix_whole [] [] p le = refl
prefix_whole [] (y ∷ ys) p le = absurd (omega arith)
prefix_whole (x ∷ xs) [] p le = absurd (cc (p.1))
prefix_whole (x ∷ xs) (y ∷ ys) p le =
    let rest = prefix_whole xs ys (p.0, cc (p.1)) (omega arith) in cc (p.1, rest)

pub prefix_length : {A : Type 0} (xs ys : List A) → IsPrefix xs ys → length xs ≤ length ys
prefix_length xs ys p = omega (arith, sym (ap length p.1) ∙ length-append xs p.0)

-- what a list begins with does not change as the list grows
pub take_prefix : {A : Type 0} (xs ys : List A) (n : ℕ) → IsPrefix xs ys → n ≤ length xs → take n ys ≡ take n xs
take_prefix xs ys zero p le = refl
take_prefix [] ys (suc n) p le = absurd (omega arith)
take_prefix (x ∷ xs) [] (suc n) p le = absurd (cc (p.1))
take_prefix (x ∷ xs) (y ∷ ys) (suc n) p le =
    let head : y ≡ x = cc (p.1) in
    let rest = take_prefix xs ys n (p.0, cc (p.1)) (omega arith) in cc (head, rest)

-- one element more
pub take_next : {A : Type 0} (xs : List A) (n : ℕ) (x : A) → slice_get xs n ≡ Some x → take (suc n) xs ≡ take n xs ++ x ∷ []
take_next [] n x h = absurd cc
take_next (y ∷ ys) zero x h = cc (h)
take_next (y ∷ ys) (suc n) x h = ap (λ zs. y ∷ zs) (take_next ys n x h)

pub take_length : {A : Type 0} (xs : List A) (n : ℕ) → n ≤ length xs → length (take n xs) ≡ n
take_length xs zero le = refl
take_length [] (suc n) le = absurd (omega arith)
take_length (x ∷ xs) (suc n) le = ap suc (take_length xs n (omega arith))

-- of two that one list begins with the shorter begins the longer
pub takes_begin : {A : Type 0} (xs ys zs : List A) (n m : ℕ) → IsPrefix xs zs → IsPrefix ys zs → n ≤ length xs → m ≤ length ys → n ≤ m
    → IsPrefix (take n xs) (take m ys)
takes_begin xs ys zs zero m p q ln lm le = (take m ys, refl)
takes_begin [] ys zs (suc n) m p q ln lm le = absurd (omega arith)
takes_begin (x ∷ xs) ys zs (suc n) zero p q ln lm le = absurd (omega arith)
takes_begin (x ∷ xs) [] zs (suc n) (suc m) p q ln lm le = absurd (omega arith)
takes_begin (x ∷ xs) (y ∷ ys) [] (suc n) (suc m) p q ln lm le = absurd (cc (p.1))
takes_begin (x ∷ xs) (y ∷ ys) (z ∷ zs) (suc n) (suc m) p q ln lm le =
    let heads : x ≡ y = cc (p.1, q.1) in
    let rest = takes_begin xs ys zs n m (p.0, cc (p.1)) (q.0, cc (q.1)) (omega arith) (omega arith) (omega arith) in
    (rest.0, cc (heads, rest.1))

nothing_last : {A : Type 0} (bs : List A) (last : A) → [] ≡ bs ++ last ∷ [] → ⊥
nothing_last [] last h = cc h
nothing_last (b ∷ bs) last h = cc h

-- the elements before the last
pub take_before : {A : Type 0} (xs before : List A) (last : A) (n : ℕ) → take (suc n) xs ≡ before ++ last ∷ [] → suc n ≤ length xs → take n xs ≡ before
take_before [] before last n h le = absurd (omega arith)
take_before (x ∷ xs) [] last zero h le = refl
take_before (x ∷ []) [] last (suc n) h le = absurd (omega arith)
take_before (x ∷ y ∷ xs) [] last (suc n) h le = absurd (cc h)
take_before (x ∷ xs) (b ∷ bs) last zero h le = absurd (nothing_last bs last (cc (h)))
take_before (x ∷ xs) (b ∷ bs) last (suc n) h le =
    let heads : x ≡ b = cc (h) in let rest = take_before xs bs last n (cc (h)) (omega arith) in cc (heads, rest)
