-- One read, and one write, after another.
use Rattle.std.proofs.Common.{◌≡◌, ℕ, Bool, ◌||◌, ◌&&◌, nat_eq, ◌+◌, ◌-◌, ◌++◌, ◌≤◌, List, [], ◌∷◌, length, take, drop, Option, Some, None, refl, sym, ap, subst, ◌∙◌, arith, append_assoc, length-append, length-take, length-drop, take-add}
use Rattle.std.proofs.lemmas.Bool.{ne_eqb}
use Rattle.std.proofs.Math.Bool.{or-false}
use Rattle.std.specs.Io.KnownBytes.{Appends, Consumes}
use Rattle.lrc_streams.specs.Streams.{ConsumesAtMost}

appends_both : (a b c : Option (List ℕ)) (bs cs : List ℕ) → Appends a b bs → Appends b c cs → Appends a c (bs ++ cs)
appends_both None b c bs cs p q = tt
appends_both (Some x) None c bs cs p q = absurd p
appends_both (Some x) (Some y) None bs cs p q = absurd q
appends_both (Some x) (Some y) (Some z) bs cs p q = q ∙ ap (λ l. l ++ cs) p ∙ append_assoc x bs cs

consumes_both : (a b c : Option (List ℕ)) (bs cs : List ℕ) → Consumes a b bs → Consumes b c cs → Consumes a c (bs ++ cs)
consumes_both None b c bs cs p q = tt
consumes_both (Some x) None c bs cs p q = absurd p
consumes_both (Some x) (Some y) None bs cs p q = absurd q
consumes_both (Some x) (Some y) (Some z) bs cs p q = p ∙ ap (λ l. bs ++ l) q ∙ sym (append_assoc bs cs z)

-- a read of more bytes
pub ConsumesAtMost-more : (a b c : Option (List ℕ)) (bytes more : List ℕ) (count most : ℕ) → Consumes a b bytes → Consumes b c (take count more) → length bytes + count ≤ most → ConsumesAtMost most a c
ConsumesAtMost-more a b c bytes more count most p q few = record {
  bytes = bytes ++ take count more;
  few = let l = length-append bytes (take count more) in let t = length-take count more in omega (arith, few, l, t);
  taken = consumes_both a b c bytes (take count more) p q;
}

take_all : {X : Type 0} (xs : List X) → take (length xs) xs ≡ xs
take_all [] = refl
take_all (x ∷ xs) = ap (λ ys. x ∷ ys) (take_all xs)

rest_whole : (bytes : List ℕ) (at : ℕ) → take (length bytes - at) (drop at bytes) ≡ drop at bytes
rest_whole bytes at = ap (λ n. take n (drop at bytes)) (sym (length-drop at bytes)) ∙ take_all (drop at bytes)

-- a write of what is left takes more bytes
pub Appends-more : (a b c : Option (List ℕ)) (bytes : List ℕ) (at count : ℕ) → Appends a b (take at bytes) → Appends b c (take count (take (length bytes - at) (drop at bytes))) → Appends a c (take (at + count) bytes)
Appends-more a b c bytes at count p q =
    subst (Appends a c) (sym (take-add at count bytes)) (appends_both a b c _ _ p (subst (λ ys. Appends b c (take count ys)) (rest_whole bytes at) q))

pub count_within : (bytes : List ℕ) (at count : ℕ) → at ≤ length bytes → count ≤ length (take (length bytes - at) (drop at bytes)) → at + count ≤ length bytes
count_within bytes at count within short = let a = rw (rest_whole bytes at, length-drop at bytes) at short in omega (arith, a)

-- a write that took some bytes has not failed
pub calm_more : (was now more : Bool) (count : ℕ) → now ≡ (was || (nat_eq count 0 && more)) → (count ≡ 0 → ⊥) → now ≡ was
calm_more was now more count e some = rw (ne_eqb count 0 some, or-false) at e
