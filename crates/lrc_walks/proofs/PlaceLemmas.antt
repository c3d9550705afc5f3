-- The fragments of all stripe numbers, by their place among them.
use Rattle.std.proofs.Common.{◌≡◌, ℕ, ◌+◌, ◌*◌, ◌/◌, ◌%◌, ◌<◌, zero, suc, false, List, ◌++◌, map, get_or, flat_map, refl, sym, ap, ap₂, ◌∙◌, arith, lit<}
use Rattle.std.specs.Prelude.{nat_lt, nat_eq, nat_le, ◌&&◌, ◌||◌}
use Rattle.std.specs.List.{range_with_len}
use Rattle.std.proofs.lemmas.Bool.{le-ltb, ne_eqb}
use Rattle.std.proofs.lemmas.List.{get_or-map, map-append, ext_get_or}
use Rattle.std.proofs.lemmas.List.FromFn.{length-map-range_with_len, get_or-map-range_with_len}
use Rattle.std.proofs.lemmas.Nat.{mod_below}
use Rattle.std.proofs.Math.Nat.{mod-eq_of_lt}
use Rattle.lrc_code.specs.declared.numbers.StripeNo.{StripeNo}
use Rattle.lrc_code.specs.declared.numbers.Fragment.{Fragment}
use Rattle.lrc_code.specs.Codes.{fragments, all_fragments}
use Rattle.lrc_code.proofs.NumbersLemmas.{equal_stripes, equal_fragments}
use Rattle.lrc_terms.specs.Stripes.{StripeFragment, stripe_at}
use Rattle.lrc_terms.proofs.CodeListLemmas.{fragment-number}
use Rattle.lrc_book.specs.Looks.{places}
use Rattle.lrc_walks.specs.WalkRows.{is_from, place_at}
use Rattle.lrc_walks.proofs.FoundLemmas.{range-split}

first : Fragment
first = record { value = 0; in_range = lit< tt }

-- the places of one stripe
abbrev places_of : StripeNo → List StripeFragment
places_of s = map (λ f. let p : StripeFragment = (s, f) in p) all_fragments

own-places : (a : ℕ) → places_of (stripe_at a) ≡ map place_at (range_with_len (16 * a) 16)
own-places a =
    let d : StripeFragment = (stripe_at a, first) in
    ext_get_or d (places_of (stripe_at a)) (map place_at (range_with_len (16 * a) 16)) (sym (length-map-range_with_len place_at (16 * a) 16)) (λ i within.
    let low : i < 16 = within in
    let stripe : (16 * a + i) / 16 ≡ a = omega (arith, low) in
    let number : (16 * a + i) % 16 ≡ i = omega (arith, low) in
    let f : Fragment = record { value = (16 * a + i) % 16; in_range = mod_below (16 * a + i) 16 (lit< tt) } in
    get_or-map (λ f. let p : StripeFragment = (stripe_at a, f) in p) all_fragments i first d low
    ∙ ap₂ (λ (s : StripeNo) (g : Fragment). let p : StripeFragment = (s, g) in p) (ap stripe_at (sym stripe)) (equal_fragments (get_or all_fragments i first) f (fragment-number i first low ∙ sym number))
    ∙ sym (get_or-map-range_with_len place_at (16 * a) 16 i (16 * a + i) d low refl))

places-from : (a n : ℕ) → flat_map places_of (map stripe_at (range_with_len a n)) ≡ map place_at (range_with_len (16 * a) (16 * n))
places-from a zero = refl
places-from a (suc n) =
    let long : 16 * suc n ≡ 16 + 16 * n = omega arith in
    let next : 16 * (a + 1) ≡ 16 * a + 16 = omega arith in
    ap₂ (λ (l r : List StripeFragment). l ++ r) (own-places a) (places-from (a + 1) n ∙ ap (λ k. map place_at (range_with_len k (16 * n))) next)
    ∙ sym (ap (λ k. map place_at (range_with_len (16 * a) k)) long ∙ ap (map place_at) (range-split (16 * a) 16 (16 * n))
    ∙ map-append place_at (range_with_len (16 * a) 16) (range_with_len (16 * a + 16) (16 * n)))

pub places-are : places ≡ map place_at (range_with_len 0 65536)
places-are = places-from 0 4096

early-by : (stripe fragment s f : ℕ) → s < stripe → (nat_lt stripe s || (nat_eq stripe s && nat_le fragment f)) ≡ false
early-by stripe fragment s f low = rw (le-ltb stripe s (omega (arith, low)), ne_eqb stripe s (λ e. omega (arith, e, low))) refl

-- the places of an earlier stripe come before the fragment
pub place-early : (stripe fragment i : ℕ) → i < 16 * stripe → i < 65536 → is_from stripe fragment (place_at i) ≡ false
place-early stripe fragment i early low =
    let here : i / 16 < stripe = omega (arith, early) in
    let number : (i / 16) % 4096 ≡ i / 16 = mod-eq_of_lt (omega (arith, low)) in
    early-by stripe fragment ((i / 16) % 4096) (i % 16) (omega (arith, here, number))

-- the fragment of a place
pub place-is : (i : ℕ) (s : StripeNo) (f : Fragment) → i < 65536 → s.value ≡ i / 16 → f.value ≡ i % 16 → place_at i ≡ (s, f)
place-is i s f low stripe fragment =
    ap₂ (λ (r : StripeNo) (g : Fragment). let p : StripeFragment = (r, g) in p)
    (equal_stripes (stripe_at (i / 16)) s (mod-eq_of_lt (omega (arith, low)) ∙ sym stripe))
    (equal_fragments (record { value = i % 16; in_range = mod_below i 16 (lit< tt) }) f (sym fragment))
