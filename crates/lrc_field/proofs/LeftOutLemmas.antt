-- What is left out where a recoverable set is lost: all of its other members, and as many fragments as make four.
use Rattle.std.proofs.Common.{◌≡◌, ℕ, ◌+◌, ◌-◌, ◌<◌, ◌≤◌, Bool, true, false, not, ◌&&◌, ◌||◌, eqb, ltb, List, length, refl, ap, ◌∙◌, inl, inr, arith}
use Rattle.std.specs.List.{list_all, list_any}
use Rattle.std.proofs.lemmas.List.Sums.{length-filter}
use Rattle.std.proofs.lemmas.Bool.{and_parts, or_cases, eqb-true, le-ltb, not-true}
use Rattle.lrc_code.specs.declared.codes.Code.{Code}
use Rattle.lrc_code.specs.declared.codes.Code.TheVariants.{Wide, Narrow}
use Rattle.lrc_code.specs.declared.codes.Class.{Class}
use Rattle.lrc_code.specs.declared.codes.Class.TheVariants.{A, B, G}
use Rattle.lrc_code.specs.Codes.{fragment_count, members}
use Rattle.lrc_code.specs.Losses.{FragmentSet, IsRecoverable, losses_in, size_of, joined}
use Rattle.lrc_code.proofs.LossesLemmas.{by_counts, members-below}
use Rattle.lrc_code.proofs.SubsetsLemmas.{count_by-joined, count_by-within}
use Rattle.lrc_field.specs.Stripes.{numbers_of}
use Rattle.lrc_field.specs.Weights.{lost_in, out_of_a, out_of_b, third_out}
use Rattle.lrc_field.proofs.SublistLemmas.{each, each_at, any_filter, at_listed, excess_by}
use Rattle.lrc_field.proofs.MemberLemmas.{only, only_one, fragments_listed, in_set}
use Rattle.lrc_field.proofs.ZeroLemmas.{is_out}

-- a fragment and three others
abbrev pub four : ℕ → ℕ → ℕ → ℕ → ℕ → Bool
four f x y z g = eqb g f || is_out x y z g

-- the number is the last of the list, and none of the others is in the set
abbrev pub ends_alone : (ℕ → Bool) → ℕ → List ℕ → Bool
ends_alone t g xs = list_all (λ h. eqb h g || (ltb h g && not (t h))) xs

-- A fragment that nothing asks to leave out: it is the last of a local group of which no other is left out, or the last
-- of all that could be left out.
abbrev pub is_spare : Code → (ℕ → Bool) → ℕ → Bool
is_spare code t g = (ends_alone t g (members code A) || ends_alone t g (members code B)) || list_all (λ h. t h || ltb h g) (numbers_of code)

-- the fragment is in one of the lists, or nothing asks to leave it out
abbrev is_needed_or_spare : Code → List ℕ → List ℕ → List ℕ → (ℕ → Bool) → ℕ → Bool
is_needed_or_spare code la lb lg t g = (list_any (eqb g) la || (list_any (eqb g) lb || list_any (eqb g) lg)) || is_spare code t g

-- the lists can't be those of the others of a recoverable set in which the fragment's local group has another loss
is_barred : Code → List ℕ → List ℕ → List ℕ → ℕ → Bool
is_barred code la lb lg f =
    (list_any (eqb f) la || (list_any (eqb f) lb || list_any (eqb f) lg)) || (ltb (length la) (losses_in code A (only f)) || ltb (length lb) (losses_in code B (only f)))

-- the three are a member of each local group and a third fragment, none is the fragment, all of the lists are among them,
-- and the rest is spare
is_good : Code → List ℕ → List ℕ → List ℕ → ℕ → ℕ → ℕ → ℕ → Bool
is_good code la lb lg f x y z =
    (list_any (eqb x) (members code A) && (list_any (eqb y) (members code B) && (list_any (eqb z) (numbers_of code) && not (eqb z x || eqb z y))))
    && (((not (is_out x y z f) && eqb (size_of code (four f x y z)) 4) && (list_all (is_out x y z) la && (list_all (is_out x y z) lb && list_all (is_out x y z) lg)))
    && (is_needed_or_spare code la lb lg (four f x y z) x && (is_needed_or_spare code la lb lg (four f x y z) y && is_needed_or_spare code la lb lg (four f x y z) z)))

covers : Code → List ℕ → List ℕ → List ℕ → ℕ → Bool
covers code la lb lg f =
    elim (is_barred code la lb lg f) [ true ↦ true | false ↦ is_good code la lb lg f (out_of_a code la) (out_of_b code lb) (third_out code la lb lg f) ]

covers_all : Code → List ℕ → List ℕ → List ℕ → Bool
covers_all code la lb lg = elim (ltb 1 (excess_by la lb lg)) [ true ↦ true | false ↦ list_all (covers code la lb lg) (numbers_of code) ]

covers_b : Code → List ℕ → Bool
covers_b code la = each (λ lb. each (covers_all code la lb) 1 (members code G)) 2 (members code B)

wide_covered : each (covers_b Wide) 2 (members Wide A) ≡ true
unfolding covers_b covers_all covers is_barred is_good
wide_covered = refl

narrow_covered : each (covers_b Narrow) 2 (members Narrow A) ≡ true
unfolding covers_b covers_all covers is_barred is_good
narrow_covered = refl

all_covered : (code : Code) → each (covers_b code) 2 (members code A) ≡ true
all_covered Wide = wide_covered
all_covered Narrow = narrow_covered

at_b : (code : Code) (o : FragmentSet) (la : List ℕ) → covers_b code la ≡ true → length (lost_in code B o) ≤ 2 → length (lost_in code G o) ≤ 1 → covers_all code la (lost_in code B o) (lost_in code G o) ≡ true
unfolding covers_b
at_b code o la h few_b few_g =
    each_at (covers_all code la (lost_in code B o)) 1 (members code G) (each_at (λ lb. each (covers_all code la lb) 1 (members code G)) 2 (members code B) h o few_b) o few_g

at_f : (code : Code) (la lb lg : List ℕ) (f : ℕ) → covers_all code la lb lg ≡ true → excess_by la lb lg ≤ 1 → f < fragment_count code → covers code la lb lg f ≡ true
unfolding covers_all
at_f code la lb lg f h few within = at_listed (covers code la lb lg) f (numbers_of code) (rw (le-ltb 1 (excess_by la lb lg) few, covers_all) at h) (fragments_listed code f within)

not_barred : (code : Code) (la lb lg : List ℕ) (f : ℕ) → list_any (eqb f) la ≡ false → list_any (eqb f) lb ≡ false → list_any (eqb f) lg ≡ false → losses_in code A (only f) ≤ length la → losses_in code B (only f) ≤ length lb → is_barred code la lb lg f ≡ false
unfolding is_barred
not_barred code la lb lg f in_a in_b in_g near_a near_b =
    let e : ((list_any (eqb f) la || (list_any (eqb f) lb || list_any (eqb f) lg)) || (ltb (length la) (losses_in code A (only f)) || ltb (length lb) (losses_in code B (only f)))) ≡ false =
    rw (in_a, in_b, in_g, le-ltb (length la) (losses_in code A (only f)) near_a, le-ltb (length lb) (losses_in code B (only f)) near_b) refl in
    e

good_from : (code : Code) (la lb lg : List ℕ) (f : ℕ) → covers code la lb lg f ≡ true → is_barred code la lb lg f ≡ false → is_good code la lb lg f (out_of_a code la) (out_of_b code lb) (third_out code la lb lg f) ≡ true
unfolding covers
good_from code la lb lg f h free = rw (free, covers) at h

-- what is left out beside the fragment
pub record Out (code : Code) (o : FragmentSet) (f x y z : ℕ) : Type 0 where
  pub in_a : list_any (eqb x) (members code A) ≡ true
  pub in_b : list_any (eqb y) (members code B) ≡ true
  pub listed : list_any (eqb z) (numbers_of code) ≡ true
  pub apart : (eqb z x || eqb z y) ≡ false
  pub other : is_out x y z f ≡ false
  pub count : size_of code (four f x y z) ≡ 4
  pub lost : (g : ℕ) → g < fragment_count code → o g ≡ true → is_out x y z g ≡ true
  pub spare : (g : ℕ) → is_out x y z g ≡ true → o g ≡ false → is_spare code (four f x y z) g ≡ true

abbrev is_lost_or_spare : Code → FragmentSet → (ℕ → Bool) → ℕ → Bool
is_lost_or_spare code o t g = is_needed_or_spare code (lost_in code A o) (lost_in code B o) (lost_in code G o) t g

-- what is not lost is spare
spare_from : (code : Code) (o : FragmentSet) (t : ℕ → Bool) (g : ℕ) → o g ≡ false → is_lost_or_spare code o t g ≡ true → is_spare code t g ≡ true
spare_from code o t g kept h = rw (any_filter o g (members code A) kept, any_filter o g (members code B) kept, any_filter o g (members code G) kept) at h

spare_of_three : (code : Code) (o : FragmentSet) (t : ℕ → Bool) (x y z : ℕ) → (is_lost_or_spare code o t x && (is_lost_or_spare code o t y && is_lost_or_spare code o t z)) ≡ true → (g : ℕ) → is_out x y z g ≡ true → o g ≡ false → is_spare code t g ≡ true
spare_of_three code o t x y z h g out kept =
    let p = and_parts (is_lost_or_spare code o t x) (is_lost_or_spare code o t y && is_lost_or_spare code o t z) h in
    let q = and_parts (is_lost_or_spare code o t y) (is_lost_or_spare code o t z) p.1 in
    spare_from code o t g kept (elim (or_cases (eqb g x) (eqb g y || eqb g z) out) [
      | inl is_x ↦ ap (is_lost_or_spare code o t) (eqb-true g x is_x) ∙ p.0
      | inr later ↦ elim (or_cases (eqb g y) (eqb g z) later) [
        | inl is_y ↦ ap (is_lost_or_spare code o t) (eqb-true g y is_y) ∙ q.0
        | inr is_z ↦ ap (is_lost_or_spare code o t) (eqb-true g z is_z) ∙ q.1
      ]
    ])

out_from : (code : Code) (o : FragmentSet) (f x y z : ℕ) → is_good code (lost_in code A o) (lost_in code B o) (lost_in code G o) f x y z ≡ true → Out code o f x y z
unfolding is_good
out_from code o f x y z h =
    let la = lost_in code A o in
    let lb = lost_in code B o in
    let lg = lost_in code G o in
    let t = is_out x y z in
    let is_counted = (not (is_out x y z f) && eqb (size_of code (four f x y z)) 4) && (list_all t la && (list_all t lb && list_all t lg)) in
    let are_spare = is_lost_or_spare code o (four f x y z) x && (is_lost_or_spare code o (four f x y z) y && is_lost_or_spare code o (four f x y z) z) in
    let p = and_parts (list_any (eqb x) (members code A) && (list_any (eqb y) (members code B) && (list_any (eqb z) (numbers_of code) && not (eqb z x || eqb z y)))) (is_counted && are_spare) h in
    let both = and_parts is_counted are_spare p.1 in
    let q = and_parts (list_any (eqb x) (members code A)) (list_any (eqb y) (members code B) && (list_any (eqb z) (numbers_of code) && not (eqb z x || eqb z y))) p.0 in
    let r = and_parts (list_any (eqb y) (members code B)) (list_any (eqb z) (numbers_of code) && not (eqb z x || eqb z y)) q.1 in
    let s = and_parts (list_any (eqb z) (numbers_of code)) (not (eqb z x || eqb z y)) r.1 in
    let u = and_parts (not (is_out x y z f) && eqb (size_of code (four f x y z)) 4) (list_all t la && (list_all t lb && list_all t lg)) both.0 in
    let w = and_parts (not (is_out x y z f)) (eqb (size_of code (four f x y z)) 4) u.0 in
    let a = and_parts (list_all t la) (list_all t lb && list_all t lg) u.1 in
    let b = and_parts (list_all t lb) (list_all t lg) a.1 in
    record {
      in_a = q.0;
      in_b = r.0;
      listed = s.0;
      apart = not-true (eqb z x || eqb z y) s.1;
      other = not-true (is_out x y z f) w.0;
      count = eqb-true (size_of code (four f x y z)) 4 w.1;
      lost = λ g few hit. in_set code o t a.0 b.0 b.1 g few hit;
      spare = spare_of_three code o (four f x y z) x y z both.1;
    }

-- in each local group that has the fragment, another is lost
pub record IsNear (code : Code) (o : FragmentSet) (f p : ℕ) : Type 0 where
  pub within : p < fragment_count code
  pub near_a : losses_in code A (only f) ≤ losses_in code A (λ g. o g && eqb g p)
  pub near_b : losses_in code B (only f) ≤ losses_in code B (λ g. o g && eqb g p)

inner : (b c : Bool) → (b && c) ≡ true → b ≡ true
inner true c h = refl
inner false c h = absurd (let e : false ≡ true = h in cc)

-- a larger set has no fewer losses
pub near-within : (code : Code) (o t : FragmentSet) (f p : ℕ) → ((g : ℕ) → (o g && eqb g p) ≡ true → t g ≡ true) → IsNear code o f p → (losses_in code A (only f) ≤ losses_in code A t) × (losses_in code B (only f) ≤ losses_in code B t)
near-within code o t f p within near =
    let n = fragment_count code in
    let m = λ (g : ℕ). o g && eqb g p in
    let a = count_by-within t m n (λ g few hit. within g hit) (members code A) (members-below code A) in
    let b = count_by-within t m n (λ g few hit. within g hit) (members code B) (members-below code B) in
    (omega (arith, near.near_a, a), omega (arith, near.near_b, b))

-- a set and one more fragment
pub losses-one_more : (code : Code) (o : FragmentSet) (f : ℕ) → o f ≡ false → (c : Class) → losses_in code c (joined o (only f)) ≡ losses_in code c o + losses_in code c (only f)
losses-one_more code o f out c = count_by-joined o (only f) (fragment_count code) (λ g few here. ap o (eqb-true g f here) ∙ out) (members code c) (members-below code c)

excess_few : (a b g x y z fa fb fg : ℕ) → x ≡ a + fa → y ≡ b + fb → z ≡ g + fg → fa + fb + fg ≡ 1 → fa ≤ a → fb ≤ b → (x - 1) + (y - 1) + z ≤ 2 → (a - 1) + (b - 1) + g ≤ 1
excess_few a b g x y z fa fb fg ex ey ez one near_a near_b few = omega (arith, ex, ey, ez, one, near_a, near_b, few)

bound_a : (x y z : ℕ) → (x - 1) + (y - 1) + z ≤ 1 → x ≤ 2
bound_a x y z h = omega arith

bound_b : (x y z : ℕ) → (x - 1) + (y - 1) + z ≤ 1 → y ≤ 2
bound_b x y z h = omega arith

bound_g : (x y z : ℕ) → (x - 1) + (y - 1) + z ≤ 1 → z ≤ 1
bound_g x y z h = omega arith

-- what is left out where a recoverable set is lost
pub left_out : (code : Code) (o : FragmentSet) (f p : ℕ) → f < fragment_count code → o f ≡ false → IsNear code o f p → IsRecoverable code (joined o (only f)) →
    Out code o f (out_of_a code (lost_in code A o)) (out_of_b code (lost_in code B o)) (third_out code (lost_in code A o) (lost_in code B o) (lost_in code G o) f)
left_out code o f p within out near good =
    let la = lost_in code A o in
    let lb = lost_in code B o in
    let lg = lost_in code G o in
    let a = length-filter o (members code A) in
    let b = length-filter o (members code B) in
    let g = length-filter o (members code G) in
    let enough = near-within code o o f p (λ g hit. inner (o g) (eqb g p) hit) near in
    let few = excess_few (losses_in code A o) (losses_in code B o) (losses_in code G o) (losses_in code A (joined o (only f))) (losses_in code B (joined o (only f))) (losses_in code G (joined o (only f))) (losses_in code A (only f)) (losses_in code B (only f)) (losses_in code G (only f))
    (losses-one_more code o f out A) (losses-one_more code o f out B) (losses-one_more code o f out G) (only_one code f within) enough.0 enough.1 ((by_counts code (joined o (only f))).0 good) in
    let few_a : length la ≤ 2 = rw a (bound_a (losses_in code A o) (losses_in code B o) (losses_in code G o) few) in
    let few_b : length lb ≤ 2 = rw b (bound_b (losses_in code A o) (losses_in code B o) (losses_in code G o) few) in
    let few_g : length lg ≤ 1 = rw g (bound_g (losses_in code A o) (losses_in code B o) (losses_in code G o) few) in
    let near_a : losses_in code A (only f) ≤ length la = rw a enough.0 in
    let near_b : losses_in code B (only f) ≤ length lb = rw b enough.1 in
    out_from code o f (out_of_a code la) (out_of_b code lb) (third_out code la lb lg f)
    (good_from code la lb lg f
    (at_f code la lb lg f (at_b code o la (each_at (covers_b code) 2 (members code A) (all_covered code) o few_a) few_b few_g) (rw (a, b, g) few) within)
    (not_barred code la lb lg f (any_filter o f (members code A) out) (any_filter o f (members code B) out) (any_filter o f (members code G) out) near_a near_b))
