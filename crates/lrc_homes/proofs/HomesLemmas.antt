-- The homes of a stripe as they are kept.
use Rattle.std.proofs.Common.{◌≡◌, ◌≢◌, ℕ, ◌-◌, ◌<◌, ◌≤◌, inl, inr, Bool, true, false, ◌&&◌, ◌||◌, nat_eq, nat_lt, List, [], ◌∷◌, ◌++◌, length, get_or, map, set, replicate, Option, Some, None, is_some, min, bit_and, zero, suc, zero-add, arith, refl, sym, ap, ◌∙◌}
use Rattle.std.proofs.Math.ListN.{length-set}
use Rattle.std.proofs.lemmas.Bool.{cases_eq, cases_lt, eq-eqb, ne_eqb, lt-ltb, le-ltb}
use Rattle.std.specs.List.{list_any}
use Rattle.std.specs.Option.{option_map_or}
use Rattle.std.proofs.lemmas.List.{get_or_past, get_or-set_same, get_or-set_other, get_or-map, get_or_append_left, get_or-append_right, length-map, length-append, length-replicate}
use Rattle.std.proofs.lemmas.List.FromFn.{get_or-map-range_with_len, fill_by_all}
use Rattle.std.proofs.lemmas.Nat.Bits.{bit_at_and, bit_at_above, bit_at-lt, bit_at-zero}
use Rattle.std.specs.Int.{bit_at}
use Rattle.lrc_code.specs.declared.numbers.NodeNo.{NodeNo}
use Rattle.lrc_code.specs.Losses.{bits_set}
use Rattle.lrc_code.specs.declared.codes.Code.{Code}
use Rattle.lrc_code.specs.Codes.{fragment_count, has_fragment}
use Rattle.lrc_topology.specs.declared.seat.Seat.{Seat}
use Rattle.lrc_homes.specs.Homes.{seated_homes, sits_on}
use Rattle.lrc_homes.specs.HomeArrays.{home_at, homes_of}
use Rattle.lrc_terms.proofs.CodeListLemmas.{few-fragments}

-- ---- bits

-- bits of sixteen fragments are of no others
none-above : (bits f : ℕ) → bits < 65536 → 16 ≤ f → bits_set bits f ≡ false
none-above bits f few above = ap (λ n. nat_eq n 1) (bit_at_above bits 16 f few above)

-- what two masks have in common
pub both-bits : (a b c f : ℕ) → c ≡ bit_and a b → bits_set c f ≡ (bits_set a f && bits_set b f)
both-bits a b c f is =
    let met : bit_at c f ≡ min (bit_at a f) (bit_at b f) = ap (λ (n : ℕ). bit_at n f) is ∙ bit_at_and a b f in
    let low = bit_at-lt a f in
    let few = bit_at-lt b f in
    elim (cases_eq (bit_at a f) 1) [
      | inl one ↦ rw (eq-eqb _ _ one) (ap (λ (n : ℕ). nat_eq n 1) (let same : bit_at c f ≡ bit_at b f = omega (arith, met, one, few) in same))
      | inr other ↦ rw (ne_eqb _ _ other) (ne_eqb _ _ (λ e. omega (arith, met, other, e, low)))
    ]

-- ---- homes from numbers and bits

-- there are sixteen
pub homes-long : (nodes slots : List ℕ) (bits : ℕ) → length (homes_of nodes slots bits) ≡ 16
unfolding homes_of
homes-long nodes slots bits = refl

home-low : (nodes slots : List ℕ) (bits f : ℕ) → f < 16 → get_or (homes_of nodes slots bits) f None ≡ home_at nodes slots bits f
unfolding homes_of
home-low nodes slots bits f below = get_or-map-range_with_len (home_at nodes slots bits) 0 16 f f None below (zero-add f)

-- the home of each fragment
pub home-of : (nodes slots : List ℕ) (bits f : ℕ) → bits < 65536 → get_or (homes_of nodes slots bits) f None ≡ home_at nodes slots bits f
home-of nodes slots bits f few = elim (cases_lt f 16) [
  | inl below ↦ home-low nodes slots bits f below
  | inr above ↦
      get_or_past (homes_of nodes slots bits) f None (let long = homes-long nodes slots bits in omega (arith, long, above))
      ∙ sym (rw (none-above bits f few above) refl)
]

-- homes that are these of each fragment
pub homes-are : (homes : List (Option Seat)) (nodes slots : List ℕ) (bits : ℕ) → length homes ≡ 16 → ((f : ℕ) → f < 16 → get_or homes f None ≡ home_at nodes slots bits f)
    → homes ≡ homes_of nodes slots bits
unfolding homes_of
homes-are homes nodes slots bits long each = fill_by_all (home_at nodes slots bits) homes 16 None long each

-- a fragment has a home where its bit is set
pub home-there : (nodes slots : List ℕ) (bits f : ℕ) → bits < 65536 → bits_set bits f ≡ is_some (get_or (homes_of nodes slots bits) f None)
home-there nodes slots bits f few = by (bits_set bits f) refl ∙ sym (ap (λ (o : Option Seat). is_some o) (home-of nodes slots bits f few)) where
  by : (b : Bool) → bits_set bits f ≡ b → bits_set bits f ≡ is_some (home_at nodes slots bits f)
  by true is = rw is refl
  by false is = rw is refl

-- places without homes
bare : (n i : ℕ) → ◌≡◌ {A = Option Seat} (get_or (replicate n None) i None) None
bare zero i = refl
bare (suc n) zero = refl
bare (suc n) (suc i) = bare n i

-- no bit is set
pub homes-none : (nodes slots : List ℕ) (bits : ℕ) → bits ≡ 0 → homes_of nodes slots bits ≡ replicate 16 None
homes-none nodes slots bits none = sym (homes-are (replicate 16 None) nodes slots bits refl (λ f low. bare 16 f ∙ sym (rw none (off f)))) where
  off : (f : ℕ) → home_at nodes slots 0 f ≡ None
  off f = rw (bit_at-zero f) refl

-- ---- homes on seats

module _ (seats : List Seat) where
  seated-long : length seats ≤ 16 → length (seated_homes seats) ≡ 16
  seated-long few =
      let joined = length-append (map Some seats) (replicate (16 - length seats) None) in
      let count = length-map seats (λ (x : Seat). Some x) in
      let rest = length-replicate {A = Option Seat} (16 - length seats) None in
      omega (arith, joined, count, rest, few)

  -- the home of a fragment that has one
  pub seated-there : (d : Seat) (f : ℕ) → f < length seats → get_or (seated_homes seats) f None ≡ Some (get_or seats f d)
  seated-there d f below =
      get_or_append_left (map Some seats) (replicate (16 - length seats) None) None f (let count = length-map seats (λ (x : Seat). Some x) in omega (arith, below, count))
      ∙ get_or-map Some seats f d None below

  -- a fragment past the seats has none
  pub seated-past : (f : ℕ) → length seats ≤ f → get_or (seated_homes seats) f None ≡ None
  seated-past f past =
      get_or-append_right (map Some seats) (replicate (16 - length seats) None) (length seats) f None (length-map seats (λ (x : Seat). Some x)) past
      ∙ bare (16 - length seats) (f - length seats)

-- a test that no place without a home passes is one of the seats
pub seated-any : (test : Option Seat → Bool) (seats : List Seat) → test None ≡ false → list_any test (seated_homes seats) ≡ list_any test (map Some seats)
seated-any test seats fails = by seats (16 - length seats) where
  none : (n : ℕ) → list_any test (replicate n None) ≡ false
  none zero = refl
  none (suc n) = rw fails (none n)

  by : (xs : List Seat) (n : ℕ) → list_any test (map Some xs ++ replicate n None) ≡ list_any test (map Some xs)
  by [] n = none n
  by (x ∷ xs) n = ap (λ b. test (Some x) || b) (by xs n)

-- the bits are those of a code, and the numbers are those of the seats
pub homes-seated : (code : Code) (seats : List Seat) (d : Seat) (nodes slots : List ℕ) (bits : ℕ) → length seats ≡ fragment_count code
    → ((k : ℕ) → k < fragment_count code → get_or nodes k 0 ≡ (get_or seats k d).node.value)
    → ((k : ℕ) → k < fragment_count code → get_or slots k 0 ≡ (get_or seats k d).slot)
    → ((f : ℕ) → bits_set bits f ≡ has_fragment code f) → homes_of nodes slots bits ≡ seated_homes seats
homes-seated code seats d nodes slots bits long on in_slots full =
    sym (homes-are (seated_homes seats) nodes slots bits (seated-long seats (let few = few-fragments code in omega (arith, long, few))) (λ f low. elim (cases_lt f (fragment_count code)) [
      | inl below ↦ seated-there seats d f (omega (arith, below, long)) ∙ sym (rw (full f, lt-ltb f (fragment_count code) below, on f below, in_slots f below) refl)
      | inr above ↦ seated-past seats f (omega (arith, above, long)) ∙ sym (rw (full f, le-ltb f (fragment_count code) above) refl)
    ]))

-- one fragment has this home or none
pub homes-set : (nodes slots next_nodes next_slots : List ℕ) (bits next f : ℕ) (home : Option Seat) → bits < 65536 → f < 16 → home ≡ home_at next_nodes next_slots next f
    → ((g : ℕ) → g ≢ f → home_at nodes slots bits g ≡ home_at next_nodes next_slots next g) → homes_of next_nodes next_slots next ≡ set (homes_of nodes slots bits) f home
homes-set nodes slots next_nodes next_slots bits next f home few low own others =
    let was = homes_of nodes slots bits in
    let long = homes-long nodes slots bits in
    sym (homes-are (set was f home) next_nodes next_slots next (length-set was f home ∙ long)
    (λ g below. elim (cases_eq g f) [
      | inl same ↦
          ap (λ n. get_or (set was f home) n None) same
          ∙ (get_or-set_same was f home None (omega (arith, long, low)) ∙ (own ∙ ap (home_at next_nodes next_slots next) (sym same)))
      | inr other ↦ get_or-set_other was f g home None other ∙ (home-of nodes slots bits g few ∙ others g other)
    ]))

-- ---- a search for a node

-- the fragments that have a home among those whose numbers are the node's are those with a home on the node
pub homes-on : (nodes slots : List ℕ) (bits alike mask : ℕ) (n : NodeNo) → bits < 65536 → ((f : ℕ) → bits_set alike f ≡ (nat_lt f 16 && nat_eq (get_or nodes f 0) n.value))
    → mask ≡ bit_and alike bits → (f : ℕ) → bits_set mask f ≡ (nat_lt f 16 && sits_on n (get_or (homes_of nodes slots bits) f None))
homes-on nodes slots bits alike mask n few found is f =
    both-bits alike bits mask f is
    ∙ (ap (λ b. b && bits_set bits f) (found f)
    ∙ (inner (nat_lt f 16) (bits_set bits f) refl ∙ sym (ap (λ (o : Option Seat). nat_lt f 16 && sits_on n o) (home-of nodes slots bits f few)))) where
      eq-sym : (a b : ℕ) → nat_eq a b ≡ nat_eq b a
      eq-sym a b = elim (cases_eq a b) [
        | inl same ↦ eq-eqb a b same ∙ sym (eq-eqb b a (sym same))
        | inr other ↦ ne_eqb a b other ∙ sym (ne_eqb b a (λ e. other (sym e)))
      ]

      swap : (b : Bool) → (b && true) ≡ b
      swap true = refl
      swap false = refl

      bare : (b : Bool) → (b && false) ≡ false
      bare true = refl
      bare false = refl

      inner : (low there : Bool) → bits_set bits f ≡ there → (low && nat_eq (get_or nodes f 0) n.value && bits_set bits f) ≡ (low && sits_on n (home_at nodes slots bits f))
      inner false there is = refl
      inner true true is = rw is (swap (nat_eq (get_or nodes f 0) n.value) ∙ eq-sym (get_or nodes f 0) n.value)
      inner true false is = rw is (bare (nat_eq (get_or nodes f 0) n.value))

-- the fragments that have a home among those whose numbers have a flag that is set are those with a home on such a node
pub homes-flagged : (nodes slots : List ℕ) (flags : List Bool) (bits flagged mask : ℕ) → bits < 65536 → ((f : ℕ) → bits_set flagged f ≡ (nat_lt f 16 && get_or flags (get_or nodes f 0) false))
    → mask ≡ bit_and flagged bits → (f : ℕ)
    → bits_set mask f ≡ (nat_lt f 16 && option_map_or (λ seat. get_or flags seat.node.value false) (get_or (homes_of nodes slots bits) f None) false)
homes-flagged nodes slots flags bits flagged mask few found is f =
    both-bits flagged bits mask f is
    ∙ (ap (λ b. b && bits_set bits f) (found f)
    ∙ (inner (nat_lt f 16) (bits_set bits f) refl
    ∙ sym (ap (λ (o : Option Seat). nat_lt f 16 && option_map_or (λ seat. get_or flags seat.node.value false) o false) (home-of nodes slots bits f few)))) where
      right-true : (b : Bool) → (b && true) ≡ b
      right-true true = refl
      right-true false = refl

      right-false : (b : Bool) → (b && false) ≡ false
      right-false true = refl
      right-false false = refl

      inner : (low there : Bool) → bits_set bits f ≡ there
          → (low && get_or flags (get_or nodes f 0) false && bits_set bits f) ≡ (low && option_map_or (λ seat. get_or flags seat.node.value false) (home_at nodes slots bits f) false)
      inner false there is = refl
      inner true true is = rw is (right-true (get_or flags (get_or nodes f 0) false))
      inner true false is = rw is (right-false (get_or flags (get_or nodes f 0) false))
