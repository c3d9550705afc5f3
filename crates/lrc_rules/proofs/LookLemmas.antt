-- What a read returns, in words.
use Rattle.std.proofs.Common.{◌≡◌, ◌↔◌, ℕ, ◌<◌, ◌≤◌, Bool, true, false, if◌then◌else◌, eqb, List, length, map, get_or, Option, Some, None, option_map, IsSome, arith, refl, sym, ap, ap₂, ◌∙◌, subst, inl, inr}
use Rattle.std.specs.Int.{bit_at}
use Rattle.std.specs.Option.{option_map_or}
use Rattle.std.proofs.lemmas.Bool.{cases_eq, cases_lt, eq-eqb, ne_eqb}
use Rattle.std.proofs.lemmas.List.{ext_get_or, get_or-map}
use Rattle.std.proofs.lemmas.Nat.Bits.{bit_at_above, bit_at-lt, same_from_bits}
use Rattle.std.proofs.lemmas.Option.{same_Some, some_pair_parts}
use Rattle.lrc_code.specs.declared.codes.Code.{Code}
use Rattle.lrc_code.specs.declared.losses.LossMask.{LossMask}
use Rattle.lrc_code.specs.declared.numbers.StripeNo.{StripeNo}
use Rattle.lrc_code.specs.declared.numbers.NodeNo.{NodeNo}
use Rattle.lrc_code.specs.declared.numbers.Fragment.{Fragment}
use Rattle.lrc_code.specs.Codes.{fragments, fragment_count, all_fragments}
use Rattle.lrc_code.specs.Losses.{FragmentSet, bits_of, bits_set}
use Rattle.lrc_code.proofs.BitsLemmas.{bits_set-bits_of, bits_of-below}
use Rattle.lrc_topology.specs.declared.NodeInfo.{NodeInfo}
use Rattle.lrc_topology.specs.declared.seat.Seat.{Seat}
use Rattle.lrc_topology.specs.Nodes.{node_at}
use Rattle.lrc_terms.specs.Levels.{homes_of, missing_if}
use Rattle.lrc_terms.proofs.CodeListLemmas.{fragment-number}
use Rattle.lrc_terms.specs.declared.mode.Mode.{Mode}
use Rattle.lrc_rules.specs.States.{State, has_stripe, code_of, load, mode_of, is_online, online_at, missing, homes_shown, load_shown, missing_shown, mode_shown}
use Rattle.lrc_rules.proofs.NodeLemmas.{member-node_at}
use Rattle.lrc_rules.proofs.StateLemmas.{none-beyond}

-- ---- a value if a test holds

module _ {X : Type 0} (x : X) where
  pub if-some : (b : Bool) (y : X) → (if b then Some x else None) ≡ Some y → (b ≡ true) × (x ≡ y)
  if-some true y is = (refl, same_Some x y is)
  if-some false y is = absurd (cc)

  pub some-if : (b : Bool) (y : X) → (b ≡ true) × (x ≡ y) → (if b then Some x else None) ≡ Some y
  some-if b y so = rw so.0 (ap (λ (z : X). Some z) so.1)

-- ---- missing fragments

-- the bits of a mask are the members of its set, if the set has only fragments of the code
mask-members : (code : Code) (m : FragmentSet) → ((f : ℕ) → fragment_count code ≤ f → m f ≡ false) → (f : ℕ) → bits_set (bits_of code m) f ≡ m f
mask-members code m alone f = elim (cases_lt f (fragment_count code)) [
  | inl within ↦ bits_set-bits_of code m f within
  | inr past ↦ ap (λ (b : ℕ). eqb b 1) (bit_at_above (bits_of code m) (fragment_count code) f (bits_of-below code m) past) ∙ sym (alone f past)
]

same-bit : (a b : ℕ) → a < 2 → b < 2 → eqb a 1 ≡ eqb b 1 → a ≡ b
same-bit a b few few' same = elim (cases_eq a 1) [
  | inl one ↦ elim (cases_eq b 1) [
    | inl one' ↦ one ∙ sym one'
    | inr other ↦ absurd (let both : true ≡ false = sym (eq-eqb a 1 one) ∙ (same ∙ ne_eqb b 1 other) in cc)
  ]
  | inr other ↦ elim (cases_eq b 1) [
    | inl one ↦ absurd (let both : true ≡ false = sym (eq-eqb b 1 one) ∙ (sym same ∙ ne_eqb a 1 other) in cc)
    | inr other' ↦ omega (arith, few, few', other, other')
  ]
]

-- masks with the same members are equal
same-mask : (a b : ℕ) → ((f : ℕ) → bits_set a f ≡ bits_set b f) → a ≡ b
same-mask a b same = same_from_bits a b (λ i. same-bit (bit_at a i) (bit_at b i) (bit_at-lt a i) (bit_at-lt b i) (same i))

module _ (nodes : List NodeInfo) (st : State) (s : StripeNo) where
  abbrev mask : LossMask
  mask = record { bits = bits_of (code_of st s) (missing nodes st s) }

  members : (f : ℕ) → bits_set mask.bits f ≡ missing nodes st s f
  members f = mask-members (code_of st s) (missing nodes st s) (λ g past. (none-beyond nodes st s g past).1) f

  same-masks : (m : LossMask) → ((f : ℕ) → bits_set m.bits f ≡ missing nodes st s f) → mask ≡ m
  same-masks m are = ap (λ (b : ℕ). record { bits = b }) (same-mask mask.bits m.bits (λ f. members f ∙ sym (are f)))

  shown-missing : (m : LossMask) → missing_shown nodes st s ≡ Some m → (has_stripe st s ≡ true) × (mask ≡ m)
  unfolding missing_if
  shown-missing m is = if-some mask (has_stripe st s) m is

  missing-shown : (m : LossMask) → (has_stripe st s ≡ true) × (mask ≡ m) → missing_shown nodes st s ≡ Some m
  unfolding missing_if
  missing-shown m so = some-if mask (has_stripe st s) m so

  pub missing-told : (m : LossMask)
      → (missing_shown nodes st s ≡ Some m) ↔ ((has_stripe st s ≡ true) × ((f : ℕ) → bits_set m.bits f ≡ missing nodes st s f))
  missing-told m = (
    λ is.
        let so = shown-missing m is in
        (so.0, λ f. subst (λ (k : LossMask). bits_set k.bits f ≡ missing nodes st s f) so.1 (members f)),
    λ so. missing-shown m (so.0, same-masks m so.1),
  )

-- ---- homes

module _ (st : State) (s : StripeNo) where
  abbrev all_homes : List (Option Seat)
  all_homes = map (λ (f : Fragment). homes_of st.homes s f.value) all_fragments

  -- the seat of a fragment is at the position of its number
  abbrev IsAt : List (Option Seat) → Fragment → Type 0
  IsAt seats f = get_or seats f.value None ≡ homes_of st.homes s f.value

  home-at : (f : Fragment) → IsAt all_homes f
  home-at f =
      get_or-map (λ (g : Fragment). homes_of st.homes s g.value) all_fragments f.value f None f.in_range
      ∙ ap (homes_of st.homes s) (fragment-number f.value f f.in_range)

  same-homes : (seats : List (Option Seat)) → length seats ≡ 16 → ((f : Fragment) → IsAt seats f) → all_homes ≡ seats
  same-homes seats sixteen are =
      sym (ext_get_or None seats all_homes sixteen
      (λ i within. let f : Fragment = record { value = i; in_range = subst (λ (k : ℕ). i < k) sixteen within } in are f ∙ sym (home-at f)))

  pub homes-told : (seats : List (Option Seat))
      → (homes_shown st s ≡ Some seats) ↔ ((has_stripe st s ≡ true) × (length seats ≡ 16) × ((f : Fragment) → IsAt seats f))
  homes-told seats = (
    λ is.
        let so = if-some all_homes (has_stripe st s) seats is in
        (so.0, ap (λ (xs : List (Option Seat)). length xs) (sym so.1), λ f. subst (λ (xs : List (Option Seat)). IsAt xs f) so.1 (home-at f)),
    λ so. some-if all_homes (has_stripe st s) seats (so.0, same-homes seats so.1 so.2),
  )

-- ---- nodes

module _ (nodes : List NodeInfo) (st : State) (n : NodeNo) where
  abbrev mode_by : NodeInfo → Mode × Bool
  mode_by m = (mode_of st m.number, is_online st m)

  abbrev load_by : NodeInfo → ℕ
  load_by m = load st m.number

  number-is : (m : NodeInfo) → node_at nodes n ≡ Some m → n ≡ m.number
  number-is m is = (member-node_at nodes n m is).1

  mode-from : (mode : Mode) (online : Bool) (o : Option NodeInfo) → node_at nodes n ≡ o → option_map mode_by o ≡ Some (mode, online)
      → IsSome o × (mode_of st n ≡ mode) × (option_map_or (is_online st) o false ≡ online)
  mode-from mode online None is told = absurd (cc)
  mode-from mode online (Some m) is told =
      let parts = some_pair_parts (mode_of st m.number) mode (is_online st m) online told in
      (refl, subst (λ (k : NodeNo). mode_of st k ≡ mode) (sym (number-is m is)) parts.0, parts.1)

  from-mode : (mode : Mode) (online : Bool) (o : Option NodeInfo) → node_at nodes n ≡ o → IsSome o → mode_of st n ≡ mode
      → option_map_or (is_online st) o false ≡ online → option_map mode_by o ≡ Some (mode, online)
  from-mode mode online None is there as_mode as_online = absurd (cc)
  from-mode mode online (Some m) is there as_mode as_online =
      ap₂ (λ (a : Mode) (b : Bool). Some (a, b)) (subst (λ (k : NodeNo). mode_of st k ≡ mode) (number-is m is) as_mode) as_online

  pub mode-told : (mode : Mode) (online : Bool)
      → (mode_shown nodes st n ≡ Some (mode, online)) ↔ (IsSome (node_at nodes n) × (mode_of st n ≡ mode) × (online_at nodes st n ≡ online))
  mode-told mode online = (
    λ told. mode-from mode online (node_at nodes n) refl told,
    λ so. from-mode mode online (node_at nodes n) refl so.0 so.1 so.2,
  )

  load-from : (k : ℕ) (o : Option NodeInfo) → node_at nodes n ≡ o → option_map load_by o ≡ Some k → IsSome o × (load st n ≡ k)
  load-from k None is told = absurd (cc)
  load-from k (Some m) is told = (refl, subst (λ (i : NodeNo). load st i ≡ k) (sym (number-is m is)) (same_Some (load st m.number) k told))

  from-load : (k : ℕ) (o : Option NodeInfo) → node_at nodes n ≡ o → IsSome o → load st n ≡ k → option_map load_by o ≡ Some k
  from-load k None is there so = absurd (cc)
  from-load k (Some m) is there so = ap (λ (i : ℕ). Some i) (subst (λ (i : NodeNo). load st i ≡ k) (number-is m is) so)

  pub load-told : (k : ℕ) → (load_shown nodes st n ≡ Some k) ↔ (IsSome (node_at nodes n) × (load st n ≡ k))
  load-told k = (λ told. load-from k (node_at nodes n) refl told, λ so. from-load k (node_at nodes n) refl so.0 so.1)
