-- From what a fragment is rebuilt, told by the mask of the missing fragments.
use Rattle.std.proofs.Common.{◌≡◌, ℕ, Bool, true, false, not, ◌&&◌, if◌then◌else◌, eqb, List, Option, Some, None, refl, sym, ap, ◌∙◌, inl, inr}
use Rattle.std.specs.Option.{option_map_or}
use Rattle.std.proofs.Math.Path.{fun_ext}
use Rattle.std.proofs.lemmas.Bool.{cases_Bool, ltb-true, ltb-false}
use Rattle.std.proofs.lemmas.Nat.Bits.{bit_at_above}
use Rattle.std.proofs.lemmas.Option.{same_Some}
use Rattle.lrc_code.specs.declared.codes.Code.{Code}
use Rattle.lrc_code.specs.declared.codes.Code.TheVariants.{Wide, Narrow}
use Rattle.lrc_code.specs.declared.losses.LossMask.{LossMask}
use Rattle.lrc_code.specs.declared.numbers.StripeNo.{StripeNo}
use Rattle.lrc_code.specs.declared.numbers.Fragment.{Fragment}
use Rattle.lrc_code.specs.Codes.{fragment_count, has_fragment, others}
use Rattle.lrc_code.specs.Losses.{FragmentSet, bits_set, bits_of, is_recoverable, is_local}
use Rattle.lrc_code.proofs.BitsLemmas.{bits_set-bits_of, bits_of-below}
use Rattle.lrc_topology.specs.declared.NodeInfo.{NodeInfo}
use Rattle.lrc_topology.specs.declared.seat.Seat.{Seat}
use Rattle.lrc_terms.specs.Levels.{homes_of, needs_in, missing_if, needs_if}
use Rattle.lrc_rules.specs.declared.kind.Kind.{Kind}
use Rattle.lrc_rules.specs.declared.kind.Kind.TheVariants.{Global, Move}
use Rattle.lrc_rules.specs.States.{State, has_stripe, code_of, online_at, drains_at, missing}
use Rattle.lrc_rules.specs.Repairs.{local_kind, kind, is_global, is_safe, is_at_home, needs}
use Rattle.lrc_store.specs.Stores.{repair_of}

-- the bits of the number are the members of a set of the code's fragments, also behind the last of these
bits-all : (code : Code) (m : FragmentSet) → ((f : ℕ) → has_fragment code f ≡ false → m f ≡ false) → (f : ℕ) → bits_set (bits_of code m) f ≡ m f
bits-all code m none f = elim (cases_Bool (has_fragment code f)) [
  | inl within ↦ bits_set-bits_of code m f (ltb-true f (fragment_count code) within)
  | inr past ↦
      ap (λ n. eqb n 1) (bit_at_above (bits_of code m) (fragment_count code) f (bits_of-below code m) (ltb-false f (fragment_count code) past)) ∙ sym (none f past)
]

-- what is answered by whether the fragment is at home
unfoldable from-home : List NodeInfo → State → StripeNo → Fragment → Bool → Option Kind
from-home nodes st s f home =
    let k = if home then Move else (if is_local (code_of st s) (missing nodes st s) f then local_kind (code_of st s) (others (code_of st s) f) else Global) in
    if (not (is_safe nodes st s) && is_global k) then None else Some k

moved-by : (safe : Bool) → (if (not safe && is_global Move) then None else Some Move) ≡ Some Move
moved-by true = refl
moved-by false = refl

-- a fragment at home is moved
pub repair-move : (nodes : List NodeInfo) (st : State) (s : StripeNo) (f : Fragment) → is_at_home nodes st s f ≡ true
    → repair_of nodes st s f ≡ Some Move
unfolding kind from-home
repair-move nodes st s f home = ap (from-home nodes st s f) home ∙ moved-by (is_safe nodes st s)

not-twice : (b : Bool) → b ≡ not (not b)
not-twice true = refl
not-twice false = refl

-- one that is rebuilt from its group needs no more than that
local-suffices : (code : Code) (safe : Bool) (sources : List Fragment)
    → (if (not safe && is_global (local_kind code sources)) then None else Some (local_kind code sources)) ≡ Some (local_kind code sources)
local-suffices Wide true sources = refl
local-suffices Wide false sources = refl
local-suffices Narrow true sources = refl
local-suffices Narrow false sources = refl

module _ (nodes : List NodeInfo) (st : State) (s : StripeNo) where
  abbrev own : Code
  own = code_of st s

  module _ (there : has_stripe st s ≡ true) (mask : LossMask) (is : Some mask ≡ missing_if (has_stripe st s) own (online_at nodes st) (homes_of st.homes s)) where
    mask-is : Some mask ≡ Some (record { bits = bits_of own (missing nodes st s) })
    unfolding missing_if
    mask-is = is ∙ ap (λ b. if b then Some (record { bits = bits_of own (missing nodes st s) }) else None) there

    mask-set : bits_set mask.bits ≡ missing nodes st s
    mask-set =
        ap (λ (m : LossMask). bits_set m.bits) (same_Some mask (record { bits = bits_of own (missing nodes st s) }) mask-is)
        ∙ fun_ext (bits-all own (missing nodes st s) (λ f past. rw past refl))

    at_home-by : (o : Option Seat) → option_map_or (λ seat. online_at nodes st seat.node) o false
        ≡ not (option_map_or (λ seat. not (online_at nodes st seat.node)) o true)
    at_home-by None = refl
    at_home-by (Some seat) = not-twice (online_at nodes st seat.node)

    -- a fragment of the code is at home where it is not missing
    pub mask-home : (f : Fragment) → has_fragment own f.value ≡ true → is_at_home nodes st s f ≡ not (bits_set mask.bits f.value)
    mask-home f has =
        let home = homes_of st.homes s f.value in
        at_home-by home
        ∙ ap not (sym (ap (λ (m : FragmentSet). m f.value) mask-set
        ∙ ap (λ b. b && option_map_or (λ seat. not (online_at nodes st seat.node)) home true) has))

    module _ (f : Fragment) (away : is_at_home nodes st s f ≡ false) where
      -- what is answered where the fragment is not at home
      abbrev repair-by : Bool → Bool → Option Kind
      repair-by near safe =
          if (not safe && is_global (if near then local_kind own (others own f) else Global)) then None
          else Some (if near then local_kind own (others own f) else Global)

      abbrev local-by : Bool → Option Kind
      local-by near = if near then Some (local_kind own (others own f)) else None

      repair-away : repair_of nodes st s f ≡ repair-by (is_local own (missing nodes st s) f) (is_recoverable own (missing nodes st s))
      unfolding kind from-home
      repair-away = ap (from-home nodes st s f) away

      by-local : (near safe : Bool) (k : Kind) → local-by near ≡ Some k → repair-by near safe ≡ Some k
      by-local false safe k e = absurd (let never : None ≡ Some k = e in cc)
      by-local true safe k e = local-suffices own safe (others own f) ∙ e

      by-whole : (near safe : Bool) → local-by near ≡ None → repair-by near safe ≡ (if safe then Some Global else None)
      by-whole true safe e = absurd (let never : Some (local_kind own (others own f)) ≡ None = e in cc)
      by-whole false true e = refl
      by-whole false false e = refl

      pub repair-local : (k : Kind) → local-by (is_local own (bits_set mask.bits) f) ≡ Some k → repair_of nodes st s f ≡ Some k
      repair-local k found =
          repair-away
          ∙ by-local (is_local own (missing nodes st s) f) (is_recoverable own (missing nodes st s)) k
          (sym (ap (λ (m : FragmentSet). local-by (is_local own m f)) mask-set) ∙ found)

      pub repair-whole : (safe : Bool) → local-by (is_local own (bits_set mask.bits) f) ≡ None → is_recoverable own (bits_set mask.bits) ≡ safe
          → repair_of nodes st s f ≡ (if safe then Some Global else None)
      repair-whole safe none able =
          repair-away
          ∙ by-whole (is_local own (missing nodes st s) f) (is_recoverable own (missing nodes st s))
          (sym (ap (λ (m : FragmentSet). local-by (is_local own m f)) mask-set) ∙ none)
          ∙ ap (λ b. if b then Some Global else None) (sym (ap (is_recoverable own) mask-set) ∙ able)

  masked : Bool → Option LossMask
  masked there = if there then Some (record { bits = bits_of own (missing nodes st s) }) else None

  none-masked : (there : Bool) → None ≡ masked there → there ≡ false
  unfolding masked
  none-masked false e = refl
  none-masked true e = absurd (cc)

  -- a stripe without a mask is not there
  pub unmasked : None ≡ missing_if (has_stripe st s) own (online_at nodes st) (homes_of st.homes s) → has_stripe st s ≡ false
  unfolding missing_if masked
  unmasked none = none-masked (has_stripe st s) none

-- ---- which fragments need a lease

-- the mask of a stripe that is there has them as its bits
pub needs-set : (nodes : List NodeInfo) (st : State) (s : StripeNo) → has_stripe st s ≡ true
    → (mask : LossMask) → Some mask ≡ needs_if (has_stripe st s) (code_of st s) (drains_at nodes st) (homes_of st.homes s)
    → (f : Fragment) → bits_set mask.bits f.value ≡ needs nodes st s f
unfolding needs_if
needs-set nodes st s there mask is f =
    let code = code_of st s in
    let needed = needs_in code (drains_at nodes st) (homes_of st.homes s) in
    let told : LossMask = record { bits = bits_of code needed } in
    ap (λ (m : LossMask). bits_set m.bits f.value) (same_Some mask told (is ∙ ap (λ b. if b then Some told else None) there))
    ∙ bits-all code needed (λ g past. rw past refl) f.value
