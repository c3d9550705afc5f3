-- Which fragments need a lease, and which stripe is repaired first, in words.
use Rattle.std.proofs.Common.{◌≡◌, ℕ, ◌<◌, ◌↔◌, ◌⊎◌, inl, inr, Bool, true, Option, Some, None, IsTrue, refl}
use Rattle.std.specs.Option.{option_map_or}
use Rattle.std.proofs.lemmas.Bool.{eq-eqb, eqb-true, lt-ltb, ltb-true, and_parts, and_from, or_cases, or_left, or_right}
use Rattle.lrc_code.specs.declared.codes.Code.{Code}
use Rattle.lrc_code.specs.declared.numbers.NodeNo.{NodeNo}
use Rattle.lrc_code.specs.declared.numbers.StripeNo.{StripeNo}
use Rattle.lrc_code.specs.Codes.{fragment_count, has_fragment}
use Rattle.lrc_topology.specs.declared.seat.Seat.{Seat}
use Rattle.lrc_terms.specs.Levels.{Homes, needs_in, comes_first}

-- the fragment with this home needs a lease
abbrev IsToMove : (NodeNo → Bool) → Option Seat → Type 0
IsToMove draining home = (home ≡ None) ⊎ ((seat : Seat) × (home ≡ Some seat) × IsTrue (draining seat.node))

home-needs : (draining : NodeNo → Bool) (home : Option Seat) → option_map_or (λ seat. draining seat.node) home true ≡ true → IsToMove draining home
home-needs draining None e = inl refl
home-needs draining (Some seat) e = inr (seat, refl, e)

needs-home : (draining : NodeNo → Bool) (home : Option Seat) → IsToMove draining home → option_map_or (λ seat. draining seat.node) home true ≡ true
needs-home draining home (inl none) = rw none refl
needs-home draining home (inr (seat, is, drains)) = rw is drains

pub law_needs : (code : Code) (draining : NodeNo → Bool) (homes : Homes) (f : ℕ)
    → IsTrue (needs_in code draining homes f) ↔ ((f < fragment_count code) × IsToMove draining (homes f))
law_needs code draining homes f = (
  λ needs. let parts = and_parts (has_fragment code f) _ needs in (ltb-true f (fragment_count code) parts.0, home-needs draining (homes f) parts.1),
  λ both. and_from _ _ (lt-ltb f (fragment_count code) both.0) (needs-home draining (homes f) both.1),
)

abbrev IsFirst : (StripeNo → ℕ) → StripeNo → StripeNo → Type 0
IsFirst rank s t = (rank s < rank t) ⊎ ((rank s ≡ rank t) × (s.value < t.value))

pub law_first : (rank : StripeNo → ℕ) (s t : StripeNo) → IsTrue (comes_first rank s t) ↔ IsFirst rank s t
law_first rank s t = (
  λ first. elim (or_cases _ _ first) [
    | inl less ↦ inl (ltb-true _ _ less)
    | inr same ↦ let parts = and_parts _ _ same in inr (eqb-true _ _ parts.0, ltb-true _ _ parts.1)
  ],
  λ is. elim is [
    | inl less ↦ or_left _ _ (lt-ltb _ _ less)
    | inr (same, lower) ↦ or_right _ _ (and_from _ _ (eq-eqb _ _ same) (lt-ltb _ _ lower))
  ],
)
