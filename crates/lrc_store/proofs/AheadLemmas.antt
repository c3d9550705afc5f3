-- Homes on a node that is emptied, none of which stands before a stripe.
use Rattle.std.proofs.Common.{◌≡◌, ℕ, ◌≤◌, arith, nat_eq, nat_lt, ◌&&◌, false, true, List, ◌∷◌, not, Option, Some, None, option_map, refl, sym, ap, ◌∙◌, subst, IsTrue, inl, inr}
use Rattle.std.specs.List.{AllPairs, Contains}
use Rattle.std.specs.Option.{option_map_or}
use Rattle.std.proofs.lemmas.Bool.{or_cases, and_parts, eqb-true, ltb-true}
use Rattle.std.proofs.lemmas.List.Elements.{All-contains}
use Rattle.lrc_code.specs.Numbers.{same_stripe}
use Rattle.lrc_code.specs.declared.numbers.StripeNo.{StripeNo}
use Rattle.lrc_code.specs.declared.numbers.NodeNo.{NodeNo}
use Rattle.lrc_code.specs.declared.numbers.Fragment.{Fragment}
use Rattle.lrc_topology.specs.declared.seat.Seat.{Seat}
use Rattle.lrc_topology.specs.declared.seat.Held.{Held}
use Rattle.lrc_terms.specs.Levels.{home_of}
use Rattle.lrc_stripes.specs.Stored.{Stored, AreHomesOn, AreHomesOnFrom, is_home_on}
use Rattle.lrc_terms.specs.Stripes.{StripeFragment, comes_before}
use Rattle.lrc_stripes.specs.Tables.{stored_in}
use Rattle.lrc_store.specs.declared.store.Store.{Store}
use Rattle.lrc_rules.specs.States.{State, is_home_of}
use Rattle.lrc_store.specs.Stores.{IsOf}
use Rattle.lrc_rules.proofs.MemberLemmas.{filter-member, Contains-cases, AllPairs-head}
use Rattle.lrc_store.proofs.FragmentLemmas.{bared}
use Rattle.lrc_store.proofs.EmptyLemmas.{home_is-parts}
use Rattle.lrc_rules.proofs.LookUpLemmas.{home-only, found-home}

-- no home on the node is of a stripe before this number
abbrev pub IsAhead : Stored → NodeNo → ℕ → Type 0
IsAhead t n first = (p : StripeFragment) → IsTrue (is_home_on t n p) → first ≤ p.0.value

-- then those from the stripe on are all
pub homes-from : (t : Stored) (n : NodeNo) (first : StripeNo) (places : List StripeFragment) → IsAhead t n first.value → AreHomesOnFrom t n first places → AreHomesOn t n places
homes-from t n first places ahead on = record {
  rising = on.rising;
  each = λ p. (λ here. ((on.each p).0 here).0, λ hit. (on.each p).1 (hit, ahead p hit));
}

not-later : (p q : StripeFragment) → comes_before p q ≡ true → p.0.value ≤ q.0.value
not-later p q first = elim (or_cases (nat_lt p.0.value q.0.value) (same_stripe p.0 q.0 && nat_lt p.1.value q.1.value) first) [
  | inl less ↦ (let low = ltb-true p.0.value q.0.value less in omega (arith, low))
  | inr same ↦ (let one = eqb-true p.0.value q.0.value (and_parts (same_stripe p.0 q.0) (nat_lt p.1.value q.1.value) same).0 in omega (arith, one))
]

-- and none is before the first of them
pub first-ahead : (t : Stored) (n : NodeNo) (places rest : List StripeFragment) (s : StripeNo) (f : Fragment) → AreHomesOn t n places → places ≡ (s, f) ∷ rest → IsAhead t n s.value
first-ahead t n places rest s f on e p hit =
    let here : Contains ((s, f) ∷ rest) p = subst (λ (ps : List StripeFragment). Contains ps p) e ((on.each p).1 hit) in
    let rising = subst (λ (ps : List StripeFragment). AllPairs (λ p q. IsTrue (comes_before p q)) ps) e on.rising in
    elim (Contains-cases (s, f) p rest here) [
      | inl same ↦ (let one = ap (λ (q : StripeFragment). q.0.value) same in omega (arith, one))
      | inr more ↦ not-later (s, f) p (All-contains (λ q. IsTrue (comes_before (s, f) q)) rest p (AllPairs-head (λ p q. IsTrue (comes_before p q)) (s, f) rest rising) more)
    ]

-- a home that is left when another is cleared was there before
module _ (st : State) (k k2 : Store) (kept : IsOf st k) (s : StripeNo) (f : Fragment) (next : IsOf (bared st s f) k2) (n : NodeNo) where
  still-home : (p : StripeFragment) (o : Option Held) → home_of (bared st s f).homes p.0 p.1.value ≡ o
      → option_map_or (λ (h : Held). nat_eq n.value h.seat.node.value) o false ≡ true → home_of st.homes p.0 p.1.value ≡ o
  still-home p None e hit = absurd (let never : false ≡ true = hit in cc)
  still-home p (Some h) e hit =
      let found = found-home (bared st s f) p.0 p.1.value h e in
      let parts = home_is-parts p.0 p.1.value h found.1 in
      let own = home-only st.homes kept.seated.one_home h (filter-member (λ g. not (is_home_of s f g)) st.homes h found.0).0 in
      rw (sym parts.0, sym parts.1) own

  shown : (st : State) (k : Store) → IsOf st k → (p : StripeFragment) → is_home_on (stored_in k.stripes) n p
      ≡ option_map_or (λ (h : Held). nat_eq n.value h.seat.node.value) (home_of st.homes p.0 p.1.value) false
  shown st k kept p =
      ap (λ (t : Stored). is_home_on t n p) kept.stripes_is ∙ by (home_of st.homes p.0 p.1.value)
    where
      by : (o : Option Held) → option_map_or (λ (seat : Seat). nat_eq n.value seat.node.value) (option_map (λ (h : Held). h.seat) o) false
          ≡ option_map_or (λ (h : Held). nat_eq n.value h.seat.node.value) o false
      by None = refl
      by (Some h) = refl

  pub cleared-ahead : (first : ℕ) → IsAhead (stored_in k.stripes) n first → IsAhead (stored_in k2.stripes) n first
  cleared-ahead first ahead p hit =
      let there = sym (shown (bared st s f) k2 next p) ∙ hit in
      ahead p (shown st k kept p
      ∙ ap (λ (o : Option Held). option_map_or (λ (h : Held). nat_eq n.value h.seat.node.value) o false) (still-home p (home_of (bared st s f).homes p.0 p.1.value) refl there)
      ∙ there)
