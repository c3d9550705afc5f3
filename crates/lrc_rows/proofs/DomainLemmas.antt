-- The domains of the nodes of homes beside the homes.
use Rattle.std.proofs.Common.{◌≡◌, ℕ, ◌+◌, ◌<◌, ◌≤◌, nat_lt, inl, inr, Bool, true, false, cond, nat_eq, List, length, get_or, set, Option, Some, None, arith, sym, ap, ◌∙◌, subst}
use Rattle.std.proofs.Math.ListN.{length-set}
use Rattle.std.proofs.lemmas.Bool.{cases_eq, cases_lt, eq-eqb, ne_eqb, lt-ltb, le-ltb}
use Rattle.std.proofs.lemmas.List.{get_or-set_same, get_or-set_other}
use Rattle.std.proofs.lemmas.Option.{same_Some}
use Rattle.lrc_code.specs.declared.numbers.StripeNo.{StripeNo}
use Rattle.lrc_code.specs.Numbers.{same_stripe}
use Rattle.lrc_topology.specs.declared.NodeInfo.{NodeInfo}
use Rattle.lrc_topology.specs.declared.seat.Seat.{Seat}
use Rattle.lrc_topology.specs.Nodes.{node_at}
use Rattle.lrc_homes.specs.declared.home_domains.HomeDomains.{HomeDomains}
use Rattle.lrc_rows.specs.declared.row.Row.{Row}
use Rattle.lrc_terms.specs.Levels.{Homes}
use Rattle.lrc_rows.specs.Listed.{row_homes}
use Rattle.lrc_homes.specs.Domains.{AreDomainsOf, AreDomainsKept}

-- ---- one stripe

module _ (nodes : List NodeInfo) (before after : HomeDomains) (f : ℕ) (low : f < 16) (m : NodeInfo) (seat : Seat) (found : node_at nodes seat.node ≡ Some m)
    (faults : after.faults ≡ set before.faults f m.fault.value) (upgrades : after.upgrades ≡ set before.upgrades f m.upgrade.value) where
  -- one fragment has its home on this seat
  pub domains-with : (homes : Homes) → AreDomainsOf nodes homes before → AreDomainsOf nodes (λ g. cond (nat_eq f g) (Some seat) (homes g)) after
  domains-with homes are g own n is at = elim (cases_eq f g) [
    | inl same ↦
        let here : Some seat ≡ Some own = ap (λ b. cond b (Some seat) (homes g)) (sym (eq-eqb f g same)) ∙ is in
        let node : m ≡ n = same_Some _ _ (sym found ∙ (ap (λ (x : Seat). node_at nodes x.node) (same_Some _ _ here) ∙ at)) in (
          ap (λ xs. get_or xs g 0) faults
              ∙ (ap (λ k. get_or (set before.faults f m.fault.value) k 0) (sym same) ∙ (get_or-set_same before.faults f m.fault.value 0 (let long = before.sixteen_faults in omega (arith, low, long)) ∙ ap (λ (x : NodeInfo). x.fault.value) node)),
          ap (λ xs. get_or xs g 0) upgrades
              ∙ (ap (λ k. get_or (set before.upgrades f m.upgrade.value) k 0) (sym same) ∙ (get_or-set_same before.upgrades f m.upgrade.value 0 (let long = before.sixteen_upgrades in omega (arith, low, long)) ∙ ap (λ (x : NodeInfo). x.upgrade.value) node)),
        )
    | inr other ↦
        let there : homes g ≡ Some own = ap (λ b. cond b (Some seat) (homes g)) (sym (ne_eqb f g other)) ∙ is in
        let was = are g own n there at in (
          ap (λ xs. get_or xs g 0) faults ∙ (get_or-set_other before.faults f g m.fault.value 0 (λ e. other (sym e)) ∙ was.0),
          ap (λ xs. get_or xs g 0) upgrades ∙ (get_or-set_other before.upgrades f g m.upgrade.value 0 (λ e. other (sym e)) ∙ was.1),
        )
  ]

-- each home is one that was
pub domains-of-fewer : (nodes : List NodeInfo) (homes after : Homes) (d : HomeDomains) → ((f : ℕ) (seat : Seat) → after f ≡ Some seat → homes f ≡ Some seat)
    → AreDomainsOf nodes homes d → AreDomainsOf nodes after d
domains-of-fewer nodes homes after d was are f seat n is at = are f seat n (was f seat is) at

-- the homes of the fragments so far, and one more
pub domains-next : (nodes : List NodeInfo) (homes : Homes) (i k : ℕ) (here : Seat) → i < 16 → k ≡ i → homes i ≡ Some here → (before after : HomeDomains) (m : NodeInfo) → node_at nodes here.node ≡ Some m
    → after.faults ≡ set before.faults k m.fault.value → after.upgrades ≡ set before.upgrades k m.upgrade.value
    → AreDomainsOf nodes (λ f. cond (nat_lt f i) (homes f) None) before → AreDomainsOf nodes (λ f. cond (nat_lt f (i + 1)) (homes f) None) after
domains-next nodes homes i k here below number home before after m found faults upgrades are =
    domains-of-fewer nodes (λ g. cond (nat_eq k g) (Some here) (cond (nat_lt g i) (homes g) None)) (λ g. cond (nat_lt g (i + 1)) (homes g) None) after
    (λ g seat is. elim (cases_eq k g) [
      | inl same ↦
          rw (eq-eqb k g same)
          (let past : g < i + 1 = omega (arith, number, same) in
          sym home ∙ (ap homes (sym number ∙ same) ∙ (ap (λ b. cond b (homes g) None) (sym (lt-ltb g (i + 1) past)) ∙ is)))
      | inr other ↦ rw (ne_eqb k g other) (elim (cases_lt g i) [
        | inl less ↦
            let past : g < i + 1 = omega (arith, less) in
            ap (λ b. cond b (homes g) None) (lt-ltb g i less ∙ sym (lt-ltb g (i + 1) past)) ∙ is
        | inr more ↦
            let past : i + 1 ≤ g = omega (arith, more, other, number) in
            absurd (let clash : ◌≡◌ {A = Option Seat} None (Some seat) = ap (λ b. cond b (homes g) None) (sym (le-ltb g (i + 1) past)) ∙ is in cc)
      ])
    ])
    (domains-with nodes before after k (omega (arith, number, below)) m here found faults upgrades (λ g. cond (nat_lt g i) (homes g) None) are)

-- the homes of all fragments
pub domains-all : (nodes : List NodeInfo) (homes : Homes) (i : ℕ) (d : HomeDomains) → ((f : ℕ) → i ≤ f → homes f ≡ None) → AreDomainsOf nodes (λ f. cond (nat_lt f i) (homes f) None) d
    → AreDomainsOf nodes homes d
domains-all nodes homes i d past are = domains-of-fewer nodes (λ f. cond (nat_lt f i) (homes f) None) homes d
    (λ f seat is. elim (cases_lt f i) [
      | inl below ↦ ap (λ b. cond b (homes f) None) (lt-ltb f i below) ∙ is
      | inr above ↦ absurd (let clash : ◌≡◌ {A = Option Seat} None (Some seat) = sym (past f above) ∙ is in cc)
    ])
    are

-- one fragment has no home
pub domains-without : (nodes : List NodeInfo) (homes : Homes) (d : HomeDomains) (f : ℕ) → AreDomainsOf nodes homes d → AreDomainsOf nodes (λ g. cond (nat_eq f g) None (homes g)) d
domains-without nodes homes d f are = domains-of-fewer nodes homes (λ g. cond (nat_eq f g) None (homes g)) d (λ g seat is. left (nat_eq f g) (homes g) seat is) are where
  left : (b : Bool) (o : Option Seat) (seat : Seat) → cond b None o ≡ Some seat → o ≡ Some seat
  left true o seat e = absurd (let clash : ◌≡◌ {A = Option Seat} None (Some seat) = e in cc)
  left false o seat e = e

-- ---- all stripes

-- there are no homes
pub domains-none : (nodes : List NodeInfo) (homes : StripeNo → Homes) (list : List HomeDomains) → length list ≡ 4096 → ((s : StripeNo) (f : ℕ) → homes s f ≡ None)
    → AreDomainsKept nodes homes list
domains-none nodes homes list long bare = record {
  long = long;
  each = λ s d f seat n is at. absurd (let clash : ◌≡◌ {A = Option Seat} None (Some seat) = sym (bare s f) ∙ is in cc);
}

module _ (nodes : List NodeInfo) (list : List HomeDomains) where
  -- a stripe has no homes
  pub domains-dropped : (homes : StripeNo → Homes) (s : StripeNo) → AreDomainsKept nodes homes list → AreDomainsKept nodes (λ t f. cond (same_stripe s t) None (homes t f)) list
  domains-dropped homes s are = record { long = are.long; each = λ t d f seat n is at. are.each t d f seat n (left (same_stripe s t) (homes t f) seat is) at } where
    left : (b : Bool) (o : Option Seat) (seat : Seat) → cond b None o ≡ Some seat → o ≡ Some seat
    left true o seat e = absurd (let clash : ◌≡◌ {A = Option Seat} None (Some seat) = e in cc)
    left false o seat e = e

  -- a stripe has another row, whose domains are these
  pub domains-put : (rows after : StripeNo → Option Row) (s : StripeNo) (q : Row) (put : HomeDomains) → after ≡ (λ t. cond (same_stripe s t) (Some q) (rows t))
      → AreDomainsOf nodes (λ f. get_or q.homes f None) put → AreDomainsKept nodes (λ t. row_homes (rows t)) list → AreDomainsKept nodes (λ t. row_homes (after t)) (set list s.value put)
  domains-put rows after s q put is own are = record {
    long = length-set list s.value put ∙ are.long;
    each = λ t d f seat n home at. elim (cases_eq s.value t.value) [
      | inl same ↦
          let inside : s.value < length list = let below = s.in_range in let long = are.long in omega (arith, below, long) in
          let here : put ≡ get_or (set list s.value put) t.value d = sym (ap (λ k. get_or (set list s.value put) k d) (sym same) ∙ get_or-set_same list s.value put d inside) in
          let to : after t ≡ Some q = ap (λ (rows : StripeNo → Option Row). rows t) is ∙ ap (λ b. cond b (Some q) (rows t)) (eq-eqb s.value t.value same) in
          subst (λ (h : HomeDomains). (get_or h.faults f 0 ≡ n.fault.value) × (get_or h.upgrades f 0 ≡ n.upgrade.value)) here
          (own f seat n (sym (ap (λ (o : Option Row). row_homes o f) to) ∙ home) at)
      | inr other ↦
          let there : get_or list t.value d ≡ get_or (set list s.value put) t.value d = sym (get_or-set_other list s.value t.value put d (λ e. other (sym e))) in
          let to : after t ≡ rows t = ap (λ (rows : StripeNo → Option Row). rows t) is ∙ ap (λ b. cond b (Some q) (rows t)) (ne_eqb s.value t.value other) in
          subst (λ (h : HomeDomains). (get_or h.faults f 0 ≡ n.fault.value) × (get_or h.upgrades f 0 ≡ n.upgrade.value)) there
          (are.each t d f seat n (sym (ap (λ (o : Option Row). row_homes o f) to) ∙ home) at)
    ];
  }

-- the homes of a row where one is this or none
pub domains-set : (nodes : List NodeInfo) (homes : List (Option Seat)) (f : ℕ) (home : Option Seat) (d : HomeDomains) (after : List (Option Seat)) → f < length homes → after ≡ set homes f home
    → AreDomainsOf nodes (λ g. cond (nat_eq f g) home (get_or homes g None)) d → AreDomainsOf nodes (λ g. get_or after g None) d
domains-set nodes homes f home d after within is are = domains-of-fewer nodes (λ g. cond (nat_eq f g) home (get_or homes g None)) (λ g. get_or after g None) d (λ g seat own. at g ∙ own) are where
  at : (g : ℕ) → cond (nat_eq f g) home (get_or homes g None) ≡ get_or after g None
  at g = elim (cases_eq f g) [
    | inl same ↦
        rw (eq-eqb f g same) (sym (ap (λ hs. get_or hs g None) is ∙ (ap (λ k. get_or (set homes f home) k None) (sym same) ∙ get_or-set_same homes f home None within)))
    | inr other ↦
        rw (ne_eqb f g other) (sym (ap (λ hs. get_or hs g None) is ∙ get_or-set_other homes f g home None (λ e. other (sym e))))
  ]
