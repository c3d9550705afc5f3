-- The domains of a stripe's homes, or of the targets of its leases, side by side bar what these seats bar.
use Rattle.std.proofs.Common.{[], ◌≡◌, ℕ, ◌+◌, ◌<◌, inl, inr, Bool, true, false, not, ◌&&◌, ◌||◌, nat_eq, nat_lt, eqb, List, ◌∷◌, ◌++◌, length, take, get_or, Option, Some, None, is_some, IsSome, bit_and, arith, refl, sym, ap, ap₂, ◌∙◌}
use Rattle.std.specs.List.{list_any}
use Rattle.std.proofs.lemmas.Bool.{cases_Bool, cases_eq, eq-eqb, ne_eqb, lt-ltb}
use Rattle.std.proofs.lemmas.List.Folds.{list_any-append, list_any_at, list_any_more, list_any_none}
use Rattle.std.proofs.lemmas.Nat.Bits.{bit_at-zero}
use Rattle.lrc_code.specs.declared.codes.Code.{Code}
use Rattle.lrc_code.specs.declared.codes.Code.TheVariants.{Wide}
use Rattle.lrc_code.specs.declared.numbers.StripeNo.{StripeNo}
use Rattle.lrc_code.specs.declared.numbers.FaultNo.{FaultNo}
use Rattle.lrc_code.specs.declared.numbers.UpgradeNo.{UpgradeNo}
use Rattle.lrc_code.specs.declared.numbers.Fragment.{Fragment}
use Rattle.lrc_code.specs.Codes.{fragments, share_class, all_fragments}
use Rattle.lrc_code.specs.Losses.{bits_set}
use Rattle.lrc_topology.specs.Nodes.{node_at}
use Rattle.lrc_topology.specs.declared.NodeInfo.{NodeInfo}
use Rattle.lrc_topology.specs.declared.seat.Seat.{Seat}
use Rattle.lrc_topology.specs.declared.seat.Held.{Held}
use Rattle.lrc_terms.proofs.LevelLemmas.{has_some-bits, has_some-none}
use Rattle.lrc_homes.proofs.HomesLemmas.{both-bits}
use Rattle.lrc_slots.specs.Barred.{Barred, joined, with_fault, with_upgrade}
use Rattle.lrc_bars.specs.Ties.{bars_fault, bars_upgrade, bars_in, closed}
use Rattle.lrc_bars.specs.Neighbouring.{stands_in, domains_bar, with_seat_fault, with_seat_upgrade}
use Rattle.lrc_bars.proofs.BarLemmas.{same_bars}
use Rattle.lrc_bars.proofs.BesideLemmas.{held_if, held_all}
use Rattle.lrc_bars.proofs.ClassBarLemmas.{closed-joined}
use Rattle.lrc_bars.proofs.FragmentListLemmas.{fragment-at}
use Rattle.lrc_rules.proofs.LookUpLemmas.{test-sym}

-- ---- what two masks have in common

and-swap : (a b : Bool) → (a && b) ≡ (b && a)
and-swap true true = refl
and-swap true false = refl
and-swap false true = refl
and-swap false false = refl

-- some fragment is in both exactly where one of these fragments' homes is in the domain
pub some-stand : (domains : List ℕ) (number alike bits met : ℕ) → met < 65536 → met ≡ bit_and alike bits
    → ((f : ℕ) → bits_set alike f ≡ (nat_lt f 16 && nat_eq (get_or domains f 0) number))
    → not (nat_eq met 0) ≡ list_any (stands_in domains bits number) all_fragments
some-stand domains number alike bits met few is same = elim (cases_eq met 0) [
  | inl none ↦ rw (eq-eqb met 0 none) (sym (list_any_none (stands_in domains bits number) all_fragments (λ i d within.
      let f = get_or all_fragments i d in
      sym (set f) ∙ rw (none, bit_at-zero f.value) refl)))
  | inr some ↦ rw (ne_eqb met 0 some) (elim (cases_Bool (list_any (stands_in domains bits number) all_fragments)) [
    | inl hit ↦ sym hit
    | inr miss ↦
        absurd (let full = has_some-bits met few some in
        let empty = has_some-none Wide (bits_set met) (λ i low. off i low miss) in let clash : true ≡ false = sym full ∙ empty in cc)
  ])
] where
  set : (f : Fragment) → bits_set met f.value ≡ stands_in domains bits number f
  set f =
      both-bits alike bits met f.value is
      ∙ ap (λ (b : Bool). b && bits_set bits f.value) (same f.value ∙ ap (λ (b : Bool). b && nat_eq (get_or domains f.value 0) number) (lt-ltb f.value 16 f.in_range))
      ∙ and-swap (nat_eq (get_or domains f.value 0) number) (bits_set bits f.value)

  off : (i : ℕ) → i < 16 → list_any (stands_in domains bits number) all_fragments ≡ false → bits_set met i ≡ false
  off i low miss =
      let f : Fragment = record { value = i; in_range = low } in
      elim (cases_Bool (stands_in domains bits number f)) [
        | inl hit ↦
            absurd (let any = list_any_at (stands_in domains bits number) all_fragments i f (omega (arith, low)) (ap (stands_in domains bits number) (fragment-at f) ∙ hit) in
            let clash : true ≡ false = sym any ∙ miss in cc)
        | inr no_hit ↦ set f ∙ no_hit
      ]

-- ---- what the homes bar

-- a test that a fragment without a home, and the fragment itself, don't pass
or-nothing : (b : Bool) → b ≡ (b || false)
or-nothing true = refl
or-nothing false = refl

module _ (nodes : List NodeInfo) (code : Code) (s : StripeNo) (f : Fragment) (homes : Fragment → Option Seat) (faults upgrades : List ℕ) (others members : ℕ)
    (others_are : (g : Fragment) → bits_set others g.value ≡ (not (eqb g.value f.value) && is_some (homes g)))
    (members_are : (g : Fragment) → bits_set members g.value ≡ (bits_set others g.value && share_class code f g))
    (known : (g : Fragment) (seat : Seat) → homes g ≡ Some seat → IsSome (node_at nodes seat.node))
    (domains : (g : Fragment) (seat : Seat) (n : NodeInfo) → homes g ≡ Some seat → node_at nodes seat.node ≡ Some n
    → (get_or faults g.value 0 ≡ n.fault.value) × (get_or upgrades g.value 0 ≡ n.upgrade.value)) where
  -- a home on a node bars its domains
  on-node : (g : Fragment) (seat : Seat) → homes g ≡ Some seat → (m : Option NodeInfo) → node_at nodes seat.node ≡ m → (one : Bool) → eqb g.value f.value ≡ one
      → ((d : FaultNo) → stands_in faults others d.value g ≡ list_any (bars_fault nodes s f d) (held_if s g (Some seat)))
      × ((d : UpgradeNo) → stands_in upgrades members d.value g ≡ list_any (bars_upgrade nodes code s f d) (held_if s g (Some seat)))
  on-node g seat home None gone one own = absurd (let there = known g seat home in let clash : false ≡ true = ap (λ (o : Option NodeInfo). is_some o) (sym gone) ∙ there in cc)
  on-node g seat home (Some n) found true own = (
    λ d. rw (others_are g, home, own, found, eq-eqb s.value s.value refl) refl,
    λ d. rw (members_are g, others_are g, home, own, found, eq-eqb s.value s.value refl) refl,
  )
  on-node g seat home (Some n) found false own = (
    λ d. rw (others_are g, home, own, found, eq-eqb s.value s.value refl)
        (ap (λ (k : ℕ). nat_eq k d.value) (domains g seat n home found).0 ∙ test-sym n.fault.value d.value ∙ or-nothing (nat_eq d.value n.fault.value)),
    λ d. rw (members_are g, others_are g, home, own, found, eq-eqb s.value s.value refl)
        (ap (λ (b : Bool). share_class code f g && b) (ap (λ (k : ℕ). nat_eq k d.value) (domains g seat n home found).1 ∙ test-sym n.upgrade.value d.value)
        ∙ or-nothing (share_class code f g && nat_eq d.value n.upgrade.value)),
  )

  one-bars : (g : Fragment) (o : Option Seat) → homes g ≡ o
      → ((d : FaultNo) → stands_in faults others d.value g ≡ list_any (bars_fault nodes s f d) (held_if s g o))
      × ((d : UpgradeNo) → stands_in upgrades members d.value g ≡ list_any (bars_upgrade nodes code s f d) (held_if s g o))
  one-bars g (Some seat) home = on-node g seat home (node_at nodes seat.node) refl (eqb g.value f.value) refl
  one-bars g None none = (λ d. ap (λ b. b && nat_eq (get_or faults g.value 0) d.value) off, λ d. ap (λ b. b && nat_eq (get_or upgrades g.value 0) d.value) (members_are g ∙ ap (λ b. b && share_class code f g) off))
    where
      and-none : (b : Bool) → (b && false) ≡ false
      and-none true = refl
      and-none false = refl

      off : bits_set others g.value ≡ false
      off = others_are g ∙ ap (λ (o : Option Seat). not (eqb g.value f.value) && is_some o) none ∙ and-none (not (eqb g.value f.value))

  -- the domains side by side bar what the homes of the other fragments bar
  pub seats-bar : (fs : List Fragment) → domains_bar faults upgrades others members fs ≡ bars_in nodes code s f (held_all s homes fs)
  seats-bar [] = refl
  seats-bar (g ∷ gs) =
      let one = one-bars g (homes g) refl in
      let rest = seats-bar gs in
      same_bars (domains_bar faults upgrades others members (g ∷ gs)) (bars_in nodes code s f (held_all s homes (g ∷ gs)))
      (λ d. ap₂ (λ (b c : Bool). b || c) (one.0 d) (ap (λ b. b.faults d) rest) ∙ sym (list_any-append (bars_fault nodes s f d) (held_if s g (homes g)) (held_all s homes gs)))
      (λ d. ap₂ (λ (b c : Bool). b || c) (one.1 d) (ap (λ b. b.upgrades d) rest) ∙ sym (list_any-append (bars_upgrade nodes code s f d) (held_if s g (homes g)) (held_all s homes gs)))

-- ---- with what is barred besides

or-turn : (a b : Bool) → (a || b) ≡ (b || a)
or-turn true true = refl
or-turn true false = refl
or-turn false true = refl
or-turn false false = refl

-- a node is barred by a home or otherwise, in its fault domain or in its upgrade domain
near-or-more : (f u g v : Bool) → ((f || u) || (g || v)) ≡ ((g || f) || (v || u))
near-or-more true u true v = refl
near-or-more true u false v = refl
near-or-more false true true v = refl
near-or-more false true false true = refl
near-or-more false true false false = refl
near-or-more false false true v = refl
near-or-more false false false true = refl
near-or-more false false false false = refl

-- targets, the upgrading domain and homes bar together what all seats and the upgrading domain bar
pub homes-beside : (nodes : List NodeInfo) (code : Code) (s : StripeNo) (f : Fragment) (upgrading : Option UpgradeNo) (homes targets : List Held)
    → joined (closed upgrading (bars_in nodes code s f targets)) (bars_in nodes code s f homes) ≡ closed upgrading (bars_in nodes code s f (homes ++ targets))
homes-beside nodes code s f upgrading homes targets =
    closed-joined upgrading (bars_in nodes code s f targets) (bars_in nodes code s f homes)
    ∙ ap (closed upgrading) (same_bars (joined (bars_in nodes code s f targets) (bars_in nodes code s f homes)) (bars_in nodes code s f (homes ++ targets))
    (λ d. or-turn (list_any (bars_fault nodes s f d) targets) (list_any (bars_fault nodes s f d) homes) ∙ sym (list_any-append (bars_fault nodes s f d) homes targets))
    (λ d. or-turn (list_any (bars_upgrade nodes code s f d) targets) (list_any (bars_upgrade nodes code s f d) homes) ∙ sym (list_any-append (bars_upgrade nodes code s f d) homes targets)))

-- the other fragments of the stripe with a home, and those of them that are of the fragment's class
pub members-both : (others class both : ℕ) (g : ℕ) (shares : Bool) → both ≡ bit_and others class → bits_set class g ≡ shares → bits_set both g ≡ (bits_set others g && shares)
members-both others class both g shares is are = both-bits others class both g is ∙ ap (λ b. bits_set others g && b) are

-- ---- the domains of the homes, one after the other

module _ (b : Barred) (domains : List ℕ) (bits : ℕ) (f : Fragment) where
  -- a fragment that is one of these is in the domain that is stored for it, and in no other
  stands-there : (value number : ℕ) → value ≡ get_or domains f.value 0 → bits_set bits f.value ≡ true → nat_eq number value ≡ stands_in domains bits number f
  stands-there value number is hit = rw hit (test-sym number value ∙ ap (λ (k : ℕ). nat_eq k number) is)

  pub seat-fault : (domain : FaultNo) → domain.value ≡ get_or domains f.value 0 → bits_set bits f.value ≡ true → with_fault b domain ≡ with_seat_fault b domains bits f
  seat-fault domain is hit = same_bars (with_fault b domain) (with_seat_fault b domains bits f)
      (λ d. ap (λ (x : Bool). b.faults d || x) (stands-there domain.value d.value is hit)) (λ d. refl)

  pub seat-upgrade : (domain : UpgradeNo) → domain.value ≡ get_or domains f.value 0 → bits_set bits f.value ≡ true
      → with_upgrade b domain ≡ with_seat_upgrade b domains bits f
  seat-upgrade domain is hit = same_bars (with_upgrade b domain) (with_seat_upgrade b domains bits f) (λ d. refl)
      (λ d. ap (λ (x : Bool). b.upgrades d || x) (stands-there domain.value d.value is hit))

module _ (b : Barred) (domains : List ℕ) (bits : ℕ) (f : Fragment) (off : bits_set bits f.value ≡ false) where
  -- any other bars nothing
  pub no-seat-fault : b ≡ with_seat_fault b domains bits f
  no-seat-fault = same_bars b (with_seat_fault b domains bits f) (λ d. rw off (or-nothing (b.faults d))) (λ d. refl)

  pub no-seat-upgrade : b ≡ with_seat_upgrade b domains bits f
  no-seat-upgrade = same_bars b (with_seat_upgrade b domains bits f) (λ d. refl) (λ d. rw off (or-nothing (b.upgrades d)))

or-or : (a b c : Bool) → ((a || b) || c) ≡ (a || (b || c))
or-or true b c = refl
or-or false b c = refl

-- a node is barred by a home, by a target or otherwise, in its fault domain or in its upgrade domain
pub near-both : (f u g v h w : Bool) → (((f || u) || (g || v)) || (h || w)) ≡ (((h || g) || f) || ((w || v) || u))
near-both f u g v h w =
    or-or (f || u) (g || v) (h || w)
    ∙ ap (λ (b : Bool). (f || u) || b) (near-or-more g v h w)
    ∙ near-or-more f u (h || g) (w || v)

module _ (more : Barred) (faults upgrades : List ℕ) (others members : ℕ) where
  -- with no fragment, only what else is barred
  pub seats-none : more ≡ joined more (domains_bar faults upgrades others members [])
  seats-none = same_bars more (joined more (domains_bar faults upgrades others members [])) (λ d. or-nothing (more.faults d)) (λ d. or-nothing (more.upgrades d))

  -- one fragment more of a list that is gone through
  pub seats-more : (fs : List Fragment) (i : ℕ) (d : Fragment) → i < length fs
      → with_seat_upgrade (with_seat_fault (joined more (domains_bar faults upgrades others members (take i fs))) faults others (get_or fs i d)) upgrades members (get_or fs i d)
      ≡ joined more (domains_bar faults upgrades others members (take (i + 1) fs))
  seats-more fs i d within = same_bars _ (joined more (domains_bar faults upgrades others members (take (i + 1) fs)))
      (λ n. or-or (more.faults n) (list_any (stands_in faults others n.value) (take i fs)) (stands_in faults others n.value (get_or fs i d))
      ∙ ap (λ (x : Bool). more.faults n || x) (sym (list_any_more (stands_in faults others n.value) fs i d within)))
      (λ n. or-or (more.upgrades n) (list_any (stands_in upgrades members n.value) (take i fs)) (stands_in upgrades members n.value (get_or fs i d))
      ∙ ap (λ (x : Bool). more.upgrades n || x) (sym (list_any_more (stands_in upgrades members n.value) fs i d within)))
