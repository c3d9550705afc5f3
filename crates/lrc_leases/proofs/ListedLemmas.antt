-- The leases by a chain of each: that of the node of their target, or that of their end.
use Rattle.std.proofs.Common.{◌≡◌, ◌≢◌, ℕ, zero, suc, ◌+◌, ◌≤◌, inl, inr, Bool, true, false, not, if◌then◌else◌, nat_eq, List, [], ◌∷◌, length, get_or, filter_map, ◌⊎◌, Option, Some, None, arith, refl, sym, ap, ◌∙◌, subst}
use Rattle.std.specs.List.{Contains, cons_option}
use Rattle.std.proofs.lemmas.Bool.{cases_Bool, cases_eq, eq-eqb, ne_eqb, not_from_false}
use Rattle.std.proofs.lemmas.List.Elements.{Contains-get_or}
use Rattle.std.proofs.lemmas.List.Kept.{AllPairs-cons}
use Rattle.std.proofs.lemmas.Option.{same_Some}
use Rattle.slab.specs.Slab.{Slab, get, Updates}
use Rattle.slab.proofs.SlabLemmas.{Contains-cons, Contains-cons_cases}
use Rattle.lrc_code.specs.declared.numbers.StripeNo.{StripeNo}
use Rattle.lrc_code.specs.declared.numbers.Fragment.{Fragment}
use Rattle.lrc_terms.specs.declared.lease.Lease.{Lease}
use Rattle.lrc_terms.specs.Leased.{leased_of, Leased, AreOneEach, AreThose}
use Rattle.lrc_leases.specs.Chains.{ChainTable, chain_in, without, AreOnce}
use Rattle.lrc_leases.specs.Kept.{leases_of, AreSingle, AreListed, if_passes, passing_at}
use Rattle.lrc_terms.proofs.LeaseLemmas.{Contains-filter, filter-contains, is_of-from, is_of-own}
use Rattle.lrc_leases.proofs.SlabLemmas.{found-at, at-found}
use Rattle.lrc_leases.proofs.RoomLemmas.{few-one_each}

-- ---- what a filter finds

-- what is found at the head, or further on
found-cons : {X Y : Type 0} (h : X → Option Y) (x : X) (xs : List X) (y : Y) (ys : List Y) → (Contains ys y → (z : X) × Contains xs z × (h z ≡ Some y))
    → (o : Option Y) → h x ≡ o → Contains (cons_option o ys) y → (z : X) × Contains (x ∷ xs) z × (h z ≡ Some y)
found-cons h x xs y ys rest None is among = let (z, later, gives) = rest among in (z, Contains-cons x z xs later, gives)
found-cons {X} {Y} h x xs y ys rest (Some v) is among = elim (Contains-cons_cases v y ys among) [
  | inl same ↦ (x, (0, omega arith, refl), is ∙ ap (λ (w : Y). Some w) same)
  | inr other ↦ let (z, later, gives) = rest other in (z, Contains-cons x z xs later, gives)
]

filter_map-contains : {X Y : Type 0} (h : X → Option Y) (xs : List X) (y : Y) → Contains (filter_map h xs) y → (x : X) × Contains xs x × (h x ≡ Some y)
filter_map-contains h [] y there = absurd (omega (arith, there.1))
filter_map-contains h (x ∷ xs) y there = found-cons h x xs y (filter_map h xs) (filter_map-contains h xs y) (h x) refl there

later-cons : {Y : Type 0} (o : Option Y) (ys : List Y) (y : Y) → Contains ys y → Contains (cons_option o ys) y
later-cons None ys y among = among
later-cons (Some v) ys y among = Contains-cons v y ys among

contains-filter_map : {X Y : Type 0} (h : X → Option Y) (xs : List X) (x : X) (y : Y) → Contains xs x → h x ≡ Some y → Contains (filter_map h xs) y
contains-filter_map h [] x y there gives = absurd (omega (arith, there.1))
contains-filter_map {X} {Y} h (z ∷ xs) x y there gives = elim (Contains-cons_cases z x xs there) [
  | inl same ↦ subst (λ (o : Option Y). Contains (cons_option o (filter_map h xs)) y) (sym (ap h same ∙ gives)) (0, omega arith, refl)
  | inr later ↦ later-cons (h z) (filter_map h xs) y (contains-filter_map h xs x y later gives)
]

-- ---- the leases that pass a test

if_passes-some : (test : Lease → Bool) (o : Option Lease) (l : Lease) → if_passes test o ≡ Some l → (o ≡ Some l) × (test l ≡ true)
if_passes-some test None l is = absurd (let e : None ≡ Some l = is in cc)
if_passes-some test (Some k) l is = elim (cases_Bool (test k)) [
  | inl on ↦ let same : k ≡ l = same_Some k l (rw on at is) in (ap (λ (m : Lease). Some m) same, subst (λ m. test m ≡ true) same on)
  | inr off ↦ absurd (let e : None ≡ Some l = rw off at is in cc)
]

-- a lease that is found is the lease under the number's key
passing-some : (test : Lease → Bool) (slab : Slab Lease) (k : ℕ) (l : Lease) → passing_at test slab k ≡ Some l
    → (key : ℕ) × (key + 1 ≡ k) × (get slab key ≡ Some l) × (test l ≡ true)
passing-some test slab zero l is = absurd (let e : None ≡ Some l = is in cc)
passing-some test slab (suc key) l is = let (at, on) = if_passes-some test (get slab key) l is in (key, omega arith, at, on)

-- numbers that are apart give leases that are
apart-cons : (test : Lease → Bool) (slab : Slab Lease) (k : ℕ) (ks : List ℕ) → AreSingle slab → ((m : ℕ) → Contains ks m → k ≢ m) → AreOneEach (filter_map (passing_at test slab) ks)
    → (o : Option Lease) → passing_at test slab k ≡ o → AreOneEach (cons_option o (filter_map (passing_at test slab) ks))
apart-cons test slab k ks single once rest None is = rest
apart-cons test slab k ks single once rest (Some l) is =
    AllPairs-cons (λ (a b : Lease). a.stripe ≡ b.stripe → a.fragment ≢ b.fragment) l (filter_map (passing_at test slab) ks) (λ i d within stripe fragment.
    let m = get_or (filter_map (passing_at test slab) ks) i d in
    let (other, later, gives) = filter_map-contains (passing_at test slab) ks m (Contains-get_or (filter_map (passing_at test slab) ks) i d within) in
    let (mine, number, at, on) = passing-some test slab k l is in
    let (its, its_number, there, same_node) = passing-some test slab other m gives in
    let one = is_of-from m.stripe m.fragment.value l (ap (λ (s : StripeNo). s.value) stripe) (ap (λ (f : Fragment). f.value) fragment) in
    let same : mine ≡ its = single mine its l m at there one in
    once other later (omega (arith, same, number, its_number)))
    rest

passing-apart : (test : Lease → Bool) (slab : Slab Lease) (ks : List ℕ) → AreSingle slab → AreOnce ks → AreOneEach (filter_map (passing_at test slab) ks)
passing-apart test slab [] single once = λ i j d below within. absurd (omega (arith, within))
passing-apart test slab (k ∷ ks) single once = apart-cons test slab k ks single once.0 (passing-apart test slab ks single once.1) (passing_at test slab k) refl

-- where all that pass are of one chain, the walk over it finds them
pub are-those : (chain : Lease → ℕ) (test : Lease → Bool) (d : ℕ) → ((l : Lease) → test l ≡ true → chain l ≡ d)
    → (slab : Slab Lease) (chains : ChainTable) (ks : List ℕ) → AreSingle slab → AreListed chain slab chains → ks ≡ chain_in chains d → AreOnce ks
    → AreThose test (leased_of (leases_of slab) 0) (filter_map (passing_at test slab) ks)
are-those chain test d own_chain slab chains ks single are walked once = record {
  once = passing-apart test slab ks single once;
  each = λ l. (
    λ among.
        let (k, there, gives) = filter_map-contains (passing_at test slab) ks l among in
        let (key, number, at, on) = passing-some test slab k l gives in
        (at-found slab single l.stripe l.fragment.value key l at (is_of-own l), on),
    λ both.
        let (key, at, own) = found-at slab l.stripe l.fragment.value l both.0 in
        let same : chain l ≡ d = own_chain l both.1 in
        let number : suc key ≡ key + 1 = omega arith in
        contains-filter_map (passing_at test slab) ks (suc key) l
        (subst (λ (i : ℕ). Contains ks i) (sym number)
        (subst (λ (js : List ℕ). Contains js (key + 1)) (sym walked) (subst (λ e. Contains (chain_in chains e) (key + 1)) same (are.listed key l at))))
        (ap (if_passes test) at ∙ rw both.1 refl),
  );
}

-- and no more than there are fragments
pub those-few : (test : Lease → Bool) (t : Leased) (leases : List Lease) → AreThose test t leases → length leases ≤ 65536
those-few test t leases are = few-one_each leases are.once

-- ---- one lease more, and one less

-- a vacant key has its number in no chain
pub fresh-number : (chain : Lease → ℕ) (slab : Slab Lease) (chains : ChainTable) (key : ℕ) → AreListed chain slab chains → get slab key ≡ None
    → (d k : ℕ) → Contains (chain_in chains d) k → k ≢ key + 1
fresh-number chain slab chains key are vacant d k there same =
    let (other, l, at, number, in_chain) = are.live d k there in
    let here : other ≡ key = omega (arith, number, same) in
    let e : Some l ≡ None = sym at ∙ (ap (get slab) here ∙ vacant) in
    cc

module _ (chain : Lease → ℕ) (old new : Slab Lease) (key : ℕ) (l : Lease) (updates : Updates old new key (Some l)) (vacant : get old key ≡ None) (chains next : ChainTable) (are : AreListed chain old chains)
    (walked : (d : ℕ) → chain_in next d ≡ (if nat_eq d (chain l) then (key + 1) ∷ chain_in chains d else chain_in chains d)) where
  still : (d k : ℕ) → Contains (chain_in chains d) k → Contains (chain_in next d) k
  still d k there = subst (λ ks. Contains ks k) (sym (walked d)) (elim (cases_Bool (nat_eq d (chain l))) [
    | inl own ↦ rw own (Contains-cons (key + 1) k (chain_in chains d) there)
    | inr other ↦ rw other there
  ])

  was : (d k : ℕ) → Contains (chain_in next d) k → ((chain l ≡ d) × (key + 1 ≡ k)) ⊎ Contains (chain_in chains d) k
  was d k there =
      let now = subst (λ ks. Contains ks k) (walked d) there in
      elim (cases_eq d (chain l)) [
        | inl own ↦ elim (Contains-cons_cases (key + 1) k (chain_in chains d) (rw (eq-eqb _ _ own) at now)) [
          | inl here ↦ inl (sym own, here)
          | inr later ↦ inr later
        ]
        | inr other ↦ inr (rw (ne_eqb _ _ other) at now)
      ]

  pub listed-insert : AreListed chain new next
  listed-insert = record {
    listed = λ i k there. elim (cases_eq i key) [
      | inl here ↦
          let same : k ≡ l = same_Some k l (sym there ∙ (ap (get new) here ∙ updates.changed)) in
          let number : key + 1 ≡ i + 1 = omega (arith, here) in
          subst (λ (m : Lease). Contains (chain_in next (chain m)) (i + 1)) (sym same)
          (subst (λ ks. Contains ks (i + 1)) (sym (walked (chain l)))
          (rw (eq-eqb (chain l) (chain l) refl) (0, omega arith, number)))
      | inr other ↦ still (chain k) (i + 1) (are.listed i k (sym (updates.others i other) ∙ there))
    ];
    live = λ d k there. elim (was d k there) [
      | inl mine ↦ (key, l, updates.changed, mine.1, mine.0)
      | inr before ↦
          let (i, m, at, number, in_chain) = are.live d k before in
          let away : i ≢ key = λ here. let e : Some m ≡ None = sym at ∙ (ap (get old) here ∙ vacant) in cc in
          (i, m, updates.others i away ∙ at, number, in_chain)
    ];
  }

module _ (chain : Lease → ℕ) (old new : Slab Lease) (key : ℕ) (l : Lease) (updates : Updates old new key None) (at_key : get old key ≡ Some l)
    (chains next : ChainTable) (are : AreListed chain old chains)
    (walked : (d : ℕ) → chain_in next d ≡ (if nat_eq d (chain l) then without (key + 1) (chain_in chains d) else chain_in chains d)) where
  away_from : (i : ℕ) (k : Lease) → get new i ≡ Some k → i ≢ key
  away_from i k at here = let e : Some k ≡ None = sym at ∙ (ap (get new) here ∙ updates.changed) in cc

  keeps : (d k : ℕ) → k ≢ key + 1 → Contains (chain_in chains d) k → Contains (chain_in next d) k
  keeps d k other there = subst (λ ks. Contains ks k) (sym (walked d)) (elim (cases_Bool (nat_eq d (chain l))) [
    | inl own ↦ rw own (filter-contains (λ i. not (nat_eq i (key + 1))) (chain_in chains d) k there (not_from_false _ (ne_eqb k (key + 1) other)))
    | inr away ↦ rw away there
  ])

  before : (d k : ℕ) → Contains (chain_in next d) k → Contains (chain_in chains d) k × (d ≡ chain l → k ≢ key + 1)
  before d k there =
      let now = subst (λ ks. Contains ks k) (walked d) there in
      elim (cases_eq d (chain l)) [
        | inl own ↦
            let (among, kept) = Contains-filter (λ i. not (nat_eq i (key + 1))) (chain_in chains d) k (rw (eq-eqb _ _ own) at now) in
            (among, λ _ same. let e : false ≡ true = sym (ap not (eq-eqb k (key + 1) same)) ∙ kept in cc)
        | inr other ↦ (rw (ne_eqb _ _ other) at now, λ own. absurd (other own))
      ]

  pub listed-remove : AreListed chain new next
  listed-remove = record {
    listed = λ i k there.
        let at : get old i ≡ Some k = sym (updates.others i (away_from i k there)) ∙ there in
        keeps (chain k) (i + 1) (λ same. away_from i k there (omega (arith, same))) (are.listed i k at);
    live = λ d k there.
        let (among, kept) = before d k there in
        let (i, m, at, number, in_chain) = are.live d k among in
        let away : i ≢ key = λ here.
        let same : m ≡ l = same_Some m l (sym at ∙ (ap (get old) here ∙ at_key)) in
        kept (sym in_chain ∙ ap (λ (x : Lease). chain x) same) (omega (arith, number, here)) in
        (i, m, updates.others i away ∙ at, number, in_chain);
  }
