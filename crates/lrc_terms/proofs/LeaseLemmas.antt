-- Lists of leases: what a search finds, also after a lease is added and after a filter.
use Rattle.std.proofs.Common.{◌≡◌, ◌≢◌, ℕ, ◌-◌, inl, inr, Bool, true, false, not, ◌&&◌, if◌then◌else◌, nat_eq, List, [], ◌∷◌, ◌++◌, get_or, filter, find, Option, Some, None, IsTrue, ◌↔◌, arith, refl, sym, ap, ◌∙◌, subst}
use Rattle.std.proofs.Math.Path.{fun_ext}
use Rattle.std.specs.List.{Contains}
use Rattle.std.proofs.lemmas.Bool.{cases_Bool, cases_eq, cases_order, eq-eqb, ne_eqb, eqb-true, and_parts, and_from, not_from_true, not_from_false, false_from_ne_true}
use Rattle.std.proofs.lemmas.List.{get_or_default}
use Rattle.std.proofs.lemmas.Map.Entries.{option_filter}
use Rattle.std.proofs.lemmas.List.Quantifiers.{all_pairs_push}
use Rattle.std.proofs.lemmas.List.Kept.{AllPairs-filter}
use Rattle.std.proofs.lemmas.List.Elements.{Contains-get_or}
use Rattle.std.proofs.lemmas.Option.{same_Some}
use Rattle.lrc_terms.proofs.ListLemmas.{Contains-cons_cases, Contains-later}
use Rattle.lrc_code.specs.declared.numbers.StripeNo.{StripeNo}
use Rattle.lrc_code.specs.declared.numbers.Fragment.{Fragment}
use Rattle.lrc_code.specs.Numbers.{same_stripe}
use Rattle.lrc_code.proofs.NumbersLemmas.{equal_fragments, equal_stripes}
use Rattle.lrc_terms.specs.declared.lease.Lease.{Lease}
use Rattle.lrc_terms.specs.Leased.{LeaseMap, is_of, leases_in, leased_of, with_lease, without_lease, with_spare, AreOneEach}

-- ---- searches

-- what is found passes the test, and is in the list
pub find-some : {X : Type 0} (p : X → Bool) (xs : List X) (x : X) → find p xs ≡ Some x → Contains xs x × (p x ≡ true)
find-some p [] x found = absurd (cc)
find-some p (y ∷ xs) x found = elim (cases_Bool (p y)) [
  | inl hit ↦ let same : y ≡ x = same_Some y x (rw hit at found) in ((0, omega arith, same), subst (λ z. p z ≡ true) same hit)
  | inr miss ↦ let rest = find-some p xs x (rw miss at found) in (Contains-later y x xs rest.0, rest.1)
]

-- if nothing is found, no element passes
pub find-none : {X : Type 0} (p : X → Bool) (xs : List X) (x : X) → find p xs ≡ None → Contains xs x → p x ≡ false
find-none p [] x none among = absurd (omega (arith, among.1))
find-none p (y ∷ xs) x none among = elim (cases_Bool (p y)) [
  | inl hit ↦ absurd (let e : Some y ≡ None = rw hit at none in cc)
  | inr miss ↦ elim (Contains-cons_cases y x xs among) [
    | inl same ↦ subst (λ z. p z ≡ false) same miss
    | inr later ↦ find-none p xs x (rw miss at none) later
  ]
]

-- if no element passes, nothing is found
pub none-find : {X : Type 0} (p : X → Bool) (xs : List X) → ((x : X) → Contains xs x → p x ≡ false) → find p xs ≡ None
none-find p [] none = refl
none-find p (y ∷ xs) none = rw (none y (0, omega arith, refl)) (none-find p xs (λ x among. none x (Contains-later y x xs among)))

-- if only one element passes, it is found
pub one-find : {X : Type 0} (p : X → Bool) (xs : List X) (x : X) → Contains xs x → p x ≡ true → ((y : X) → Contains xs y → p y ≡ true → y ≡ x) → find p xs ≡ Some x
one-find p [] x among passes one = absurd (omega (arith, among.1))
one-find p (y ∷ xs) x among passes one = elim (cases_Bool (p y)) [
  | inl hit ↦ rw hit (ap (λ (z : _). Some z) (one y (0, omega arith, refl) hit))
  | inr miss ↦ elim (Contains-cons_cases y x xs among) [
    | inl same ↦ absurd (let e : p x ≡ false = subst (λ z. p z ≡ false) same miss in let f : true ≡ false = sym passes ∙ e in cc)
    | inr later ↦ rw miss (one-find p xs x later passes (λ z there. one z (Contains-later y z xs there)))
  ]
]

-- an element that is left by a filter was in the list and is kept
pub Contains-filter : {X : Type 0} (keep : X → Bool) (xs : List X) (x : X) → Contains (filter keep xs) x → Contains xs x × (keep x ≡ true)
Contains-filter keep [] x among = absurd (omega (arith, among.1))
Contains-filter keep (y ∷ xs) x among = elim (cases_Bool (keep y)) [
  | inl kept ↦ elim (Contains-cons_cases y x (filter keep xs) (rw kept at among)) [
    | inl same ↦ ((0, omega arith, same), subst (λ z. keep z ≡ true) same kept)
    | inr later ↦ let rest = Contains-filter keep xs x later in (Contains-later y x xs rest.0, rest.1)
  ]
  | inr gone ↦ let rest = Contains-filter keep xs x (rw gone at among) in (Contains-later y x xs rest.0, rest.1)
]

-- and each kept element is left
pub filter-contains : {X : Type 0} (keep : X → Bool) (xs : List X) (x : X) → Contains xs x → keep x ≡ true → Contains (filter keep xs) x
filter-contains keep [] x among kept = absurd (omega (arith, among.1))
filter-contains keep (y ∷ xs) x among kept = elim (Contains-cons_cases y x xs among) [
  | inl same ↦ let own : keep y ≡ true = subst (λ z. keep z ≡ true) (sym same) kept in rw own (0, omega arith, same)
  | inr later ↦
      let rest = filter-contains keep xs x later kept in
      elim (cases_Bool (keep y)) [ inl hit ↦ rw hit (Contains-later y x (filter keep xs) rest) | inr miss ↦ rw miss rest ]
]

-- two options with the same values are equal
pub same_answers : {X : Type 0} (o p : Option X) → ((x : X) → o ≡ Some x → p ≡ Some x) → ((x : X) → p ≡ Some x → o ≡ Some x) → o ≡ p
same_answers None None there back = refl
same_answers None (Some x) there back = back x refl
same_answers (Some x) p there back = sym (there x refl)

-- ---- after an element is added, and after a filter

-- an element that is added at the end is found if nothing was found before
one_more : {X : Type 0} (p : X → Bool) (xs : List X) (x : X) → (p x ≡ true → find p xs ≡ None) → find p (xs ++ x ∷ []) ≡ (if p x then Some x else find p xs)
one_more p [] x none = refl
one_more p (y ∷ xs) x none = elim (cases_Bool (p y)) [
  | inl hit ↦ elim (cases_Bool (p x)) [
    | inl both ↦ absurd (let e : Some y ≡ None = rw hit at (none both) in cc)
    | inr miss ↦ rw (hit, miss) refl
  ]
  | inr miss ↦ rw miss (one_more p xs x (λ e. rw miss at (none e)))
]

-- a filter that removes all elements that pass leaves nothing to be found
find-taken_out : {X : Type 0} (p keep : X → Bool) (xs : List X) → ((x : X) → p x ≡ true → keep x ≡ false) → find p (filter keep xs) ≡ None
find-taken_out p keep [] out = refl
find-taken_out p keep (y ∷ xs) out = elim (cases_Bool (keep y)) [
  | inl kept ↦ elim (cases_Bool (p y)) [
    | inl hit ↦ absurd (let e : true ≡ false = sym kept ∙ out y hit in cc)
    | inr miss ↦ rw (kept, miss) (find-taken_out p keep xs out)
  ]
  | inr gone ↦ rw gone (find-taken_out p keep xs out)
]

-- a filter that keeps all elements that pass changes nothing
find-kept : {X : Type 0} (p keep : X → Bool) (xs : List X) → ((x : X) → p x ≡ true → keep x ≡ true) → find p (filter keep xs) ≡ find p xs
find-kept p keep [] all = refl
find-kept p keep (y ∷ xs) all = elim (cases_Bool (keep y)) [
  | inl kept ↦ elim (cases_Bool (p y)) [ inl hit ↦ rw (kept, hit) refl | inr miss ↦ rw (kept, miss) (find-kept p keep xs all) ]
  | inr gone ↦
      let miss : p y ≡ false = false_from_ne_true (p y) (λ hit. let e : true ≡ false = sym (all y hit) ∙ gone in cc) in
      rw (gone, miss) (find-kept p keep xs all)
]

-- if at most one element passes, a filter keeps or removes what is found
find-filter : {X : Type 0} (p keep : X → Bool) (xs : List X) → ((x y : X) → Contains xs x → Contains xs y → p x ≡ true → p y ≡ true → x ≡ y) → find p (filter keep xs) ≡ option_filter keep (find p xs)
find-filter p keep [] one = refl
find-filter p keep (y ∷ xs) one =
    let rest = find-filter p keep xs (λ x z a b. one x z (Contains-later y x xs a) (Contains-later y z xs b)) in
    elim (cases_Bool (p y)) [
      | inl hit ↦ elim (cases_Bool (keep y)) [
        | inl kept ↦ rw (kept, hit, kept) refl
        | inr gone ↦ rw (gone, hit, gone) (none-find p (filter keep xs) (λ x among. false_from_ne_true (p x) (λ passes.
            let there = Contains-filter keep xs x among in
            let same : x ≡ y = one x y (Contains-later y x xs there.0) (0, omega arith, refl) passes hit in
            let e : true ≡ false = sym there.1 ∙ subst (λ z. keep z ≡ false) (sym same) gone in
            cc)))
      ]
      | inr miss ↦ elim (cases_Bool (keep y)) [ inl kept ↦ rw (kept, miss) rest | inr gone ↦ rw (gone, miss) rest ]
    ]

-- ---- the leases of a fragment

pub is_of-parts : (s : StripeNo) (f : ℕ) (l : Lease) → is_of s f l ≡ true → (l.stripe.value ≡ s.value) × (l.fragment.value ≡ f)
is_of-parts s f l e = let parts = and_parts _ _ e in (eqb-true _ _ parts.0, eqb-true _ _ parts.1)

pub is_of-from : (s : StripeNo) (f : ℕ) (l : Lease) → l.stripe.value ≡ s.value → l.fragment.value ≡ f → is_of s f l ≡ true
is_of-from s f l e g = and_from _ _ (eq-eqb _ _ e) (eq-eqb _ _ g)

-- a lease is of its own fragment
pub is_of-own : (l : Lease) → is_of l.stripe l.fragment.value l ≡ true
is_of-own l = is_of-from l.stripe l.fragment.value l refl refl

-- two leases of one fragment: one is of the other's fragment
pub is_of-both : (s : StripeNo) (f : ℕ) (k l : Lease) → is_of s f k ≡ true → is_of s f l ≡ true → is_of l.stripe l.fragment.value k ≡ true
is_of-both s f k l a b =
    let x = is_of-parts s f k a in
    let y = is_of-parts s f l b in
    is_of-from l.stripe l.fragment.value k (x.0 ∙ sym y.0) (x.1 ∙ sym y.1)

-- a lease that is found has the stripe and the fragment that were searched
pub leases_in-own : (leases : List Lease) (s : StripeNo) (f : ℕ) (l : Lease) → leases_in leases s f ≡ Some l → (l.stripe ≡ s) × (l.fragment.value ≡ f)
leases_in-own leases s f l found =
    let parts = is_of-parts s f l (find-some (is_of s f) leases l found).1 in
    (equal_stripes l.stripe s parts.0, parts.1)

-- the lease that is found is in the list
pub leases_in-contains : (leases : List Lease) (s : StripeNo) (f : ℕ) (l : Lease) → leases_in leases s f ≡ Some l → Contains leases l
leases_in-contains leases s f l found = (find-some (is_of s f) leases l found).0

-- ---- at most one lease per fragment

-- two leases in the list with the same fragment are equal
pub one_each-same : (leases : List Lease) (k l : Lease) → AreOneEach leases → Contains leases k → Contains leases l → k.stripe ≡ l.stripe → k.fragment ≡ l.fragment → k ≡ l
one_each-same leases k l apart a b stripe fragment = elim (cases_order a.0 b.0) [
  | inl same ↦ sym a.2 ∙ get_or_default leases a.0 k l a.1 ∙ ap (λ n. get_or leases n l) same ∙ b.2
  | inr (inl below) ↦
      let there : get_or leases b.0 k ≡ l = get_or_default leases b.0 k l b.1 ∙ b.2 in
      absurd (apart a.0 b.0 k below b.1 (rw (a.2, there) stripe) (rw (a.2, there) fragment))
  | inr (inr above) ↦
      let there : get_or leases b.0 k ≡ l = get_or_default leases b.0 k l b.1 ∙ b.2 in
      absurd (apart b.0 a.0 k above a.1 (rw (a.2, there) (sym stripe)) (rw (a.2, there) (sym fragment)))
]

one_passes : (leases : List Lease) (s : StripeNo) (f : ℕ) → AreOneEach leases → (k l : Lease) → Contains leases k → Contains leases l → is_of s f k ≡ true → is_of s f l ≡ true → k ≡ l
one_passes leases s f apart k l a b is_k is_l =
    let parts = is_of-parts l.stripe l.fragment.value k (is_of-both s f k l is_k is_l) in
    one_each-same leases k l apart a b (equal_stripes k.stripe l.stripe parts.0) (equal_fragments k.fragment l.fragment parts.1)

-- each lease of the list is found
pub contains-leases_in : (leases : List Lease) (l : Lease) → AreOneEach leases → Contains leases l → leases_in leases l.stripe l.fragment.value ≡ Some l
contains-leases_in leases l apart among =
    one-find (is_of l.stripe l.fragment.value) leases l among (is_of-own l) (λ k there is. one_passes leases l.stripe l.fragment.value apart k l there among is (is_of-own l))

pub one_each-append : (leases : List Lease) (l : Lease) → AreOneEach leases → leases_in leases l.stripe l.fragment.value ≡ None → AreOneEach (leases ++ l ∷ [])
one_each-append leases l apart none =
    all_pairs_push (λ (k m : Lease). k.stripe ≡ m.stripe → k.fragment ≢ m.fragment) leases l apart
    (λ i d within stripe fragment.
    let k = get_or leases i d in
    let hit = is_of-from l.stripe l.fragment.value k (ap (λ (s : StripeNo). s.value) stripe) (ap (λ (f : Fragment). f.value) fragment) in
    let e : true ≡ false = sym hit ∙ find-none (is_of l.stripe l.fragment.value) leases k none (Contains-get_or leases i d within) in
    cc)

pub one_each-filter : (keep : Lease → Bool) (leases : List Lease) → AreOneEach leases → AreOneEach (filter keep leases)
one_each-filter keep leases apart = AllPairs-filter (λ (k m : Lease). k.stripe ≡ m.stripe → k.fragment ≢ m.fragment) keep leases apart

-- ---- what is found after a change of the list

-- after a lease is added for a fragment that had none
pub leased_of-append : (leases : List Lease) (l : Lease) (spare : ℕ) → leases_in leases l.stripe l.fragment.value ≡ None → leased_of (leases ++ l ∷ []) (spare - 1) ≡ with_lease (leased_of leases spare) l
leased_of-append leases l spare none =
    ap (λ (m : LeaseMap). record { leases = m; spare = spare - 1 }) (fun_ext (λ s. fun_ext (λ f. one_more (is_of s f) leases l (λ hit.
    let parts = is_of-parts s f l hit in
    let own : s ≡ l.stripe = equal_stripes s l.stripe (sym parts.0) in
    rw (own, ← parts.1) none))))

-- after the lease of a fragment is removed
pub leased_of-less : (leases : List Lease) (s : StripeNo) (f : Fragment) (spare : ℕ) → leased_of (filter (λ l. not (is_of s f.value l)) leases) spare ≡ without_lease (leased_of leases spare) s f
leased_of-less leases s f spare = ap (λ (m : LeaseMap). record { leases = m; spare = spare }) (fun_ext (λ r. fun_ext (λ g. less r g)))
  where
    less : (r : StripeNo) (g : ℕ) → leases_in (filter (λ l. not (is_of s f.value l)) leases) r g ≡ (if same_stripe s r && nat_eq f.value g then None else leases_in leases r g)
    less r g = elim (cases_Bool (nat_eq s.value r.value && nat_eq f.value g)) [
      | inl own ↦
          let parts = and_parts _ _ own in
          let stripe = eqb-true _ _ parts.0 in
          let fragment = eqb-true _ _ parts.1 in
          rw own (find-taken_out (is_of r g) (λ l. not (is_of s f.value l)) leases (λ l hit.
          let x = is_of-parts r g l hit in
          not_from_true _ (is_of-from s f.value l (x.0 ∙ sym stripe) (x.1 ∙ sym fragment))))
      | inr other ↦
          rw other (find-kept (is_of r g) (λ l. not (is_of s f.value l)) leases (λ l hit.
          not_from_false _ (false_from_ne_true _ (λ own.
          let x = is_of-parts r g l hit in
          let y = is_of-parts s f.value l own in
          let e : true ≡ false = sym (and_from _ _ (eq-eqb s.value r.value (sym y.0 ∙ x.0)) (eq-eqb f.value g (sym y.1 ∙ x.1))) ∙ other in
          cc))))
    ]

-- after the leases of a stripe are removed
pub leases_in-less_stripe : (leases : List Lease) (s r : StripeNo) (g : ℕ) → leases_in (filter (λ l. not (same_stripe s l.stripe)) leases) r g ≡ (if same_stripe s r then None else leases_in leases r g)
leases_in-less_stripe leases s r g = elim (cases_eq s.value r.value) [
  | inl same ↦ rw (eq-eqb _ _ same) (find-taken_out (is_of r g) (λ l. not (same_stripe s l.stripe)) leases (λ l hit.
      not_from_true _ (eq-eqb s.value l.stripe.value (same ∙ sym (is_of-parts r g l hit).0))))
  | inr other ↦ rw (ne_eqb _ _ other) (find-kept (is_of r g) (λ l. not (same_stripe s l.stripe)) leases (λ l hit.
      not_from_false _ (ne_eqb s.value l.stripe.value (λ e. other (e ∙ (is_of-parts r g l hit).0)))))
]

-- after the leases that fail a test are removed
pub leases_in-filter : (keep : Lease → Bool) (leases : List Lease) (s : StripeNo) (f : ℕ) → AreOneEach leases → leases_in (filter keep leases) s f ≡ option_filter keep (leases_in leases s f)
leases_in-filter keep leases s f apart = find-filter (is_of s f) keep leases (one_passes leases s f apart)

option_filter-some : {X : Type 0} (keep : X → Bool) (o : Option X) (x : X) → (option_filter keep o ≡ Some x) ↔ ((o ≡ Some x) × IsTrue (keep x))
option_filter-some keep None x = (λ e. absurd (cc), λ both. absurd (let e : None ≡ Some x = both.0 in cc))
option_filter-some keep (Some y) x = elim (cases_Bool (keep y)) [
  | inl kept ↦ rw kept (λ e. let same = same_Some y x e in (e, subst (λ z. keep z ≡ true) same kept), λ both. both.0)
  | inr gone ↦ rw gone (λ e. absurd (cc), λ both. absurd (let same = same_Some y x both.0 in let e : true ≡ false = sym both.1 ∙ subst (λ z. keep z ≡ false) same gone in cc))
]

-- what is found then was found before and is kept
pub leases_in-kept : (keep : Lease → Bool) (leases : List Lease) (s : StripeNo) (f : ℕ) (l : Lease) → AreOneEach leases → (leases_in (filter keep leases) s f ≡ Some l) ↔ ((leases_in leases s f ≡ Some l) × IsTrue (keep l))
leases_in-kept keep leases s f l apart = rw (leases_in-filter keep leases s f apart) (option_filter-some keep (leases_in leases s f) l)

-- removing the lease of a fragment without one changes nothing
pub leased-without : (leases : List Lease) (s : StripeNo) (f : Fragment) (spare : ℕ) → leases_in leases s f.value ≡ None → leased_of leases spare ≡ with_spare (without_lease (leased_of leases spare) s f) spare
leased-without leases s f spare none = ap (λ (m : LeaseMap). record { leases = m; spare = spare }) (fun_ext (λ r. fun_ext (λ g. same r g)))
  where
    same : (r : StripeNo) (g : ℕ) → leases_in leases r g ≡ (if same_stripe s r && nat_eq f.value g then None else leases_in leases r g)
    same r g = elim (cases_Bool (same_stripe s r && nat_eq f.value g)) [
      | inl own ↦
          let parts = and_parts _ _ own in
          let stripe : s ≡ r = equal_stripes s r (eqb-true _ _ parts.0) in
          rw own (ap (λ (t : StripeNo). leases_in leases t g) (sym stripe) ∙ (ap (leases_in leases s) (sym (eqb-true _ _ parts.1)) ∙ none))
      | inr other ↦ rw other refl
    ]
