-- Sets of stripes by fragment number.
use Rattle.std.proofs.Common.{◌≡◌, ◌≢◌, ℕ, zero, suc, ◌+◌, ◌*◌, ◌%◌, ◌^◌, ◌<◌, ◌≤◌, Bool, true, false, not, ◌&&◌, ◌||◌, cond, nat_eq, nat_lt, List, [], ◌∷◌, length, get_or, set, bit_and, arith, refl, sym, ap, ◌∙◌, inl, inr, w16}
use Rattle.std.specs.Int.{bit_at, bit_not, trailing_zeros}
use Rattle.std.proofs.Math.Path.{fun_ext}
use Rattle.std.proofs.lemmas.Bool.{cases_eq, cases_lt, eq-eqb, ne_eqb, lt-ltb, le-ltb}
use Rattle.std.proofs.lemmas.List.{get_or_default, get_or_past, get_or-set_same, get_or-set_other}
use Rattle.std.proofs.lemmas.Nat.{and_le_l}
use Rattle.std.proofs.lemmas.Nat.Bits.{bit_at-zero, bit_at-trailing_zeros, bit_at_clear_same, bit_at_clear_other, bit_at_above}
use Rattle.lrc_code.specs.declared.numbers.StripeNo.{StripeNo}
use Rattle.lrc_code.specs.Numbers.{same_stripe}
use Rattle.lrc_code.specs.Losses.{bits_set}
use Rattle.lrc_ranks.specs.Sets.{has, at_fragment}

-- ---- empty sets

-- no stripe is in any of the sets
pub record AreEmpty (sets : List (List Bool)) : Type 0 where
  pub none : (f : ℕ) (s : StripeNo) → at_fragment sets f s ≡ false

pub empty-none : AreEmpty []
empty-none = record { none = λ f s. refl }

pub empty-more : {x : List Bool} {xs : List (List Bool)} → has x ≡ (λ s. false) → AreEmpty xs → AreEmpty (x ∷ xs)
empty-more {x} {xs} is rest = record { none = at } where
  at : (f : ℕ) (s : StripeNo) → at_fragment (x ∷ xs) f s ≡ false
  at zero s = ap (λ (g : StripeNo → Bool). g s) is
  at (suc f) s = rest.none f s

pub empty-all : {sets : List (List Bool)} → AreEmpty sets → at_fragment sets ≡ (λ f s. false)
empty-all {sets} are = fun_ext (λ f. fun_ext (λ s. are.none f s))

-- ---- one set changes

-- each stripe of one set may have changed
module _ (sets : List (List Bool)) (number : ℕ) (item new : List Bool) (change : StripeNo → Bool → Bool) where
  pub one-changed : number < length sets → ((s : StripeNo) → has new s ≡ change s (has (get_or sets number item) s))
      → (f : ℕ) (s : StripeNo) → at_fragment (set sets number new) f s ≡ cond (nat_eq f number) (change s (at_fragment sets f s)) (at_fragment sets f s)
  one-changed within changed f s = elim (cases_eq f number) [
    | inl same ↦
        let own : has (get_or sets number item) s ≡ at_fragment sets number s = ap (λ xs. has xs s) (get_or_default sets number item [] within) in
        ap (λ i. at_fragment (set sets number new) i s) same
        ∙ (ap (λ xs. has xs s) (get_or-set_same sets number new [] within)
        ∙ (changed s ∙ (ap (change s) (own ∙ ap (λ i. at_fragment sets i s) (sym same))
        ∙ ap (λ b. cond b (change s (at_fragment sets f s)) (at_fragment sets f s)) (sym (eq-eqb f number same)))))
    | inr other ↦
        ap (λ xs. has xs s) (get_or-set_other sets number f new [] other)
        ∙ ap (λ b. cond b (change s (at_fragment sets f s)) (at_fragment sets f s)) (sym (ne_eqb f number other))
  ]

pub inserted : (e p b : Bool) → cond e (p || b) b ≡ ((e && p) || b)
inserted true p b = refl
inserted false p b = refl

pub removed : (e p b : Bool) → cond e (not p && b) b ≡ (not (e && p) && b)
removed true p b = refl
removed false p b = refl

-- ---- all sets change in turn

module _ (first sets other : List (List Bool)) (number : ℕ) (item also new : List Bool) where
  pub joined-next : length sets ≡ 16 → length other ≡ 16 → number < 16 → has new ≡ (λ s. has (get_or sets number item) s || has (get_or other number also) s)
      → ((f : ℕ) (s : StripeNo) → at_fragment sets f s ≡ (at_fragment first f s || (nat_lt f number && at_fragment other f s)))
      → (f : ℕ) (s : StripeNo) → at_fragment (set sets number new) f s ≡ (at_fragment first f s || (nat_lt f (number + 1) && at_fragment other f s))
  joined-next long same_long small joined each f s =
      one-changed sets number item new (λ s b. b || at_fragment other number s) (omega (arith, long, small))
      (λ s. ap (λ (g : StripeNo → Bool). g s) joined
      ∙ ap (λ xs. has (get_or sets number item) s || has xs s) (get_or_default other number also [] (omega (arith, same_long, small)))) f s
      ∙ elim (cases_eq f number) [
        | inl same ↦
            ap (λ b. cond b (at_fragment sets f s || at_fragment other number s) (at_fragment sets f s)) (eq-eqb f number same)
            ∙ (ap (λ b. b || at_fragment other number s) (each f s ∙ (ap (λ b. at_fragment first f s || (b && at_fragment other f s)) (le-ltb f number (omega (arith, same))) ∙ or-false (at_fragment first f s)))
            ∙ (ap (λ i. at_fragment first f s || at_fragment other i s) (sym same)
            ∙ ap (λ b. at_fragment first f s || (b && at_fragment other f s)) (sym (lt-ltb f (number + 1) (omega (arith, same))))))
        | inr differ ↦
            ap (λ b. cond b (at_fragment sets f s || at_fragment other number s) (at_fragment sets f s)) (ne_eqb f number differ)
            ∙ (each f s ∙ ap (λ b. at_fragment first f s || (b && at_fragment other f s)) (same-test f number differ))
      ] where
        or-false : (b : Bool) → (b || false) ≡ b
        or-false true = refl
        or-false false = refl

        same-test : (k n : ℕ) → k ≢ n → nat_lt k n ≡ nat_lt k (n + 1)
        same-test k n differ = elim (cases_lt k n) [
          | inl less ↦ lt-ltb k n less ∙ sym (lt-ltb k (n + 1) (omega (arith, less)))
          | inr most ↦ le-ltb k n most ∙ sym (le-ltb k (n + 1) (omega (arith, most, differ)))
        ]

pub joined-none : (first other : List (List Bool)) (f : ℕ) (s : StripeNo) → at_fragment first f s ≡ (at_fragment first f s || (nat_lt f 0 && at_fragment other f s))
joined-none first other f s = sym (ap (λ b. at_fragment first f s || (b && at_fragment other f s)) (le-ltb f 0 (omega arith)) ∙ or-false (at_fragment first f s)) where
  or-false : (b : Bool) → (b || false) ≡ b
  or-false true = refl
  or-false false = refl

pub joined-all : (first sets other : List (List Bool)) (number : ℕ) → length other ≡ 16 → 16 ≤ number
    → ((f : ℕ) (s : StripeNo) → at_fragment sets f s ≡ (at_fragment first f s || (nat_lt f number && at_fragment other f s)))
    → (f : ℕ) (s : StripeNo) → at_fragment sets f s ≡ (at_fragment first f s || at_fragment other f s)
joined-all first sets other number long most each f s = each f s ∙ ap (λ b. at_fragment first f s || b) (elim (cases_lt f number) [
  | inl less ↦ ap (λ b. b && at_fragment other f s) (lt-ltb f number less)
  | inr past ↦
      ap (λ b. b && at_fragment other f s) (le-ltb f number past)
      ∙ sym (ap (λ xs. has xs s) (get_or_past other f [] (omega (arith, long, most, past))))
])

-- ---- the sets of the fragments of a mask

-- the lowest bit of a mask is taken out
module _ (left : ℕ) (some : left ≢ 0) (small : left < 2 ^ 16) where
  abbrev pub lowest : ℕ
  lowest = trailing_zeros w16 left

  abbrev pub cleared : ℕ
  cleared = bit_and left (bit_not w16 (1 * 2 ^ lowest % 2 ^ 16))

  lowest-known : (lowest < 16) × (bit_at left lowest ≡ 1)
  lowest-known = let h = bit_at-trailing_zeros w16 left (omega (arith, some)) small in (h.0, h.1)

  pub lowest-small : lowest < 16
  lowest-small = lowest-known.0

  pub cleared-same : bits_set cleared lowest ≡ false
  cleared-same = ap (λ n. nat_eq n 1) (bit_at_clear_same w16 left lowest lowest-small)

  pub cleared-other : (f : ℕ) → f ≢ lowest → bits_set cleared f ≡ bits_set left f
  cleared-other f differ = elim (cases_lt f 16) [
    | inl within ↦ ap (λ n. nat_eq n 1) (bit_at_clear_other w16 left lowest lowest-small f within differ)
    | inr past ↦
        let less = and_le_l left (bit_not w16 (1 * 2 ^ lowest % 2 ^ 16)) in
        ap (λ n. nat_eq n 1) (bit_at_above cleared 16 f (omega (arith, less, small)) past ∙ sym (bit_at_above left 16 f small past))
  ]

  -- so it is less
  pub cleared-less : cleared < left
  cleared-less = elim (cases_eq cleared left) [
    | inl same ↦
        absurd (let gone : bit_at cleared lowest ≡ 0 = bit_at_clear_same w16 left lowest lowest-small in
        let there : bit_at cleared lowest ≡ 1 = ap (λ n. bit_at n lowest) same ∙ lowest-known.1 in
        omega (arith, gone, there))
    | inr differ ↦ let less = and_le_l left (bit_not w16 (1 * 2 ^ lowest % 2 ^ 16)) in omega (arith, less, differ)
  ]

-- the sets of the bits that are no longer left have changed
abbrev pub ArePut : List (List Bool) → StripeNo → ℕ → Bool → ℕ → List (List Bool) → Type 0
ArePut first stripe fragments is_in left sets = (f : ℕ) (s : StripeNo)
    → at_fragment sets f s ≡ cond (same_stripe stripe s && (bits_set fragments f && not (bits_set left f))) is_in (at_fragment first f s)

pub put-none : (first : List (List Bool)) (stripe : StripeNo) (fragments : ℕ) (is_in : Bool) → ArePut first stripe fragments is_in fragments first
put-none first stripe fragments is_in f s = by (same_stripe stripe s) (bits_set fragments f) where
  by : (e b : Bool) → at_fragment first f s ≡ cond (e && (b && not b)) is_in (at_fragment first f s)
  by false b = refl
  by true true = refl
  by true false = refl

pub put-all : (first : List (List Bool)) (stripe : StripeNo) (fragments : ℕ) (is_in : Bool) (left : ℕ) (sets : List (List Bool)) → left ≡ 0 → ArePut first stripe fragments is_in left sets
    → (f : ℕ) (s : StripeNo) → at_fragment sets f s ≡ cond (same_stripe stripe s && bits_set fragments f) is_in (at_fragment first f s)
put-all first stripe fragments is_in left sets none are f s = are f s
    ∙ ap (λ b. cond (same_stripe stripe s && b) is_in (at_fragment first f s))
    (ap (λ n. bits_set fragments f && not (nat_eq (bit_at n f) 1)) none ∙ (ap (λ n. bits_set fragments f && not (nat_eq n 1)) (bit_at-zero f) ∙ and-true (bits_set fragments f))) where
      and-true : (b : Bool) → (b && true) ≡ b
      and-true true = refl
      and-true false = refl

module _ (first : List (List Bool)) (stripe : StripeNo) (fragments : ℕ) (is_in : Bool) (left : ℕ) (sets : List (List Bool)) (item new : List Bool)
    (some : left ≢ 0) (small : left < 2 ^ 16) (within : (f : ℕ) → bits_set left f ≡ true → bits_set fragments f ≡ true) (are : ArePut first stripe fragments is_in left sets) where
  pub within-next : (f : ℕ) → bits_set (cleared left some small) f ≡ true → bits_set fragments f ≡ true
  within-next f hit = elim (cases_eq f (lowest left some small)) [
    | inl same ↦
        absurd (let clash : true ≡ false = sym hit ∙ (ap (bits_set (cleared left some small)) same ∙ cleared-same left some small) in cc)
    | inr other ↦ within f (sym (cleared-other left some small f other) ∙ hit)
  ]

  pub put-next : length sets ≡ 16 → has new ≡ (λ s. cond (same_stripe stripe s) is_in (has (get_or sets (lowest left some small) item) s))
      → ArePut first stripe fragments is_in (cleared left some small) (set sets (lowest left some small) new)
  put-next long put f s =
      one-changed sets (lowest left some small) item new (λ s b. cond (same_stripe stripe s) is_in b)
      (let low = lowest-small left some small in omega (arith, low, long)) (λ s. ap (λ (g : StripeNo → Bool). g s) put) f s
      ∙ elim (cases_eq f (lowest left some small)) [
        | inl same ↦
            let there : bits_set fragments f ≡ true = within f (ap (bits_set left) same ∙ eq-eqb _ _ (lowest-known left some small).1) in
            let gone : bits_set (cleared left some small) f ≡ false = ap (bits_set (cleared left some small)) same ∙ cleared-same left some small in
            ap (λ b. cond b (cond (same_stripe stripe s) is_in (at_fragment sets f s)) (at_fragment sets f s)) (eq-eqb _ _ same)
            ∙ (ap (cond (same_stripe stripe s) is_in) (are f s)
            ∙ (by (same_stripe stripe s) (bits_set fragments f && not (bits_set left f)) (at_fragment first f s)
            ∙ (ap (λ b. cond (same_stripe stripe s && b) is_in (at_fragment first f s)) (sym (ap (λ b. b && not (bits_set (cleared left some small) f)) there ∙ ap not gone)))))
        | inr other ↦
            ap (λ b. cond b (cond (same_stripe stripe s) is_in (at_fragment sets f s)) (at_fragment sets f s)) (ne_eqb _ _ other)
            ∙ (are f s ∙ ap (λ b. cond (same_stripe stripe s && (bits_set fragments f && not b)) is_in (at_fragment first f s)) (sym (cleared-other left some small f other)))
      ] where
        by : (e c b : Bool) → cond e is_in (cond (e && c) is_in b) ≡ cond (e && true) is_in b
        by true c b = refl
        by false c b = refl
