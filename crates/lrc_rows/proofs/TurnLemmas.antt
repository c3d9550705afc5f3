-- The rows of a set, changed in turn.
use Rattle.std.proofs.Common.{◌≡◌, ◌≢◌, not, ℕ, ◌<◌, inl, inr, Bool, true, false, ◌&&◌, nat_lt, List, length, get_or, Option, Some, None, is_some, arith, refl, sym, ap, ◌∙◌, subst, nat_eq}
use Rattle.std.proofs.lemmas.Bool.{cases_eq, eq-eqb, ne_eqb, cases_Bool, lt-ltb}
use Rattle.std.proofs.lemmas.List.{get_or_default}
use Rattle.lrc_code.specs.declared.numbers.NodeNo.{NodeNo}
use Rattle.lrc_code.specs.declared.numbers.StripeNo.{StripeNo}
use Rattle.lrc_code.specs.Losses.{bits_set}
use Rattle.lrc_code.specs.Numbers.{same_stripe}
use Rattle.lrc_code.proofs.NumbersLemmas.{equal_stripes}
use Rattle.lrc_rows.specs.declared.row.Row.{Row}
use Rattle.lrc_homes.specs.Homes.{sits_on}
use Rattle.lrc_homes.specs.Masks.{renewed}
use Rattle.lrc_rows.specs.Kept.{is_in_upgrade, AreRenewed, IsRenewed, is_row_on}
use Rattle.std.specs.List.{list_any}
use Rattle.std.proofs.lemmas.List.Folds.{list_any_at, list_any_none}
use Rattle.std.proofs.lemmas.Nat.Bits.{bit_at-zero}
use Rattle.lrc_code.specs.declared.codes.Code.TheVariants.{Wide}
use Rattle.lrc_terms.proofs.LevelLemmas.{has_some-bits, has_some-none}

-- the stripe is taken from a set
pub record IsTaken (left : StripeNo → Bool) (s : StripeNo) (after : StripeNo → Bool) : Type 0 where
  pub there : left s ≡ true
  pub rest : after ≡ (λ t. not (same_stripe s t) && left t)

module _ (left after : StripeNo → Bool) (s : StripeNo) (is : IsTaken left s after) where
  taken-own : (t : StripeNo) → s.value ≡ t.value → after t ≡ false
  taken-own t same = ap (λ (f : StripeNo → Bool). f t) is.rest ∙ ap (λ b. not b && left t) (eq-eqb s.value t.value same)

  taken-other : (t : StripeNo) → s.value ≢ t.value → after t ≡ left t
  taken-other t other = ap (λ (f : StripeNo → Bool). f t) is.rest ∙ ap (λ b. not b && left t) (ne_eqb s.value t.value other)

-- where no domain is upgrading, no fragment is in one
pub none-upgraded : (upgrading : List Bool) → ((k : ℕ) → get_or upgrading k false ≡ false) → (f : ℕ) (o : Option Row) → is_in_upgrade upgrading f o ≡ false
none-upgraded upgrading none f None = refl
none-upgraded upgrading none f (Some r) = ap (λ (b : Bool). (nat_lt f 16 && b) && is_some (get_or r.homes f None)) (none (get_or r.domains.upgrades f 0)) ∙ bare (nat_lt f 16) (is_some (get_or r.homes f None)) where
  bare : (a b : Bool) → ((a && false) && b) ≡ false
  bare true b = refl
  bare false b = refl

-- the fragments in upgrading domains of the stripes of a set that are not left
module _ (upgrading : List Bool) (rows : StripeNo → Option Row) (set_of left after : StripeNo → Bool) (now : ℕ → StripeNo → Bool) (s : StripeNo) (taken : IsTaken left s after)
    (within : (t : StripeNo) → left t ≡ true → set_of t ≡ true) (so_far : (f : ℕ) (t : StripeNo) → f < 16 → now f t ≡ ((set_of t && not (left t)) && is_in_upgrade upgrading f (rows t))) where
  -- the stripe has none yet
  pub none-yet : (f : ℕ) → f < 16 → now f s ≡ false
  none-yet f low = so_far f s low ∙ (ap (λ (b : Bool). (set_of s && not b) && is_in_upgrade upgrading f (rows s)) taken.there ∙ bare (set_of s) (is_in_upgrade upgrading f (rows s))) where
    bare : (a b : Bool) → ((a && not true) && b) ≡ false
    bare true b = refl
    bare false b = refl

  pub upgraded-more : (next : ℕ → StripeNo → Bool) → ((f : ℕ) (t : StripeNo) → f < 16 → same_stripe s t ≡ false → next f t ≡ now f t) → ((f : ℕ) → f < 16 → next f s ≡ is_in_upgrade upgrading f (rows s))
      → (f : ℕ) (t : StripeNo) → f < 16 → next f t ≡ ((set_of t && not (after t)) && is_in_upgrade upgrading f (rows t))
  upgraded-more next others own f t low = elim (cases_eq s.value t.value) [
    | inl same ↦
        let here : s ≡ t = equal_stripes s t same in
        ap (next f) (sym here) ∙ (own f low ∙ ap (λ (x : StripeNo). is_in_upgrade upgrading f (rows x)) here)
        ∙ sym (ap (λ (b : Bool). (b && not (after t)) && is_in_upgrade upgrading f (rows t)) (ap set_of (sym here) ∙ within s taken.there)
        ∙ ap (λ (b : Bool). not b && is_in_upgrade upgrading f (rows t)) (taken-own left after s taken t same))
    | inr other ↦
        others f t low (ne_eqb s.value t.value other)
        ∙ (so_far f t low ∙ ap (λ (b : Bool). (set_of t && not b) && is_in_upgrade upgrading f (rows t)) (sym (taken-other left after s taken t other)))
  ]

module _ (set_of : StripeNo → Bool) (R : Row → Row → Type 0) (before : StripeNo → Option Row) where
  -- those of the set that are not left have become others, and all the rest are as they were
  pub record AreRenewedBut (left : StripeNo → Bool) (now : StripeNo → Option Row) : Type 0 where
    pub passed : (s : StripeNo) → left s ≡ false → set_of s ≡ true → IsRenewed R (before s) (now s)
    pub waiting : (s : StripeNo) → left s ≡ true → now s ≡ before s
    pub others : (s : StripeNo) → set_of s ≡ false → now s ≡ before s
    pub within : (s : StripeNo) → left s ≡ true → set_of s ≡ true

  pub renewed-first : AreRenewedBut set_of before
  renewed-first = record {
    passed = λ s none there. absurd (let clash : true ≡ false = sym there ∙ none in cc);
    waiting = λ s there. refl;
    others = λ s lacks. refl;
    within = λ s there. there;
  }

  module _ (left after : StripeNo → Bool) (now next : StripeNo → Option Row) (s : StripeNo) (taken : IsTaken left s after) (so_far : AreRenewedBut left now) where
    renewed-next : ((t : StripeNo) → same_stripe s t ≡ false → next t ≡ now t) → IsRenewed R (before s) (next s) → AreRenewedBut after next
    renewed-next rest renewed = record {
      passed = λ t none there. elim (cases_eq s.value t.value) [
        | inl same ↦ subst (λ (x : StripeNo). IsRenewed R (before x) (next x)) (equal_stripes s t same) renewed
        | inr other ↦
            subst (IsRenewed R (before t)) (sym (rest t (ne_eqb s.value t.value other)))
            (so_far.passed t (sym (taken-other left after s taken t other) ∙ none) there)
      ];
      waiting = λ t later. elim (cases_eq s.value t.value) [
        | inl same ↦ absurd (let clash : true ≡ false = sym later ∙ taken-own left after s taken t same in cc)
        | inr other ↦ rest t (ne_eqb s.value t.value other) ∙ so_far.waiting t (sym (taken-other left after s taken t other) ∙ later)
      ];
      others = λ t lacks. elim (cases_eq s.value t.value) [
        | inl same ↦
            absurd (let hit : set_of t ≡ true = ap set_of (sym (equal_stripes s t same)) ∙ so_far.within s taken.there in let clash : true ≡ false = sym hit ∙ lacks in cc)
        | inr other ↦ rest t (ne_eqb s.value t.value other) ∙ so_far.others t lacks
      ];
      within = λ t later. elim (cases_eq s.value t.value) [
        | inl same ↦ absurd (let clash : true ≡ false = sym later ∙ taken-own left after s taken t same in cc)
        | inr other ↦ so_far.within t (sym (taken-other left after s taken t other) ∙ later)
      ];
    }

    -- the stripe's row becomes another by a change of it alone
    pub renewed-one : (Q : Row → Row → Type 0) (r : Row) → now s ≡ Some r → AreRenewed (same_stripe s) Q now next → ((q : Row) → Q r q → R r q) → AreRenewedBut after next
    renewed-one Q r there one gives =
        let was : before s ≡ Some r = sym (so_far.waiting s taken.there) ∙ there in
        let changed : IsRenewed Q (Some r) (next s) = subst (λ (o : Option Row). IsRenewed Q o (next s)) there (one.listed s (eq-eqb s.value s.value refl)) in
        renewed-next one.others (subst (λ (o : Option Row). IsRenewed R o (next s)) (sym was) (changed.0, changed.1, gives changed.0 changed.2))

    -- it becomes another, if it is there
    pub renewed-more : AreRenewed (same_stripe s) R now next → AreRenewedBut after next
    renewed-more one =
        let was : before s ≡ now s = sym (so_far.waiting s taken.there) in
        renewed-next one.others (subst (λ (o : Option Row). IsRenewed R o (next s)) (sym was) (one.listed s (eq-eqb s.value s.value refl)))

  module _ (left after : StripeNo → Bool) (now : StripeNo → Option Row) (s : StripeNo) (taken : IsTaken left s after) (so_far : AreRenewedBut left now) where
    -- it has none
    pub renewed-absent : now s ≡ None → AreRenewedBut after now
    renewed-absent none =
        let was : before s ≡ None = sym (so_far.waiting s taken.there) ∙ none in
        renewed-next left after now now s taken so_far (λ t other. refl) (subst (λ (o : Option Row). IsRenewed R o (now s)) (sym was) none)

    -- it stays, and counts as one that has become another
    pub renewed-same : (r : Row) → now s ≡ Some r → R r r → AreRenewedBut after now
    renewed-same r there gives =
        let was : before s ≡ Some r = sym (so_far.waiting s taken.there) ∙ there in
        renewed-next left after now now s taken so_far (λ t other. refl) (subst (λ (o : Option Row). IsRenewed R o (now s)) (sym was) (r, there, gives))

  -- none is left
  pub renewed-all : (left : StripeNo → Bool) (now : StripeNo → Option Row) → ((t : StripeNo) → left t ≡ false) → AreRenewedBut left now → AreRenewed set_of R before now
  renewed-all left now none so_far = record { listed = λ s there. so_far.passed s (none s) there; others = so_far.others }

-- whether one of a row's homes is on the node, by the mask of those that are
pub any-on : (o : Option Row) (n : NodeNo) (bits : ℕ) → bits < 65536 → ((r : Row) → o ≡ Some r → (f : ℕ) → bits_set bits f ≡ (nat_lt f 16 && sits_on n (get_or r.homes f None)))
    → true ≡ is_some o → not (nat_eq bits 0) ≡ is_row_on n o
any-on None n bits few each there = absurd (let clash : true ≡ false = there in cc)
any-on (Some r) n bits few each there = elim (cases_eq bits 0) [
  | inl zero_bits ↦
      rw (eq-eqb bits 0 zero_bits)
      (sym (list_any_none (sits_on n) r.homes (λ i d within.
      let low : i < 16 = let long = r.sixteen in omega (arith, within, long) in
      ap (sits_on n) (get_or_default r.homes i d None within) ∙ (ap (λ b. b && sits_on n (get_or r.homes i None)) (sym (lt-ltb i 16 low)) ∙ (sym (each r refl i) ∙ bare i zero_bits)))))
  | inr some ↦ rw (ne_eqb bits 0 some) (elim (cases_Bool (list_any (sits_on n) r.homes)) [
    | inl hit ↦ sym hit
    | inr miss ↦
        absurd (let empty = has_some-none Wide (bits_set bits) (λ f low. each r refl f ∙ (ap (λ b. b && sits_on n (get_or r.homes f None)) (lt-ltb f 16 low) ∙ off f low miss)) in
        let full = has_some-bits bits few some in let clash : true ≡ false = sym full ∙ empty in cc)
  ])
] where
  bare : (i : ℕ) → bits ≡ 0 → bits_set bits i ≡ false
  bare i none = rw (none, bit_at-zero i) refl

  off : (f : ℕ) → f < 16 → list_any (sits_on n) r.homes ≡ false → sits_on n (get_or r.homes f None) ≡ false
  off f low miss = elim (cases_Bool (sits_on n (get_or r.homes f None))) [
    | inl hit ↦
        absurd (let within : f < length r.homes = let long = r.sixteen in omega (arith, low, long) in
        let any = list_any_at (sits_on n) r.homes f None within hit in let clash : true ≡ false = sym any ∙ miss in cc)
    | inr no_hit ↦ no_hit
  ]
