-- Sets of stripes as lists of truth values.
use Rattle.std.proofs.Common.{◌≡◌, ℕ, zero, suc, ◌<◌, arith, cond, inl, inr, Bool, true, false, take, ◌+◌, subst, not, ◌&&◌, ◌||◌, List, length, get_or, set, replicate, refl, sym, ap, ◌∙◌}
use Rattle.std.proofs.Math.Path.{fun_ext}
use Rattle.std.proofs.lemmas.Bool.{cases_eq, cases_lt, eq-eqb, ne_eqb}
use Rattle.std.proofs.lemmas.List.{get_or_past, get_or-set_same, get_or-set_other}
use Rattle.std.proofs.lemmas.List.Sums.{sum_by-set}
use Rattle.std.specs.List.{sum_by, list_any}
use Rattle.std.proofs.lemmas.List.Folds.{list_any_more}
use Rattle.lrc_code.specs.declared.numbers.StripeNo.{StripeNo}
use Rattle.lrc_code.specs.Numbers.{same_stripe}
use Rattle.lrc_ranks.specs.Sets.{has}

none_at : (n i : ℕ) → get_or (replicate n false) i false ≡ false
none_at zero i = refl
none_at (suc n) zero = refl
none_at (suc n) (suc i) = none_at n i

pub has-none : (n : ℕ) → has (replicate n false) ≡ (λ s. false)
has-none n = fun_ext (λ s. none_at n s.value)

module _ (bits : List Bool) (stripe : StripeNo) (within : stripe.value < length bits) where
  pub has-insert : has (set bits stripe.value true) ≡ (λ s. same_stripe stripe s || has bits s)
  has-insert = fun_ext (λ s. elim (cases_eq s.value stripe.value) [
    | inl same ↦
        ap (λ n. get_or (set bits stripe.value true) n false) same ∙ (get_or-set_same bits stripe.value true false within
        ∙ ap (λ b. b || has bits s) (sym (eq-eqb stripe.value s.value (sym same))))
    | inr other ↦
        get_or-set_other bits stripe.value s.value true false other
        ∙ ap (λ b. b || has bits s) (sym (ne_eqb stripe.value s.value (λ e. other (sym e))))
  ])

  pub has-remove : has (set bits stripe.value false) ≡ (λ s. not (same_stripe stripe s) && has bits s)
  has-remove = fun_ext (λ s. elim (cases_eq s.value stripe.value) [
    | inl same ↦
        ap (λ n. get_or (set bits stripe.value false) n false) same ∙ (get_or-set_same bits stripe.value false false within
        ∙ ap (λ b. not b && has bits s) (sym (eq-eqb stripe.value s.value (sym same))))
    | inr other ↦
        get_or-set_other bits stripe.value s.value false false other
        ∙ ap (λ b. not b && has bits s) (sym (ne_eqb stripe.value s.value (λ e. other (sym e))))
  ])

module _ (stripe : StripeNo) (set_of : StripeNo → Bool) where
  pub put-in : ◌≡◌ {A = StripeNo → Bool} (λ s. same_stripe stripe s || set_of s) (λ s. cond (same_stripe stripe s) true (set_of s))
  put-in = fun_ext (λ s. either (same_stripe stripe s) (set_of s)) where
    either : (b x : Bool) → (b || x) ≡ cond b true x
    either true x = refl
    either false x = refl

  pub put-out : ◌≡◌ {A = StripeNo → Bool} (λ s. not (same_stripe stripe s) && set_of s) (λ s. cond (same_stripe stripe s) false (set_of s))
  put-out = fun_ext (λ s. either (same_stripe stripe s) (set_of s)) where
    either : (b x : Bool) → (not b && x) ≡ cond b false x
    either true x = refl
    either false x = refl

pub has-union : (old new other : List Bool) → ((k : ℕ) → get_or new k false ≡ (get_or old k false || get_or other k false)) → has new ≡ (λ s. has old s || has other s)
has-union old new other each = fun_ext (λ s. each s.value)

-- ---- how many members there are

abbrev weight : Bool → ℕ
weight true = 1
weight false = 0

abbrev pub member_count : List Bool → ℕ
member_count bits = sum_by weight bits

-- a member is within the list
member-within : (bits : List Bool) (k : ℕ) → get_or bits k false ≡ true → k < length bits
member-within bits k there = elim (cases_lt k (length bits)) [
  | inl within ↦ within
  | inr past ↦ absurd (let clash : true ≡ false = sym there ∙ get_or_past bits k false past in cc)
]

-- one fewer where one is taken
pub member_count-less : (bits : List Bool) (k : ℕ) → get_or bits k false ≡ true → member_count (set bits k false) < member_count bits
member_count-less bits k there =
    let less = sum_by-set weight bits k false false (member-within bits k there) in
    let one : weight (get_or bits k false) ≡ 1 = ap weight there in
    omega (arith, less, one)

pub has-taken : (bits after : List Bool) (s : StripeNo) → has bits s ≡ true → after ≡ set bits s.value false → has after ≡ (λ t. not (same_stripe s t) && has bits t)
has-taken bits after s there is = ap has is ∙ has-remove bits s (member-within bits s.value there)

-- ---- sets joined in turn

or-three : (a b c : Bool) → ((a || b) || c) ≡ (a || (b || c))
or-three true b c = refl
or-three false b c = refl

module _ (first : List Bool) (sets : List (List Bool)) (i : ℕ) (within : i < length sets) (now next item : List Bool)
    (before : has now ≡ λ s. has first s || list_any (λ m. has m s) (take i sets)) where
  pub joined-more : item ≡ get_or sets i item → has next ≡ (λ s. has now s || has item s) → has next ≡ λ s. has first s || list_any (λ m. has m s) (take (i + 1) sets)
  joined-more is joined = joined ∙ fun_ext (λ s.
      ap (λ (f : StripeNo → Bool). f s || has item s) before
      ∙ (or-three (has first s) (list_any (λ m. has m s) (take i sets)) (has item s)
      ∙ (ap (λ (m : List Bool). has first s || (list_any (λ m. has m s) (take i sets) || has m s)) is
      ∙ ap (λ b. has first s || b) (sym (list_any_more (λ m. has m s) sets i item within)))))

pub joined-all : (first now : List Bool) (sets all : List (List Bool)) → has now ≡ (λ s. has first s || list_any (λ m. has m s) sets) → sets ≡ all
    → has now ≡ λ s. has first s || list_any (λ m. has m s) all
joined-all first now sets all are same = subst (λ (xs : List (List Bool)). has now ≡ λ s. has first s || list_any (λ m. has m s) xs) same are
