-- Sets of stripes, and marks of the stretches of 64 numbers that have a member.
use Rattle.std.proofs.Common.{◌≡◌, ◌≢◌, ◌⊎◌, ℕ, zero, suc, ◌+◌, ◌*◌, ◌/◌, ◌%◌, ◌^◌, ◌<◌, ◌≤◌, inl, inr, Bool, true, false, not, ◌&&◌, ◌||◌, nat_eq, List, [], ◌∷◌, length, get_or, set, replicate, Option, Some, None, arith, refl, sym, ap, ◌∙◌, w64}
use Rattle.std.specs.Int.{bit_at, trailing_zeros}
use Rattle.std.proofs.Math.ListN.{length-set}
use Rattle.std.proofs.lemmas.Nat.Bits.{bit_at-zero, bit_at-trailing_zeros}
use Rattle.std.proofs.lemmas.Bool.{cases_Bool, cases_eq, cases_lt, eq-eqb, ne_eqb, eqb-true, and_from, and_parts, or_cases, or_left, or_right}
use Rattle.std.proofs.lemmas.List.{length-replicate, get_or-set_same, get_or-set_other}
use Rattle.lrc_bits.specs.Flags.{FindsFrom}
use Rattle.lrc_code.specs.declared.numbers.StripeNo.{StripeNo}
use Rattle.lrc_code.specs.Numbers.{same_stripe}
use Rattle.lrc_code.specs.Losses.{bits_set}
use Rattle.lrc_ranks.specs.Sets.{has, FindsNext}
use Rattle.lrc_ranks.specs.Kept.{AreMarked}

-- a mark that is not there marks nothing
unmarked : (n i : ℕ) → get_or (replicate n false) i false ≡ false
unmarked zero i = refl
unmarked (suc n) zero = refl
unmarked (suc n) (suc i) = unmarked n i

-- an empty set needs no mark
pub marked-none : (bits marks : List Bool) → marks ≡ replicate 64 false → has bits ≡ (λ s. false) → AreMarked bits marks
marked-none bits marks none_marked none = record {
  long = ap length none_marked ∙ length-replicate 64 false;
  covered = λ s hit. absurd (let clash : true ≡ false = sym hit ∙ ap (λ (f : StripeNo → Bool). f s) none in cc);
  needed = λ index hit. absurd (let clash : true ≡ false = sym hit ∙ (ap (λ (xs : List Bool). get_or xs index false) none_marked ∙ unmarked 64 index) in cc);
}

-- marks that were copied mark the copy of a set
pub marked-again : (bits marks again empty copy : List Bool) → AreMarked bits marks → has again ≡ has bits → empty ≡ replicate 64 false → length copy ≡ length empty
    → ((k : ℕ) → get_or copy k false ≡ (get_or empty k false || get_or marks k false)) → AreMarked again copy
marked-again bits marks again empty copy marked same none long either = record {
  long = long ∙ (ap length none ∙ length-replicate 64 false);
  covered = λ s hit. at (s.value / 64) ∙ marked.covered s (sym (ap (λ (f : StripeNo → Bool). f s) same) ∙ hit);
  needed = λ index hit. let old = marked.needed index (sym (at index) ∙ hit) in (old.0, old.1, ap (λ (f : StripeNo → Bool). f old.0) same ∙ old.2);
} where
  at : (k : ℕ) → get_or copy k false ≡ get_or marks k false
  at k = either k ∙ ap (λ (b : Bool). b || get_or marks k false) (ap (λ (xs : List Bool). get_or xs k false) none ∙ unmarked 64 k)

-- the blocks of a set are marked where it has more members, all of them in one block, and this block is marked too
pub marked-more : (bits new marks : List Bool) (index : ℕ) → AreMarked bits marks → index < 64
    → ((s : StripeNo) → has new s ≡ true → (has bits s ≡ true) ⊎ (s.value / 64 ≡ index)) → ((s : StripeNo) → has bits s ≡ true → has new s ≡ true)
    → (s : StripeNo) → s.value / 64 ≡ index → has new s ≡ true → AreMarked new (set marks index true)
marked-more bits new marks index marked small into more s here there = record {
  long = length-set marks index true ∙ marked.long;
  covered = λ t hit. elim (cases_eq (t.value / 64) index) [
    | inl same ↦ ap (λ k. get_or (set marks index true) k false) same ∙ get_or-set_same marks index true false within
    | inr other ↦ get_or-set_other marks index (t.value / 64) true false other ∙ elim (into t hit) [
      | inl old ↦ marked.covered t old
      | inr same ↦ absurd (other same)
    ]
  ];
  needed = λ i hit. elim (cases_eq i index) [
    | inl same ↦ (s, here ∙ sym same, there)
    | inr other ↦
        let old = marked.needed i (sym (get_or-set_other marks index i true false other) ∙ hit) in
        (old.0, old.1, more old.0 old.2)
  ];
} where
  within : index < length marks
  within = let long = marked.long in omega (arith, small, long)

-- a word that is not 0 has a bit
some-bit : (w : ℕ) → w ≢ 0 → w < 2 ^ 64 → (k : ℕ) × (k < 64) × (bit_at w k ≡ 1)
some-bit w some small =
    let h = bit_at-trailing_zeros w64 w (omega (arith, some)) small in
    (trailing_zeros w64 w, h.0, h.1)

-- the blocks below one with a member of the set are marked, and no others
pub record AreMarkedBelow (bits marks : List Bool) (index : ℕ) : Type 0 where
  pub long : length marks ≡ 64
  pub covered : (s : StripeNo) → s.value / 64 < index → has bits s ≡ true → get_or marks (s.value / 64) false ≡ true
  pub needed : (i : ℕ) → get_or marks i false ≡ true → (s : StripeNo) × (s.value / 64 ≡ i) × (has bits s ≡ true)

pub below-none : (bits marks : List Bool) → marks ≡ replicate 64 false → AreMarkedBelow bits marks 0
below-none bits marks none = record {
  long = ap length none ∙ length-replicate 64 false;
  covered = λ s below hit. absurd (omega (arith, below));
  needed = λ index hit. absurd (let clash : true ≡ false = sym hit ∙ (ap (λ (xs : List Bool). get_or xs index false) none ∙ unmarked 64 index) in cc);
}

module _ (bits marks : List Bool) (index word : ℕ) (marked : AreMarkedBelow bits marks index) (small : index < 64)
    (told : (s : StripeNo) → s.value / 64 ≡ index → bits_set word (s.value % 64) ≡ has bits s) where
  -- a block with a member is marked
  pub below-marked : word ≢ 0 → word < 2 ^ 64 → AreMarkedBelow bits (set marks index true) (index + 1)
  below-marked some fits =
      let found = some-bit word some fits in
      let inside : found.0 < 64 = found.1 in
      let member : StripeNo = record { value = 64 * index + found.0; in_range = omega (arith, small, inside) } in
      let here : (64 * index + found.0) / 64 ≡ index = omega (arith, inside) in
      let place : (64 * index + found.0) % 64 ≡ found.0 = omega (arith, inside) in
      let there : has bits member ≡ true = sym (told member here) ∙ (ap (bits_set word) place ∙ eq-eqb _ _ found.2) in
      let within : index < length marks = let long = marked.long in omega (arith, small, long) in
      record {
        long = length-set marks index true ∙ marked.long;
        covered = λ s below hit. elim (cases_eq (s.value / 64) index) [
          | inl same ↦ ap (λ k. get_or (set marks index true) k false) same ∙ get_or-set_same marks index true false within
          | inr other ↦ get_or-set_other marks index (s.value / 64) true false other ∙ marked.covered s (omega (arith, below, other)) hit
        ];
        needed = λ i hit. elim (cases_eq i index) [
          | inl same ↦ (member, here ∙ sym same, there)
          | inr other ↦ marked.needed i (sym (get_or-set_other marks index i true false other) ∙ hit)
        ];
      }

  -- one without is not
  pub below-skipped : word ≡ 0 → AreMarkedBelow bits marks (index + 1)
  below-skipped none = record {
    long = marked.long;
    covered = λ s below hit. elim (cases_eq (s.value / 64) index) [
      | inl same ↦
          absurd (let gone : has bits s ≡ false = sym (told s same) ∙ (ap (λ w. bits_set w (s.value % 64)) none ∙ ap (λ n. nat_eq n 1) (bit_at-zero (s.value % 64))) in
          let clash : true ≡ false = sym hit ∙ gone in cc)
      | inr other ↦ marked.covered s (omega (arith, below, other)) hit
    ];
    needed = marked.needed;
  }

-- all blocks with a member
pub below-all : (bits marks : List Bool) (index : ℕ) → ((s : StripeNo) → index ≤ s.value / 64 → has bits s ≡ false) → AreMarkedBelow bits marks index → AreMarked bits marks
below-all bits marks index rest marked = record {
  long = marked.long;
  covered = λ s hit. elim (cases_lt (s.value / 64) index) [
    | inl below ↦ marked.covered s below hit
    | inr past ↦ absurd (let clash : true ≡ false = sym hit ∙ rest s past in cc)
  ];
  needed = marked.needed;
}

module _ (bits new marks : List Bool) (stripe : StripeNo) (marked : AreMarked bits marks) where
  stretch-within : (s : StripeNo) → s.value / 64 < 64
  stretch-within s = let low = s.in_range in omega (arith, low)

  -- the block of a new member is marked
  pub marked-insert : has new ≡ (λ s. same_stripe stripe s || has bits s) → AreMarked new (set marks (stripe.value / 64) true)
  marked-insert is = marked-more bits new marks (stripe.value / 64) marked (stretch-within stripe)
      (λ s hit. elim (or_cases (same_stripe stripe s) (has bits s) (sym (ap (λ (f : StripeNo → Bool). f s) is) ∙ hit)) [
        | inl same ↦ inr (ap (λ n. n / 64) (sym (eqb-true stripe.value s.value same)))
        | inr old ↦ inl old
      ])
      (λ s hit. ap (λ (f : StripeNo → Bool). f s) is ∙ or_right (same_stripe stripe s) (has bits s) hit)
      stripe refl (ap (λ (f : StripeNo → Bool). f stripe) is ∙ or_left (same_stripe stripe stripe) (has bits stripe) (eq-eqb stripe.value stripe.value refl))

  -- the members that are left are old ones
  left : has new ≡ (λ s. not (same_stripe stripe s) && has bits s) → (s : StripeNo) → has new s ≡ true → has bits s ≡ true
  left is s hit = (and_parts (not (same_stripe stripe s)) (has bits s) (sym (ap (λ (f : StripeNo → Bool). f s) is) ∙ hit)).1

  -- a member of another block is left
  stays : has new ≡ (λ s. not (same_stripe stripe s) && has bits s) → (s : StripeNo) → s.value / 64 ≢ stripe.value / 64 → has bits s ≡ true → has new s ≡ true
  stays is s other hit = ap (λ (f : StripeNo → Bool). f s) is
      ∙ and_from _ _ (ap not (ne_eqb stripe.value s.value (λ e. other (ap (λ n. n / 64) (sym e))))) hit

  -- where a member is taken out and its block has another, the marks stay
  pub marked-remove : has new ≡ (λ s. not (same_stripe stripe s) && has bits s) → (s : StripeNo) × (s.value / 64 ≡ stripe.value / 64) × (has new s ≡ true)
      → AreMarked new marks
  marked-remove is more = record {
    long = marked.long;
    covered = λ s hit. marked.covered s (left is s hit);
    needed = λ i hit. elim (cases_eq i (stripe.value / 64)) [
      | inl same ↦ (more.0, more.1 ∙ sym same, more.2)
      | inr other ↦
          let old = marked.needed i hit in
          (old.0, old.1, stays is old.0 (λ e. other (sym old.1 ∙ e)) old.2)
    ];
  }

  -- where it was the last of its block, the mark goes
  pub marked-without : has new ≡ (λ s. not (same_stripe stripe s) && has bits s) → ((s : StripeNo) → s.value / 64 ≡ stripe.value / 64 → has new s ≡ false)
      → AreMarked new (set marks (stripe.value / 64) false)
  marked-without is none = record {
    long = length-set marks (stripe.value / 64) false ∙ marked.long;
    covered = λ s hit. elim (cases_eq (s.value / 64) (stripe.value / 64)) [
      | inl same ↦ absurd (let clash : true ≡ false = sym hit ∙ none s same in cc)
      | inr other ↦ get_or-set_other marks (stripe.value / 64) (s.value / 64) false false other ∙ marked.covered s (left is s hit)
    ];
    needed = λ i hit. elim (cases_eq i (stripe.value / 64)) [
      | inl same ↦
          absurd (let gone : get_or (set marks (stripe.value / 64) false) i false ≡ false =
          ap (λ k. get_or (set marks (stripe.value / 64) false) k false) same
          ∙ get_or-set_same marks (stripe.value / 64) false false (let long = marked.long in let small = stretch-within stripe in omega (arith, long, small)) in
          let clash : true ≡ false = sym hit ∙ gone in cc)
      | inr other ↦
          let old = marked.needed i (sym (get_or-set_other marks (stripe.value / 64) i false false other) ∙ hit) in
          (old.0, old.1, stays is old.0 (λ e. other (sym old.1 ∙ e)) old.2)
    ];
  }

-- a list of truth values has a true one, or none
true-or-none : (xs : List Bool) → ((k : ℕ) × (get_or xs k false ≡ true)) ⊎ ((k : ℕ) → get_or xs k false ≡ false)
true-or-none [] = inr (λ k. refl)
true-or-none (true ∷ xs) = inl (zero, refl)
true-or-none (false ∷ xs) = elim (true-or-none xs) [
  | inl found ↦ inl (suc found.0, found.1)
  | inr none ↦ inr (none-at none)
] where
  none-at : ((k : ℕ) → get_or xs k false ≡ false) → (k : ℕ) → get_or (false ∷ xs) k false ≡ false
  none-at none zero = refl
  none-at none (suc k) = none k

-- a set has a member exactly where a block is marked
module _ (bits marks : List Bool) (marked : AreMarked bits marks) where
  pub unmarked-none : ((k : ℕ) → get_or marks k false ≡ false) → (s : StripeNo) → has bits s ≡ false
  unmarked-none none s = elim (cases_Bool (has bits s)) [
    | inl hit ↦ absurd (let clash : true ≡ false = sym (marked.covered s hit) ∙ none (s.value / 64) in cc)
    | inr miss ↦ miss
  ]

  pub marked-some : (((k : ℕ) → get_or marks k false ≡ false) → ⊥) → (s : StripeNo) × (has bits s ≡ true)
  marked-some some = elim (true-or-none marks) [
    | inl found ↦ let member = marked.needed found.0 found.1 in (member.0, member.2)
    | inr none ↦ absurd (some none)
  ]

module _ (bits marks : List Bool) (from : ℕ) (marked : AreMarked bits marks) where
  -- what is not of the set
  off : (s : StripeNo) → get_or marks (s.value / 64) false ≡ false → has bits s ≡ false
  off s unmarked = elim (cases_Bool (has bits s)) [
    | inl hit ↦ absurd (let clash : true ≡ false = sym (marked.covered s hit) ∙ unmarked in cc)
    | inr none ↦ none
  ]

  -- the first from the first marked stretch on is the first
  pub next-some : (stretch : ℕ) → FindsFrom marks (from / 64) (Some stretch) → (found : Option StripeNo) (start : ℕ)
      → ((n : ℕ) → from ≤ n → stretch * 64 ≤ n → start ≤ n) → from ≤ start
      → FindsNext (has bits) start found → FindsNext (has bits) from found
  next-some stretch first None start least above none = λ s later. elim (cases_lt (s.value / 64) stretch) [
    | inl before ↦ off s (first.first (s.value / 64) (omega (arith, later)) before)
    | inr behind ↦ none s (least s.value later (omega (arith, behind)))
  ]
  next-some stretch first (Some found) start least above next = record {
    has = next.has;
    later = let more = next.later in omega (arith, above, more);
    first = λ s later before. elim (cases_lt (s.value / 64) stretch) [
      | inl below ↦ off s (first.first (s.value / 64) (omega (arith, later)) below)
      | inr behind ↦ next.first s (least s.value later (omega (arith, behind))) before
    ];
  }
