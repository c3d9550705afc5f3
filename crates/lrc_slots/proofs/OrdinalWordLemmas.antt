-- Sets of ordinals, and the words that have one.
use Rattle.std.proofs.Common.{◌≡◌, ℕ, ◌/◌, ◌<◌, Bool, true, false, ◌||◌, List, length, length-set, get_or, set, replicate, Option, Some, None, is_some, not, ◌≢◌, ap, arith, sym, ◌∙◌, inl, inr}
use Rattle.std.proofs.lemmas.Bool.{cases_Bool, cases_eq, cases_lt}
use Rattle.std.proofs.lemmas.List.{length-replicate, get_or_past, get_or-set_same, get_or-set_other}
use Rattle.lrc_bits.specs.Flags.{IsFirstOfWord, FindsFrom}
use Rattle.lrc_slots.specs.OrdinalWords.{AreOrdinalWords, IsFirstOutsideBoth}
use Rattle.lrc_slots.proofs.MarkLemmas.{get_or-replicate_same}

-- the empty set
pub words-none : AreOrdinalWords (replicate 512 false) (replicate 64 false)
words-none = record {
  low = length-replicate 512 false;
  few = length-replicate 64 false;
  covered = λ r hit. absurd (let clash : true ≡ false = sym hit ∙ get_or-replicate_same 512 r false in cc);
  filled = λ w hit. absurd (let clash : true ≡ false = sym hit ∙ get_or-replicate_same 64 w false in cc);
}

-- if no earlier word has an ordinal outside both masks, the first one of this word is the first of all
pub first-left : (ordinals mask other : List Bool) (word : ℕ) {ordinal : ℕ} → IsFirstOfWord ordinals mask other word ordinal
    → ((r : ℕ) → r / 64 < word → get_or ordinals r false ≡ true → (get_or mask r false || get_or other r false) ≡ true)
    → IsFirstOutsideBoth ordinals mask other ordinal
first-left ordinals mask other word {ordinal} found before = record {
  within = elim (cases_lt ordinal (length ordinals)) [
    | inl within ↦ within
    | inr past ↦ absurd (let clash : true ≡ false = sym found.has ∙ get_or_past ordinals ordinal false past in cc)
  ];
  has = found.has;
  lacks = found.lacks;
  first = λ j below hit. elim (cases_lt (j / 64) word) [
    | inl less ↦ before j less hit
    | inr more ↦ found.first j (omega (arith, more, below, found.near)) below hit
  ];
}

-- ---- one ordinal added or removed

module _ {ordinals words : List Bool} (h : AreOrdinalWords ordinals words) (o : ℕ) (few : o < 512) where
  inside : o < length ordinals
  inside = let long = h.low in omega (arith, long, few)

  in_words : o / 64 < length words
  in_words = let long = h.few in omega (arith, long, few)

  -- what was there stays with one more
  stays : (r : ℕ) → get_or ordinals r false ≡ true → get_or (set ordinals o true) r false ≡ true
  stays r has = elim (cases_eq r o) [
    | inl same ↦ rw same (get_or-set_same ordinals o true false inside)
    | inr other ↦ get_or-set_other ordinals o r true false other ∙ has
  ]

  -- what is there with one less was there
  was : (r : ℕ) → get_or (set ordinals o false) r false ≡ true → get_or ordinals r false ≡ true
  was r hit = elim (cases_eq r o) [
    | inl same ↦ absurd (let clash : true ≡ false = sym (rw same at hit) ∙ get_or-set_same ordinals o false false inside in cc)
    | inr other ↦ sym (get_or-set_other ordinals o r false false other) ∙ hit
  ]

  -- an ordinal of another word stays
  elsewhere : (r w : ℕ) → r / 64 ≡ w → w ≢ o / 64 → get_or ordinals r false ≡ true → get_or (set ordinals o false) r false ≡ true
  elsewhere r w in_word other has = get_or-set_other ordinals o r false false (λ e. other (sym in_word ∙ ap (λ (n : ℕ). n / 64) e)) ∙ has

  -- the word had an ordinal
  pub inserted-near : (k : ℕ) → k / 64 ≡ o / 64 → get_or ordinals k false ≡ true → AreOrdinalWords (set ordinals o true) words
  inserted-near k near has = record {
    low = length-set ordinals o true ∙ h.low;
    few = h.few;
    covered = λ r hit. elim (cases_eq r o) [
      | inl same ↦ rw (same, ← near) (h.covered k has)
      | inr other ↦ h.covered r (sym (get_or-set_other ordinals o r true false other) ∙ hit)
    ];
    filled = λ w hit. let old = h.filled w hit in (old.0, old.1, stays old.0 old.2);
  }

  -- the word is marked now
  pub inserted-far : AreOrdinalWords (set ordinals o true) (set words (o / 64) true)
  inserted-far = record {
    low = length-set ordinals o true ∙ h.low;
    few = length-set words (o / 64) true ∙ h.few;
    covered = λ r hit. elim (cases_eq (r / 64) (o / 64)) [
      | inl same ↦ rw same (get_or-set_same words (o / 64) true false in_words)
      | inr other ↦ get_or-set_other words (o / 64) (r / 64) true false other
          ∙ h.covered r (sym (get_or-set_other ordinals o r true false (λ e. other (ap (λ (n : ℕ). n / 64) e))) ∙ hit)
    ];
    filled = λ w hit. elim (cases_eq w (o / 64)) [
      | inl same ↦ (o, sym same, get_or-set_same ordinals o true false inside)
      | inr other ↦
          let old = h.filled w (sym (get_or-set_other words (o / 64) w true false other) ∙ hit) in
          (old.0, old.1, stays old.0 old.2)
    ];
  }

  -- the word has an ordinal left
  pub removed-near : (k : ℕ) → k / 64 ≡ o / 64 → get_or (set ordinals o false) k false ≡ true → AreOrdinalWords (set ordinals o false) words
  removed-near k near has = record {
    low = length-set ordinals o false ∙ h.low;
    few = h.few;
    covered = λ r hit. h.covered r (was r hit);
    filled = λ w hit. elim (cases_eq w (o / 64)) [
      | inl same ↦ (k, near ∙ sym same, has)
      | inr other ↦ let old = h.filled w hit in (old.0, old.1, elsewhere old.0 w old.1 other old.2)
    ];
  }

  -- the word has none left
  pub removed-far : ((k : ℕ) → k / 64 ≡ o / 64 → get_or (set ordinals o false) k false ≡ false)
      → AreOrdinalWords (set ordinals o false) (set words (o / 64) false)
  removed-far none = record {
    low = length-set ordinals o false ∙ h.low;
    few = length-set words (o / 64) false ∙ h.few;
    covered = λ r hit. elim (cases_eq (r / 64) (o / 64)) [
      | inl same ↦ absurd (let clash : true ≡ false = sym hit ∙ none r same in cc)
      | inr other ↦ get_or-set_other words (o / 64) (r / 64) false false other ∙ h.covered r (was r hit)
    ];
    filled = λ w hit. elim (cases_eq w (o / 64)) [
      | inl same ↦ absurd (let clash : true ≡ false = sym (rw same at hit) ∙ get_or-set_same words (o / 64) false false in_words in cc)
      | inr other ↦
          let old = h.filled w (sym (get_or-set_other words (o / 64) w false false other) ∙ hit) in
          (old.0, old.1, elsewhere old.0 w old.1 other old.2)
    ];
  }

-- no ordinal is left exactly if no word is marked
pub words-left : {ordinals words : List Bool} → AreOrdinalWords ordinals words → (first : Option ℕ) → FindsFrom words 0 first
    → (empty : Bool) → is_some first ≡ not empty
    → (empty ≡ false → (r : ℕ) × (get_or ordinals r false ≡ true)) × (empty ≡ true → (r : ℕ) → get_or ordinals r false ≡ false)
words-left {ordinals} {words} h None none empty is = (
  λ some. absurd (let clash : false ≡ true = is ∙ ap not some in cc),
  λ no r. elim (cases_Bool (get_or ordinals r false)) [
    | inl hit ↦ absurd (let clash : true ≡ false = sym (h.covered r hit) ∙ none (r / 64) (omega arith) in cc)
    | inr miss ↦ miss
  ],
)
words-left {ordinals} {words} h (Some w) found empty is = (
  λ some. let own = h.filled w found.has in (own.0, own.2),
  λ no. absurd (let clash : true ≡ false = is ∙ ap not no in cc),
)
