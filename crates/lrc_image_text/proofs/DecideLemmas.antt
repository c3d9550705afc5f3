-- Whether a text starts with a word, with a number or with words.
use Rattle.std.proofs.Common.{◌≡◌, ◌≢◌, ℕ, zero, suc, ◌+◌, ◌^◌, ◌<◌, ◌≤◌, ◌⊎◌, inl, inr, Bool, true, false, List, [], ◌∷◌, ◌++◌, length, map, get_or, take, drop, decimal, refl, sym, ap, ◌∙◌, arith}
use Rattle.std.specs.List.{All, list_all}
use Rattle.std.specs.Char.{is_ascii_digit}
use Rattle.std.specs.Str.Parse.{digits_value}
use Rattle.std.proofs.lemmas.Bool.{cases_Bool, cases_eq, cases_lt}
use Rattle.std.proofs.lemmas.List.{append_cancel_left, get_or_past}
use Rattle.std.proofs.lemmas.List.Elements.{All-nil, All-cons, All-head, All-tail}
use Rattle.lrc_front.proofs.DigitLemmas.{front_number}
use Rattle.lrc_front.proofs.NumberLemmas.{IsNumberFound, number_found}
use Rattle.lrc_image_text.specs.Fronts.{end_byte, words_on}
use Rattle.lrc_image_text.proofs.WordLemmas.{few_digits}
use Rattle.lrc_image_text.proofs.RowLemmas.{words_space, some_words}

-- ---- a word

pub decide_word : (word text : List ℕ) → ((rest : List ℕ) × (text ≡ word ++ rest)) ⊎ ((rest : List ℕ) → text ≢ word ++ rest)
decide_word [] text = inl (text, refl)
decide_word (w ∷ ws) [] = inr (λ rest is. cc)
decide_word (w ∷ ws) (t ∷ ts) = elim (cases_eq t w) [
  | inr other ↦ inr (λ rest is. let head : t ≡ w = cc in other head)
  | inl same ↦ elim (decide_word ws ts) [
    | inl found ↦ inl (found.0, ap (λ x. x ∷ ts) same ∙ ap (λ xs. w ∷ xs) found.1)
    | inr none ↦ inr (λ rest is. none rest (ap (drop 1) is))
  ]
]

-- ---- a number

-- the text starts with so many digits and no more
record IsRun (text : List ℕ) (at : ℕ) : Type 0 where
  digits : list_all is_ascii_digit (take at text) ≡ true
  stopped : is_ascii_digit (get_or text at 0) ≡ false

run_of : (text : List ℕ) → (at : ℕ) × IsRun text at
run_of [] = (0, record { digits = refl; stopped = refl })
run_of (b ∷ bs) = elim (cases_Bool (is_ascii_digit b)) [
  | inr miss ↦ (0, record { digits = refl; stopped = miss })
  | inl hit ↦ let more = run_of bs in (suc more.0, record { digits = rw (hit, more.1.digits) refl; stopped = more.1.stopped })
]

-- the text starts with the word, a number below the bound and this byte
pub record HasNumber (text word : List ℕ) (end bound : ℕ) : Type 0 where
  pub n : ℕ
  pub rest : List ℕ
  pub low : n < bound
  pub is : text ≡ word ++ (decimal n ++ end ∷ rest)

abbrev pub HasNoNumber : List ℕ → List ℕ → ℕ → ℕ → Type 0
HasNoNumber text word end bound = (n : ℕ) (rest : List ℕ) → n < bound → text ≢ word ++ (decimal n ++ end ∷ rest)

module _ (text : List ℕ) (end bound : ℕ) (wide : bound ≤ 2 ^ 64) (other : is_ascii_digit end ≡ false) (positive : 0 < end) where
  module _ (at : ℕ) (run : IsRun text at) where
    not_so : ((n : ℕ) → n < bound → IsNumberFound text at end n → ⊥) → HasNoNumber text [] end bound
    not_so miss n rest low is =
        miss n low (number_found text n end at (length text) rest is (omega (arith, low, wide)) (omega (arith, few_digits text n end rest is)) other run.digits (λ more. run.stopped))

    by_value : at < length text → 0 < at → get_or text at 0 ≡ end → (1 < at → get_or text 0 0 ≢ 48) → HasNumber text [] end bound ⊎ HasNoNumber text [] end bound
    by_value within some here first = elim (cases_lt (digits_value 10 (take at text)) bound) [
      | inl low ↦ inl (record {
        n = digits_value 10 (take at text);
        rest = drop (at + 1) text;
        low = low;
        is = front_number text at end within some here run.digits first (omega (arith, low, wide));
      })
      | inr high ↦ inr (not_so (λ n low found. omega (arith, low, high, found.value)))
    ]

    by_first : at < length text → 0 < at → get_or text at 0 ≡ end → HasNumber text [] end bound ⊎ HasNoNumber text [] end bound
    by_first within some here = elim (cases_eq (get_or text 0 0) 48) [
      | inr miss ↦ by_value within some here (λ more. miss)
      | inl leading ↦ elim (cases_lt 1 at) [
        | inl more ↦ inr (not_so (λ n low found. found.first more leading))
        | inr one ↦ by_value within some here (λ more. absurd (omega (arith, more, one)))
      ]
    ]

    by_end : at < length text → 0 < at → HasNumber text [] end bound ⊎ HasNoNumber text [] end bound
    by_end within some = elim (cases_eq (get_or text at 0) end) [
      | inl here ↦ by_first within some here
      | inr miss ↦ inr (not_so (λ n low found. miss found.here))
    ]

    by_run : HasNumber text [] end bound ⊎ HasNoNumber text [] end bound
    by_run = elim (cases_lt at (length text)) [
      | inr past ↦ inr (not_so (λ n low found. omega (arith, positive, found.here, get_or_past text at 0 past)))
      | inl within ↦ elim (cases_lt 0 at) [
        | inl some ↦ by_end within some
        | inr none ↦ inr (not_so (λ n low found. omega (arith, none, found.some)))
      ]
    ]

  pub decide_number : HasNumber text [] end bound ⊎ HasNoNumber text [] end bound
  decide_number = let run = run_of text in by_run run.0 run.1

-- the same behind a word
pub decide_behind : (text word : List ℕ) (end bound : ℕ) → bound ≤ 2 ^ 64 → is_ascii_digit end ≡ false → 0 < end → HasNumber text word end bound ⊎ HasNoNumber text word end bound
decide_behind text word end bound wide other positive = elim (decide_word word text) [
  | inr none ↦ inr (λ n rest low is. none (decimal n ++ end ∷ rest) is)
  | inl found ↦ elim (decide_number found.0 end bound wide other positive) [
    | inl number ↦ inl (record { n = number.n; rest = number.rest; low = number.low; is = found.1 ∙ ap (λ t. word ++ t) number.is })
    | inr none ↦ inr (λ n rest low is. none n rest low (append_cancel_left word found.0 (decimal n ++ end ∷ rest) (sym found.1 ∙ is)))
  ]
]

-- ---- words

module _ {X : Type 0} (word : X → List ℕ) (fits : X → Type 0) where
  pub record HasWord (text : List ℕ) (last : Bool) : Type 0 where
    pub w : X
    pub rest : List ℕ
    pub can : fits w
    pub is : text ≡ word w ++ end_byte last ∷ rest

  abbrev pub HasNoWord : List ℕ → Bool → Type 0
  HasNoWord text last = (w : X) (rest : List ℕ) → fits w → text ≢ word w ++ end_byte last ∷ rest

  pub record HasWords (text : List ℕ) (count : ℕ) : Type 0 where
    pub ws : List X
    pub rest : List ℕ
    pub size : length ws ≡ count
    pub can : All fits ws
    pub is : 32 ∷ text ≡ words_on (map word ws) rest

  abbrev pub HasNoWords : List ℕ → ℕ → Type 0
  HasNoWords text count = (ws : List X) (rest : List ℕ) → length ws ≡ count → All fits ws → 32 ∷ text ≢ words_on (map word ws) rest

  module _ (one : (x y : X) (last : Bool) (r q : List ℕ) → fits x → fits y → word x ++ end_byte last ∷ r ≡ word y ++ end_byte last ∷ q → (x ≡ y) × (r ≡ q))
      (decide : (text : List ℕ) (last : Bool) → HasWord text last ⊎ HasNoWord text last) where
    no_last : (text : List ℕ) → HasNoWord text true → HasNoWords text 1
    no_last text none [] rest size can is = omega (arith, size)
    no_last text none (w ∷ []) rest size can is = none w rest (All-head fits w [] can) (ap (drop 1) is)
    no_last text none (w ∷ v ∷ ws) rest size can is = omega (arith, size)

    no_first : (text : List ℕ) (count : ℕ) → HasNoWord text false → HasNoWords text (suc (suc count))
    no_first text count none [] rest size can is = omega (arith, size)
    no_first text count none (w ∷ ws) rest size can is =
        let space = words_space (map word ws) rest (some_words word ws (suc count) (omega (arith, size)) (omega arith)) in
        none w space.0 (All-head fits w ws can) (ap (drop 1) is ∙ ap (λ t. word w ++ t) space.1)

    no_others : (text : List ℕ) (count : ℕ) (found : HasWord text false) → HasNoWords found.rest (suc count) → HasNoWords text (suc (suc count))
    no_others text count found none [] rest size can is = omega (arith, size)
    no_others text count found none (w ∷ ws) rest size can is =
        let space = words_space (map word ws) rest (some_words word ws (suc count) (omega (arith, size)) (omega arith)) in
        let same = one found.w w false found.rest space.0 found.can (All-head fits w ws can) (sym found.is ∙ ap (drop 1) is ∙ ap (λ t. word w ++ t) space.1) in
        none ws rest (omega (arith, size)) (All-tail fits w ws can) (ap (λ t. 32 ∷ t) same.1 ∙ sym space.1)

    pub decide_words : (count : ℕ) (text : List ℕ) → HasWords text (suc count) ⊎ HasNoWords text (suc count)
    decide_words zero text = elim (decide text true) [
      | inl found ↦ inl (record { ws = found.w ∷ []; rest = found.rest; size = refl; can = All-cons fits found.w [] found.can (All-nil fits); is = ap (λ t. 32 ∷ t) found.is })
      | inr none ↦ inr (no_last text none)
    ]
    decide_words (suc count) text = elim (decide text false) [
      | inr none ↦ inr (no_first text count none)
      | inl found ↦ elim (decide_words count found.rest) [
        | inr none ↦ inr (no_others text count found none)
        | inl others ↦ inl (record {
          ws = found.w ∷ others.ws;
          rest = others.rest;
          size = ap (λ n. suc n) others.size;
          can = All-cons fits found.w others.ws found.can others.can;
          is = ap (λ t. 32 ∷ t) (found.is ∙ ap (λ t. word found.w ++ t) others.is);
        })
      ]
    ]
