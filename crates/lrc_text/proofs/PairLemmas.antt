-- Numbers of at most three digits, the last two digits of a number, the digits before them, and lines whose numbers share those.
use Rattle.std.proofs.Common.{◌≡◌, ℕ, zero, suc, ◌+◌, ◌-◌, ◌*◌, ◌/◌, ◌%◌, ◌^◌, ◌<◌, ◌≤◌, nat_lt, if◌then◌else◌, inl, inr, List, [], ◌∷◌, ◌++◌, get_or, take, drop, length, length-take, length-drop, codes, decimal, refl, sym, ap, ◌∙◌, arith, append_assoc}
use Rattle.std.proofs.lemmas.Bool.{cases_lt, lt-ltb, le-ltb}
use Rattle.std.proofs.lemmas.Fmt.{decimal_digit, decimal_step}
use Rattle.std.proofs.lemmas.List.{drop-drop, drop-append-le, take-append-drop}
use Rattle.lrc_rules.specs.declared.entry.Entry.{Entry}
use Rattle.lrc_rules.specs.declared.reply.Reply.{Reply}
use Rattle.lrc_text.specs.Texts.{reply_text, reply_line, lines_from}
use Rattle.lrc_text.specs.declared.digits.TheConstants.{PAIRS, NUMERALS}

abbrev pub pair : ℕ → List ℕ
pair p = (48 + p / 10) ∷ (48 + p % 10) ∷ []

-- how many digits a number below 1,000 has
abbrev pub digit_count : ℕ → ℕ
digit_count n = if nat_lt n 10 then 1 else if nat_lt n 100 then 2 else 3

abbrev pub numeral : ℕ → List ℕ
numeral n = digit_count n ∷ (48 + n / 100) ∷ (48 + n / 10 % 10) ∷ (48 + n % 10) ∷ []

-- ---- tables

-- `f` of the `n` numbers from `p` on
texts_from : (ℕ → List ℕ) → ℕ → ℕ → List (List ℕ)
texts_from f p zero = []
texts_from f p (suc n) = f p ∷ texts_from f (p + 1) n

text_from : (f : ℕ → List ℕ) (p n k : ℕ) (d : List ℕ) → k < n → get_or (texts_from f p n) k d ≡ f (p + k)
unfolding texts_from
text_from f p zero k d within = absurd (omega (arith, within))
text_from f p (suc n) zero d within = let e : p ≡ p + 0 = omega arith in ap f e
text_from f p (suc n) (suc k) d within = let e : p + 1 + k ≡ p + suc k = omega arith in text_from f (p + 1) n k d (omega (arith, within)) ∙ ap f e

all_pairs : PAIRS ≡ texts_from pair 0 100
unfolding texts_from
all_pairs = refl

all_numerals : NUMERALS ≡ texts_from numeral 0 1000
unfolding texts_from
all_numerals = refl

table_at : (f : ℕ → List ℕ) (table : List (List ℕ)) (n p : ℕ) (d : List ℕ) → table ≡ texts_from f 0 n → p < n → get_or table p d ≡ f p
table_at f table n p d is small =
    let e : 0 + p ≡ p = omega arith in
    ap (λ (ts : List (List ℕ)). get_or ts p d) is ∙ text_from f 0 n p d small ∙ ap f e

pub pair_at : (p : ℕ) (d : List ℕ) → p < 100 → get_or PAIRS p d ≡ pair p
pair_at p d small = table_at pair PAIRS 100 p d all_pairs small

numeral_at : (n : ℕ) (d : List ℕ) → n < 1000 → get_or NUMERALS n d ≡ numeral n
numeral_at n d small = table_at numeral NUMERALS 1000 n d all_numerals small

-- ---- a number below 1,000

decimal_one : (n : ℕ) → n < 10 → decimal n ≡ drop 3 (numeral n)
decimal_one n small = let e : n ≡ n % 10 = omega (arith, small) in decimal_digit n small ∙ ap (λ k. (48 + k) ∷ []) e

decimal_two : (n : ℕ) → 10 ≤ n → n < 100 → decimal n ≡ drop 2 (numeral n)
decimal_two n large small =
    let e : n / 10 ≡ n / 10 % 10 = omega (arith, small) in
    decimal_step n large (omega (arith, small)) ∙ ap (λ ds. ds ++ (48 + n % 10) ∷ []) (decimal_digit (n / 10) (omega (arith, small)))
    ∙ ap (λ k. (48 + k) ∷ (48 + n % 10) ∷ []) e

decimal_three : (n : ℕ) → 100 ≤ n → n < 1000 → decimal n ≡ drop 1 (numeral n)
decimal_three n large small =
    let e : n / 10 / 10 ≡ n / 100 = omega arith in
    decimal_step n (omega (arith, large)) (omega (arith, small))
    ∙ ap (λ ds. ds ++ (48 + n % 10) ∷ [])
    (decimal_step (n / 10) (omega (arith, large)) (omega (arith, small)) ∙ ap (λ ds. ds ++ (48 + n / 10 % 10) ∷ []) (decimal_digit (n / 10 / 10) (omega (arith, small))))
    ∙ ap (λ k. (48 + k) ∷ (48 + n / 10 % 10) ∷ (48 + n % 10) ∷ []) e

count_at : (n : ℕ) (d : List ℕ) → n < 1000 → get_or (get_or NUMERALS n d) 0 0 ≡ digit_count n
count_at n d small = ap (λ (ds : List ℕ). get_or ds 0 0) (numeral_at n d small)

count_one : (n : ℕ) → n < 10 → digit_count n ≡ 1
count_one n small = rw (lt-ltb n 10 small) refl

count_two : (n : ℕ) → 10 ≤ n → n < 100 → digit_count n ≡ 2
count_two n large small = rw (le-ltb n 10 large, lt-ltb n 100 small) refl

count_three : (n : ℕ) → 100 ≤ n → digit_count n ≡ 3
count_three n large = rw (le-ltb n 10 (omega (arith, large)), le-ltb n 100 large) refl

-- it is from one to three
pub count_within : (n count : ℕ) (d : List ℕ) → n < 1000 → count ≡ get_or (get_or NUMERALS n d) 0 0 → (1 ≤ count) × (count ≤ 3)
count_within n count d small is =
    let counted : count ≡ digit_count n = is ∙ count_at n d small in
    elim (cases_lt n 10) [
      | inl one ↦ let c : count ≡ 1 = counted ∙ count_one n one in (omega (arith, c), omega (arith, c))
      | inr more ↦ elim (cases_lt n 100) [
        | inl two ↦ let c : count ≡ 2 = counted ∙ count_two n more two in (omega (arith, c), omega (arith, c))
        | inr three ↦ let c : count ≡ 3 = counted ∙ count_three n three in (omega (arith, c), omega (arith, c))
      ]
    ]

-- the digits of a numeral without the bytes before them
kept_digits :
    (n r end zeros : ℕ) (u text d : List ℕ) → n < 1000 → decimal n ≡ drop zeros (numeral n) → zeros ≤ 4
    → drop r u ≡ get_or NUMERALS n d ++ drop end text → drop (r + zeros) u ≡ decimal n ++ drop end text
kept_digits n r end zeros u text d small is few outer =
    sym (drop-drop zeros r u) ∙ ap (drop zeros) (outer ∙ ap (λ ds. ds ++ drop end text) (numeral_at n d small))
    ∙ drop-append-le zeros (numeral n) (drop end text) few ∙ ap (λ ds. ds ++ drop end text) (sym is)

pub short_written :
    (n r end count : ℕ) (u text d : List ℕ) → n < 1000 → r + 4 ≡ end → count ≡ get_or (get_or NUMERALS n d) 0 0
    → drop r u ≡ get_or NUMERALS n d ++ drop end text → drop (end - count) u ≡ decimal n ++ drop end text
short_written n r end count u text d small room is outer =
    let counted : count ≡ digit_count n = is ∙ count_at n d small in
    elim (cases_lt n 10) [
      | inl one ↦
          let c : count ≡ 1 = counted ∙ count_one n one in
          let at : end - count ≡ r + 3 = omega (arith, c, room) in
          rw at (kept_digits n r end 3 u text d small (decimal_one n one) (omega arith) outer)
      | inr more ↦ elim (cases_lt n 100) [
        | inl two ↦
            let c : count ≡ 2 = counted ∙ count_two n more two in
            let at : end - count ≡ r + 2 = omega (arith, c, room) in
            rw at (kept_digits n r end 2 u text d small (decimal_two n more two) (omega arith) outer)
        | inr three ↦
            let c : count ≡ 3 = counted ∙ count_three n three in
            let at : end - count ≡ r + 1 = omega (arith, c, room) in
            rw at (kept_digits n r end 1 u text d small (decimal_three n three small) (omega arith) outer)
      ]
    ]

-- the digits of a number and two more after them
pub decimal_pair : (n p : ℕ) → 0 < n → n * 100 + p < 2 ^ 64 → p < 100 → decimal (n * 100 + p) ≡ decimal n ++ pair p
decimal_pair n p some small two =
    let m = n * 100 + p in
    let a : m / 10 / 10 ≡ n = omega arith in
    let b : m / 10 % 10 ≡ p / 10 = omega arith in
    let c : m % 10 ≡ p % 10 = omega arith in
    rw (decimal_step m (omega arith) small, decimal_step (m / 10) (omega arith) (omega arith), append_assoc, a, b, c) refl

-- digits at the end of their room, and two more after them
pub written_with :
    (t u text room : List ℕ) (r last end p start : ℕ) (d : List ℕ) → p < 100 → start ≤ length room → drop last t ≡ get_or PAIRS p d ++ drop end text
    → drop r u ≡ room ++ drop last t → drop (r + start) u ≡ drop start room ++ ((48 + p / 10) ∷ (48 + p % 10) ∷ drop end text)
written_with t u text room r last end p start d small short inner outer =
    sym (drop-drop start r u) ∙ ap (drop start) outer ∙ drop-append-le start room (drop last t) short
    ∙ ap (λ l. drop start room ++ l) (inner ∙ ap (λ ds. ds ++ drop end text) (pair_at p d small))

-- ---- lines

line_parts : (place : ℕ) (reply : Reply) → reply_line place reply ≡ decimal place ++ (codes " " ++ (reply_text reply ++ codes "\n"))
line_parts place reply =
    append_assoc (decimal place ++ codes " ") (reply_text reply) (codes "\n") ∙ append_assoc (decimal place) (codes " ") (reply_text reply ++ codes "\n")

-- a reply after the digits of its number, and the lines after it
pub told_with :
    (n p r s at : ℕ) (u t old digits behind : List ℕ) (entry : Entry) (later : List Entry) → digits ≡ decimal n → 0 < n → n * 100 + p < 2 ^ 64 → p < 100
    → drop r u ≡ digits ++ ((48 + p / 10) ∷ (48 + p % 10) ∷ drop s t)
    → drop s t ≡ (codes " " ++ (reply_text entry.reply ++ codes "\n")) ++ drop at old
    → drop at old ≡ lines_from (n * 100 + p + 1) later ++ behind
    → drop r u ≡ lines_from (n * 100 + p) (entry ∷ later) ++ behind
told_with n p r s at u t old digits behind entry later is some small two outer told rest =
    let place = n * 100 + p in
    let text = codes " " ++ (reply_text entry.reply ++ codes "\n") in
    let lines = lines_from (place + 1) later in
    outer ∙ ap (λ l. digits ++ (pair p ++ l)) (told ∙ ap (λ l. text ++ l) rest)
    ∙ ap (λ d. d ++ (pair p ++ (text ++ (lines ++ behind)))) is
    ∙ sym (append_assoc (decimal n) (pair p) (text ++ (lines ++ behind)))
    ∙ ap (λ d. d ++ (text ++ (lines ++ behind))) (sym (decimal_pair n p some small two))
    ∙ sym (append_assoc (decimal place) text (lines ++ behind))
    ∙ sym (append_assoc (decimal place ++ text) lines behind)
    ∙ ap (λ line. line ++ lines ++ behind) (sym (line_parts place entry.reply))

lines_from-append : (k : ℕ) (xs ys : List Entry) → lines_from k (xs ++ ys) ≡ lines_from k xs ++ lines_from (k + length xs) ys
lines_from-append k [] ys = let e : k ≡ k + 0 = omega arith in ap (λ n. lines_from n ys) e
lines_from-append k (x ∷ xs) ys =
    let e : k + 1 + length xs ≡ k + length (x ∷ xs) = omega arith in
    ap (λ l. reply_line k x.reply ++ l) (lines_from-append (k + 1) xs ys ∙ ap (λ n. lines_from (k + 1) xs ++ lines_from n ys) e)
    ∙ sym (append_assoc (reply_line k x.reply) (lines_from (k + 1) xs) (lines_from (k + length (x ∷ xs)) ys))

-- the length of a part of the entries
pub part_long : (records : List Entry) (few left : ℕ) → few ≤ left → left ≤ length records → length (take (left - few) (drop few records)) ≡ left - few
part_long records few left below within = omega (arith, length-take (left - few) (drop few records), length-drop few records, below, within)

pub part_more :
    (records : List Entry) (first few left place at r : ℕ) (u old behind : List ℕ) → few ≤ left → left ≤ length records → place ≡ first + few
    → drop r u ≡ lines_from place (take (left - few) (drop few records)) ++ drop at old
    → drop at old ≡ lines_from (first + left) (drop left records) ++ behind
    → drop r u ≡ lines_from (first + few) (drop few records) ++ behind
part_more records first few left place at r u old behind below within is outer rest =
    let part = take (left - few) (drop few records) in
    let long = part_long records few left below within in
    let end : first + left ≡ first + few + length part = omega (arith, long, below) in
    let left_is : few + (left - few) ≡ left = omega (arith, below) in
    let whole : part ++ drop left records ≡ drop few records =
    ap (λ l. part ++ l) (ap (λ k. drop k records) (sym left_is) ∙ sym (drop-drop (left - few) few records)) ∙ take-append-drop (left - few) (drop few records) in
    outer ∙ ap (λ k. lines_from k part ++ drop at old) is ∙ ap (λ l. lines_from (first + few) part ++ l) (rest ∙ ap (λ k. lines_from k (drop left records) ++ behind) end)
    ∙ sym (append_assoc (lines_from (first + few) part) (lines_from (first + few + length part) (drop left records)) behind)
    ∙ ap (λ l. l ++ behind) (sym (lines_from-append (first + few) part (drop left records)) ∙ ap (lines_from (first + few)) whole)
