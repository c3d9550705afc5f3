-- A text, cut at its first parting line.
use Rattle.std.proofs.Common.{◌≡◌, ◌≢◌, ℕ, ◌+◌, ◌-◌, ◌<◌, ◌≤◌, ◌⊎◌, zero, suc, true, false, Option, Some, None, nat_eq, option_map, unwrap_or, codes, List, [], ◌∷◌, ◌++◌, length, get_or, take, drop, All, count_by, refl, sym, ap, subst, ◌∙◌, arith, append_assoc, append-nil, length-append, length-take, length-drop, inl, inr}
use borrow.Author.Tests.{eqb-true}
use Rattle.std.specs.Borrow.{Bor}
use Rattle.std.specs.List.{slice_split, flat_map}
use Rattle.std.proofs.lemmas.Bool.{cases_lt}
use Rattle.std.proofs.lemmas.List.{drop_at, take-append-drop, take_more, get_or-drop, get_or-append-add, length_push}
use Rattle.std.proofs.lemmas.List.Splits.{slice_split_none, slice_split_at, length-slice_split}
use Rattle.lrc_script.specs.Cuts.{IsCut, StandBehind, IsCutAtParting, IsPart}
use Rattle.lrc_script.specs.Scripts.{lines_of}
use Rattle.lrc_script.specs.Bundles.{is_parting, parts_of, joined_lines, ended_lines}
use Rattle.lrc_script.proofs.ScriptLemmas.{not_so, same_text-true}
use Rattle.lrc_script.proofs.SplitLemmas.{joined_by, joined_parts, slice_split-behind}
use Rattle.lrc_script.proofs.TextLemmas.{joined_lines-of, joined_lines-behind}
use Rattle.memchr.specs.Find.{Nowhere, Passes, is_byte}
use Rattle.lrc_script.proofs.CutLemmas.{pieces_behind, slice_split-cut}

-- the text before the place where a line begins
abbrev pub IsStart : List ℕ → Type 0
IsStart front = (front ≡ []) ⊎ ((lines : List ℕ) × (front ≡ lines ++ 10 ∷ []))

-- the text from the place on where a line ends
abbrev pub IsEnd : List ℕ → Type 0
IsEnd back = (back ≡ []) ⊎ ((next : List ℕ) × (back ≡ 10 ∷ next))

-- a parting line begins at this place of the text
pub record PartsAt (text : List ℕ) (place : ℕ) : Type 0 where
  pub front : List ℕ
  pub back : List ℕ
  pub text_is : text ≡ front ++ (codes "%%" ++ back)
  pub place_is : place ≡ length front
  pub begins : IsStart front
  pub ends : IsEnd back

-- ---- the lines of a text in which no parting line begins

ends_there : (lines : List (List ℕ)) → IsEnd (flat_map (λ line. 10 ∷ line) lines)
ends_there [] = inl refl
ends_there (line ∷ lines) = inr (line ++ flat_map (λ line. 10 ∷ line) lines, refl)

-- each of these lines stands in the text behind an LF
stands_behind : (lines : List (List ℕ)) (k : ℕ) (d : List ℕ) → k < length lines → (front : List ℕ) × (back : List ℕ) × (flat_map (λ line. 10 ∷ line) lines ≡ front ++ 10 ∷ (get_or lines k d ++ back)) × IsEnd back
stands_behind [] k d within = absurd (omega (arith, within))
stands_behind (line ∷ lines) zero d within = ([], flat_map (λ line. 10 ∷ line) lines, refl, ends_there lines)
stands_behind (line ∷ lines) (suc k) d within =
    let there = stands_behind lines k d (omega (arith, within)) in
    ((10 ∷ line) ++ there.0, there.1, ap (λ t. (10 ∷ line) ++ t) there.2 ∙ sym (append_assoc (10 ∷ line) there.0 (10 ∷ (get_or lines k d ++ there.1))), there.3)

stands_in : (lines : List (List ℕ)) (k : ℕ) (d : List ℕ) → k < length lines → (front : List ℕ) × (back : List ℕ) × (joined_by 10 lines ≡ front ++ (get_or lines k d ++ back)) × IsStart front × IsEnd back
stands_in [] k d within = absurd (omega (arith, within))
stands_in (line ∷ lines) zero d within = ([], flat_map (λ line. 10 ∷ line) lines, refl, inl refl, ends_there lines)
stands_in (line ∷ lines) (suc k) d within =
    let there = stands_behind lines k d (omega (arith, within)) in
    let here = get_or lines k d ++ there.1 in (
      (line ++ there.0) ++ 10 ∷ [],
      there.1,
      ap (λ t. line ++ t) there.2 ∙ sym (append_assoc line there.0 (10 ∷ here)) ∙ sym (append_assoc (line ++ there.0) (10 ∷ []) here),
      inr (line ++ there.0, refl),
      there.3,
    )

end_behind : (back more : List ℕ) → IsEnd back → IsEnd more → IsEnd (back ++ more)
end_behind back more (inl none) ends = subst (λ b. IsEnd (b ++ more)) (sym none) ends
end_behind back more (inr some) ends = inr (some.0 ++ more, ap (λ b. b ++ more) some.1)

module _ (text front back : List ℕ) (n : ℕ) (text_is : text ≡ front ++ back) (ends : IsEnd back) (within : length front ≤ n) (nowhere : Nowhere (PartsAt text) 0 n) where
  parts_nowhere : (before line after : List ℕ) → front ≡ before ++ (line ++ after) → IsStart before → IsEnd after → is_parting line ≡ true → ⊥
  parts_nowhere before line after is begins ended parts =
      let same = same_text-true line (codes "%%") parts in
      let long = ap length is ∙ length-append before (line ++ after) in
      nowhere (length before) (omega arith) (omega (arith, within, long, length-append line after, ap length same)) (record {
        front = before;
        back = after ++ back;
        text_is = text_is ∙ ap (λ t. t ++ back) is ∙ append_assoc before (line ++ after) back ∙ ap (λ t. before ++ t) (append_assoc line after back) ∙ ap (λ l. before ++ (l ++ (after ++ back))) same;
        place_is = refl;
        begins = begins;
        ends = end_behind after back ended ends;
      })

  none_parts : All (λ line. is_parting line ≡ false) (lines_of front)
  none_parts k d low =
      let there = stands_in (lines_of front) k d low in
      let is = sym (joined_parts (λ b. nat_eq b 10) 10 (λ b same. eqb-true b 10 same) front) ∙ there.2 in
      not_so (is_parting (get_or (lines_of front) k d)) (parts_nowhere there.0 (get_or (lines_of front) k d) there.1 is there.3 there.4)

-- ---- where a parting line may begin

module _ (text : List ℕ) where
  -- there is a percent sign
  sign_there : (k : ℕ) → PartsAt text k → Passes (is_byte 37) text k
  sign_there k parts =
      let there : k ≡ length parts.front + 0 = omega (arith, parts.place_is) in
      ap (is_byte 37) (ap (λ t. get_or t k 0) parts.text_is ∙ ap (λ i. get_or (parts.front ++ (codes "%%" ++ parts.back)) i 0) there ∙ get_or-append-add parts.front (codes "%%" ++ parts.back) 0 0)

  -- so none does before the next percent sign
  pub nowhere_before : (from n : ℕ) → Nowhere (PartsAt text) 0 from → Nowhere (Passes (is_byte 37) (drop from text)) 0 n → Nowhere (PartsAt text) 0 (from + n)
  nowhere_before from n near far k low high parts =
      elim (cases_lt k from) [
        | inl before ↦ near k low before parts
        | inr past ↦
            let whole : from + (k - from) ≡ k = omega (arith, past) in
            let there = ap (is_byte 37) (get_or-drop from text (k - from) 0 ∙ ap (λ i. get_or text i 0) whole) in
            far (k - from) (omega arith) (omega (arith, past, high)) (there ∙ sign_there k parts)
      ]

  pub nowhere_past : (n : ℕ) → Nowhere (PartsAt text) 0 n → ¬ PartsAt text n → Nowhere (PartsAt text) 0 (n + 1)
  nowhere_past n near not_here k low high parts =
      elim (cases_lt k n) [
        | inl before ↦ near k low before parts
        | inr past ↦ let here : k ≡ n = omega (arith, past, high) in not_here (subst (PartsAt text) here parts)
      ]

  -- none does behind another byte than an LF
  pub not_inside : (n : ℕ) → n ≢ 0 → get_or text (n - 1) 0 ≢ 10 → ¬ PartsAt text n
  not_inside n some other parts =
      elim parts.begins [
        | inl none ↦ some (parts.place_is ∙ ap length none)
        | inr is ↦
            let there : n - 1 ≡ length is.0 + 0 = omega (arith, parts.place_is, ap length is.1, length-append is.0 (10 ∷ [])) in
            let line = codes "%%" ++ parts.back in
            let text_is = parts.text_is ∙ ap (λ t. t ++ line) is.1 ∙ append_assoc is.0 (10 ∷ []) line in
            other (ap (λ t. get_or t (n - 1) 0) text_is ∙ ap (λ i. get_or (is.0 ++ 10 ∷ line) i 0) there ∙ get_or-append-add is.0 (10 ∷ line) 0 0)
      ]

  first_line : (back : List ℕ) → IsEnd back → (more : List (List ℕ)) × (lines_of (codes "%%" ++ back) ≡ codes "%%" ∷ more)
  first_line back (inl none) = ([], ap (λ b. lines_of (codes "%%" ++ b)) none)
  first_line back (inr some) = (lines_of some.0, ap (λ b. lines_of (codes "%%" ++ b)) some.1)

  -- and none where another line is
  pub not_other : (n : ℕ) (line : List ℕ) (behind : Option (Bor (List ℕ))) → IsCut 10 (drop n text) line behind → line ≢ codes "%%" → ¬ PartsAt text n
  not_other n line behind cut other parts =
      let left : drop n text ≡ codes "%%" ++ parts.back = ap (drop n) parts.text_is ∙ drop_at parts.front (codes "%%" ++ parts.back) n (sym parts.place_is) in
      let first = first_line parts.back parts.ends in
      let both : line ∷ pieces_behind 10 behind ≡ codes "%%" ∷ first.0 = sym (slice_split-cut 10 (drop n text) line behind cut) ∙ ap lines_of left ∙ first.1 in
      other (cc)

-- ---- the lines before a place

-- these are the lines of the text before a place where a line begins
record AreBefore (front : List ℕ) (lines : List (List ℕ)) : Type 0 where
  front_is : front ≡ ended_lines lines
  lines_are : (more : List ℕ) → lines_of (front ++ more) ≡ lines ++ lines_of more
  counted : count_by (is_byte 10) front ≡ length lines
  none_parts : All (λ line. is_parting line ≡ false) lines

ended_lines-of : (lines : List ℕ) → ended_lines (lines_of lines) ≡ lines ++ 10 ∷ []
ended_lines-of lines =
    sym (append-nil (ended_lines (lines_of lines))) ∙ sym (joined_lines-behind (lines_of lines) ([] ∷ []) (omega arith))
    ∙ ap joined_lines (sym (slice_split-behind (λ b. nat_eq b 10) 10 [] refl lines)) ∙ joined_lines-of (lines ++ 10 ∷ [])

module _ (text : List ℕ) (n : ℕ) (within : n ≤ length text) (nowhere : Nowhere (PartsAt text) 0 n) where
  before : IsStart (take n text) → (lines : List (List ℕ)) × AreBefore (take n text) lines
  before (inl none) = ([], subst (λ f. AreBefore f []) (sym none) (record { front_is = refl; lines_are = λ more. refl; counted = refl; none_parts = λ k d low. absurd (omega (arith, low)) }))
  before (inr (front, is)) =
      let long : length (take n text) ≡ length front + 1 = ap length is ∙ length_push front 10 in
      let text_is : text ≡ front ++ 10 ∷ drop n text = sym (take-append-drop n text) ∙ ap (λ t. t ++ drop n text) is ∙ append_assoc front (10 ∷ []) (drop n text) in
      let lines_are : (more : List ℕ) → lines_of (take n text ++ more) ≡ lines_of front ++ lines_of more = λ more.
      ap lines_of (ap (λ t. t ++ more) is ∙ append_assoc front (10 ∷ []) more) ∙ slice_split-behind (λ b. nat_eq b 10) 10 more refl front in
      let all = length-slice_split (λ b. nat_eq b 10) (take n text) in
      let one = ap length (ap lines_of (sym (append-nil (take n text))) ∙ lines_are []) ∙ length_push (lines_of front) [] in (
        lines_of front,
        record {
          front_is = is ∙ sym (ended_lines-of front);
          lines_are = lines_are;
          counted = omega (arith, all, one);
          none_parts = none_parts text front (10 ∷ drop n text) n text_is (inr (drop n text, refl)) (omega (arith, long, length-take n text, within)) nowhere;
        },
      )

-- a line begins at the start, and behind an LF
pub is_start : (text : List ℕ) (n : ℕ) → n ≤ length text → (n ≡ 0) ⊎ (get_or text (n - 1) 0 ≡ 10) → IsStart (take n text)
is_start text n within (inl none) = inl (ap (λ i. take i text) none)
is_start text zero within (inr ended) = inl refl
is_start text (suc n) within (inr ended) =
    let next : suc n ≡ n + 1 = omega arith in
    let last : n ≡ suc n - 1 = omega arith in
    inr (take n text, ap (λ i. take i text) next ∙ take_more text n 0 (omega (arith, within)) ∙ ap (λ b. take n text ++ b ∷ []) (ap (λ i. get_or text i 0) last ∙ ended))

-- ---- a parting line

-- what stands behind a cut, or nothing at the end
abbrev pub left_behind : Option (Bor (List ℕ)) → List ℕ
left_behind behind = unwrap_or (option_map (λ r. r.now) behind) []

stand_behind : (behind : Option (Bor (List ℕ))) (left : List ℕ) → left ≡ left_behind behind → StandBehind left (slice_split is_parting (pieces_behind 10 behind))
stand_behind None left is = inr (is, refl)
stand_behind (Some rest) left is = inl (ap parts_of (sym is))

length-cut : (rest line left : List ℕ) (behind : Option (Bor (List ℕ))) → IsCut 10 rest line behind → left ≡ left_behind behind → length line + length left ≤ length rest
length-cut rest line left None cut is = omega (arith, ap length is, ap length cut.1)
length-cut rest line left (Some next) cut is = omega (arith, ap length is, ap length cut.1, length-append line (10 ∷ next.now))

module _ (text : List ℕ) (n : ℕ) (within : n ≤ length text) (nowhere : Nowhere (PartsAt text) 0 n) where
  pub IsCutAtParting-at : IsStart (take n text) → (line left : List ℕ) (behind : Option (Bor (List ℕ))) → IsCut 10 (drop n text) line behind → is_parting line ≡ true → left ≡ left_behind behind
      → IsCutAtParting text (take n text) (count_by (is_byte 10) (take n text)) left
  IsCutAtParting-at begins line left behind cut parts is =
      let (lines, are) = before text n within nowhere begins in
      let all = ap lines_of (sym (take-append-drop n text)) ∙ are.lines_are (drop n text) ∙ ap (λ ls. lines ++ ls) (slice_split-cut 10 (drop n text) line behind cut) in
      record {
        first = lines;
        others = slice_split is_parting (pieces_behind 10 behind);
        parts = ap (slice_split is_parting) all ∙ slice_split_at is_parting lines line (pieces_behind 10 behind) are.none_parts parts;
        stand = stand_behind behind left is;
        text_before = are.front_is;
        counted = are.counted;
        within = omega (arith, within, length-take n text, length-drop n text, length-cut (drop n text) line left behind cut is, ap length (same_text-true line (codes "%%") parts));
      }

-- ---- no parting line

pub IsPart-whole : (text : List ℕ) → Nowhere (PartsAt text) 0 (length text) → IsPart text text 0 None
IsPart-whole text nowhere = (refl, omega arith, slice_split_none is_parting (lines_of text) (none_parts text text [] (length text) (sym (append-nil text)) (inl refl) (omega arith) nowhere))
