-- One script more of a bundle.
use Rattle.std.proofs.Common.{◌≡◌, ℕ, suc, ◌+◌, ◌<◌, ◌≤◌, ◌↔◌, not, filter, option_map, Option, Some, None, List, [], ◌∷◌, ◌++◌, length, All, refl, sym, ap, subst, ◌∙◌, arith, append_assoc, append-nil, length-append, inl, inr}
use Rattle.std.specs.Borrow.{Bor}
use Rattle.std.proofs.lemmas.List.{length_push, get_or_append_left}
use Rattle.std.proofs.lemmas.List.Elements.{All-nil, All-push, filter-append}
use Rattle.std.proofs.lemmas.List.Splits.{length-slice_split}
use Rattle.std.specs.Option.{option_map_or}
use Rattle.lrc_script.specs.declared.bundle.ScriptText.{ScriptText}
use Rattle.lrc_rules.specs.declared.command.Command.{Command}
use Rattle.lrc_script.specs.Scripts.{lines_of, is_passed_over, IsScript, or_else, cause_of, first_bad}
use Rattle.lrc_script.proofs.ScriptLemmas.{cause_of-passed}
use Rattle.lrc_script.proofs.TextLemmas.{joined_lines-of, topology_of-text}
use Rattle.lrc_script.specs.Bundles.{is_parting, scripts_from, scripts_in, scripts_of, topology_in, topology_of, ended_lines, text_before, HoldsLines, AreTextsOf}
use Rattle.lrc_script.specs.Cuts.{StandBehind, IsCutAtParting, IsPart}

-- the parts that are left: those behind the next parting line
abbrev AreLeft : Option (Bor (List ℕ)) → List (List (List ℕ)) → Type 0
AreLeft None parts = parts ≡ []
AreLeft (Some rest) parts = StandBehind rest.now parts

-- what is left fits behind the lines that were passed
abbrev Fits : List ℕ → ℕ → Option (Bor (List ℕ)) → Type 0
Fits bundle passed None = passed ≤ length bundle
Fits bundle passed (Some rest) = passed + 2 + length rest.now ≤ length bundle

-- these texts are those of the first scripts; so many lines stand before the next parting line, and this behind it
pub record IsSplit (bundle : List ℕ) (texts : List ScriptText) (passed : ℕ) (behind : Option (Bor (List ℕ))) : Type 0 where
  pub left : List (List (List ℕ))
  pub stand : AreLeft behind left
  pub scripts : (more : List ScriptText) → AreTextsOf (scripts_from (passed + 1) left) more → AreTextsOf (scripts_of bundle) (texts ++ more)
  pub counted : length texts + length left ≡ length (scripts_of bundle)
  pub numbered : All (λ s. s.first_line + length s.text.now ≤ length bundle) texts
  pub within : Fits bundle passed behind

length-scripts_from : (line : ℕ) (parts : List (List (List ℕ))) → length (scripts_from line parts) ≡ length parts
length-scripts_from line [] = refl
length-scripts_from line (lines ∷ parts) = ap suc (length-scripts_from (line + 1 + length lines) parts)

length-ended_lines : (lines : List (List ℕ)) → length lines ≤ length (ended_lines lines)
length-ended_lines [] = omega arith
length-ended_lines (line ∷ lines) = omega (arith, length-ended_lines lines, length-append (line ++ 10 ∷ []) (ended_lines lines), length-append line (10 ∷ []))

some_left : (rest : List ℕ) (parts : List (List (List ℕ))) → StandBehind rest parts → 0 < length parts
some_left rest parts (inl all) = omega (arith, ap length all, length-slice_split is_parting (lines_of rest))
some_left rest parts (inr none) = omega (arith, ap length none.1)

-- so many lines end there, and each has its LF
lines_below : (text before : List ℕ) (lines : ℕ) (behind : List ℕ) → IsCutAtParting text before lines behind → lines ≤ length before
lines_below text before lines behind cut = omega (arith, cut.counted, ap length cut.text_before, length-ended_lines cut.first)

-- ---- the first part

text_before-some : (first : List (List ℕ)) (others : List (List (List ℕ))) → 0 < length others → text_before others first ≡ ended_lines first
text_before-some first [] some = absurd (omega (arith, some))
text_before-some first (second ∷ others) some = refl

module _ (bundle before : List ℕ) (lines : ℕ) where
  pub IsSplit-start : (behind : Option (Bor (List ℕ))) → IsPart bundle before lines behind → IsSplit bundle [] lines behind
  unfolding scripts_of
  IsSplit-start None part =
      let none : scripts_of bundle ≡ [] = ap scripts_in part.2 in
      record {
        left = [];
        stand = refl;
        scripts = λ more are. subst (λ ss. AreTextsOf ss more) (sym none) are;
        counted = omega (arith, ap length none);
        numbered = All-nil (λ s. s.first_line + length s.text.now ≤ length bundle);
        within = part.1;
      }
  IsSplit-start (Some rest) cut =
      let some : scripts_of bundle ≡ scripts_from (lines + 1) cut.others = ap scripts_in cut.parts ∙ ap (λ n. scripts_from (n + 1) cut.others) (sym cut.counted) in
      record {
        left = cut.others;
        stand = cut.stand;
        scripts = λ more are. subst (λ ss. AreTextsOf ss more) (sym some) are;
        counted = omega (arith, ap length some, length-scripts_from (lines + 1) cut.others);
        numbered = All-nil (λ s. s.first_line + length s.text.now ≤ length bundle);
        within = omega (arith, lines_below bundle before lines rest.now cut, cut.within);
      }

  pub topology_of-first : (behind : Option (Bor (List ℕ))) → IsPart bundle before lines behind → before ≡ topology_of bundle
  unfolding topology_of
  topology_of-first None part = part.0 ∙ sym (ap (topology_in bundle) part.2)
  topology_of-first (Some rest) cut = cut.text_before ∙ sym (topology_of-text bundle cut.first cut.others cut.parts ∙ text_before-some cut.first cut.others (some_left rest.now cut.others cut.stand))

-- ---- the next part

-- the next of the parts that are left, and those behind it
record IsNext (left : List (List (List ℕ))) (before : List ℕ) (lines : ℕ) (behind : Option (Bor (List ℕ))) : Type 0 where
  first : List (List ℕ)
  others : List (List (List ℕ))
  left_is : left ≡ first ∷ others
  text_is : before ≡ text_before others first
  stand : AreLeft behind others
  renumbered : (n : ℕ) → scripts_from (n + lines) others ≡ scripts_from (n + length first) others

next : (left : List (List (List ℕ))) (rest before : List ℕ) (lines : ℕ) (behind : Option (Bor (List ℕ))) → StandBehind rest left → IsPart rest before lines behind → IsNext left before lines behind
next left rest before lines None (inl all) part = record {
  first = lines_of rest;
  others = [];
  left_is = all ∙ part.2;
  text_is = part.0 ∙ sym (joined_lines-of rest);
  stand = refl;
  renumbered = λ n. refl;
}
next left rest before lines None (inr none) part = record { first = []; others = []; left_is = none.1; text_is = part.0 ∙ none.0; stand = refl; renumbered = λ n. refl }
next left rest before lines (Some behind) (inl all) cut = record {
  first = cut.first;
  others = cut.others;
  left_is = all ∙ cut.parts;
  text_is = cut.text_before ∙ sym (text_before-some cut.first cut.others (some_left behind.now cut.others cut.stand));
  stand = cut.stand;
  renumbered = λ n. ap (λ m. scripts_from (n + m) cut.others) cut.counted;
}
next left rest before lines (Some behind) (inr none) cut = absurd (omega (arith, cut.within, ap length none.0))

module _ (bundle : List ℕ) (texts : List ScriptText) (passed : ℕ) (rest : Bor (List ℕ)) (split : IsSplit bundle texts passed (Some rest)) where
  pub more_scripts : length texts < length (scripts_of bundle)
  more_scripts = omega (arith, split.counted, some_left rest.now split.left split.stand)

  within-next : (before : List ℕ) (lines : ℕ) (behind : Option (Bor (List ℕ))) → IsPart rest.now before lines behind → Fits bundle (passed + (1 + lines)) behind × (passed + 2 + length before ≤ length bundle)
  within-next before lines None part = (omega (arith, split.within, part.1), omega (arith, split.within, ap length part.0))
  within-next before lines (Some behind) cut = let below = lines_below rest.now before lines behind.now cut in (omega (arith, split.within, cut.within, below), omega (arith, split.within, cut.within))

  pub passed-next : (before : List ℕ) (lines : ℕ) (behind : Option (Bor (List ℕ))) → IsPart rest.now before lines behind → passed + (1 + lines) ≤ length bundle
  passed-next before lines None part = (within-next before lines None part).0
  passed-next before lines (Some behind) cut = let within = (within-next before lines (Some behind) cut).0 in omega (arith, within)

  pub shorter : (before : List ℕ) (lines : ℕ) (behind : Option (Bor (List ℕ))) → IsPart rest.now before lines behind → option_map_or (λ r. length r.now + 1) behind 0 < length rest.now + 1
  shorter before lines None part = omega arith
  shorter before lines (Some behind) cut = omega (arith, cut.within)

  pub IsSplit-next : (before : Bor (List ℕ)) (lines : ℕ) (behind : Option (Bor (List ℕ))) → IsPart rest.now before.now lines behind → IsSplit bundle (texts ++ record { first_line = passed + 2; text = before } ∷ []) (passed + (1 + lines)) behind
  IsSplit-next before lines behind part =
      let one = next split.left rest.now before.now lines behind split.stand part in
      let fits = within-next before.now lines behind part in
      let text : ScriptText = record { first_line = passed + 2; text = before } in
      let line : passed + (1 + lines) + 1 ≡ passed + 1 + 1 + lines = omega arith in
      record {
        left = one.others;
        stand = one.stand;
        scripts = λ more are.
            let behind_it = subst (λ ss. AreTextsOf ss more) (ap (λ n. scripts_from n one.others) line ∙ one.renumbered (passed + 1 + 1)) are in
            let both : AreTextsOf (scripts_from (passed + 1) (one.first ∷ one.others)) (text ∷ more) = (record { first_line = omega arith; text = one.text_is }, behind_it) in
            subst (AreTextsOf (scripts_of bundle)) (sym (append_assoc texts (text ∷ []) more)) (split.scripts (text ∷ more) (subst (λ ps. AreTextsOf (scripts_from (passed + 1) ps) (text ∷ more)) (sym one.left_is) both));
        counted = omega (arith, split.counted, ap length one.left_is, length_push texts text);
        numbered = All-push (λ s. s.first_line + length s.text.now ≤ length bundle) texts text split.numbered fits.1;
        within = fits.0;
      }

-- ---- no part more

pub AreTextsOf-all : (bundle : List ℕ) (texts : List ScriptText) (passed : ℕ) → IsSplit bundle texts passed None → AreTextsOf (scripts_of bundle) texts
AreTextsOf-all bundle texts passed split =
    subst (AreTextsOf (scripts_of bundle)) (append-nil texts) (split.scripts [] (subst (λ ps. AreTextsOf (scripts_from (passed + 1) ps) []) (sym split.stand) tt))

-- ---- the text of a script says what its lines say

first_bad-push_empty : (number : ℕ) (lines : List (List ℕ)) → first_bad number (lines ++ [] ∷ []) ≡ first_bad number lines
first_bad-push_empty number [] = rw (cause_of-passed [] (omega arith) refl) refl
first_bad-push_empty number (line ∷ lines) = ap (or_else (option_map (λ cause. record { line = number; cause = cause }) (cause_of line))) (first_bad-push_empty (number + 1) lines)

filter-push_empty : (lines : List (List ℕ)) → filter (λ line. not (is_passed_over line)) (lines ++ [] ∷ []) ≡ filter (λ line. not (is_passed_over line)) lines
filter-push_empty lines = filter-append (λ line. not (is_passed_over line)) lines ([] ∷ []) ∙ append-nil (filter (λ line. not (is_passed_over line)) lines)

pub IsScript-push_empty : (lines : List (List ℕ)) (commands : List Command) → IsScript (lines ++ [] ∷ []) commands ↔ IsScript lines commands
IsScript-push_empty lines commands = (
  λ script. record { short = λ k d within. rw (get_or_append_left lines ([] ∷ []) d k within) at (script.short k d (omega (arith, length_push lines []))); in_range = script.in_range; listed = sym (filter-push_empty lines) ∙ script.listed },
  λ script. record { short = All-push (λ line. length line ≤ 1024) lines [] script.short (omega arith); in_range = script.in_range; listed = filter-push_empty lines ∙ script.listed },
)

-- a text that holds the lines has their first bad line
pub first_bad-holds : (number : ℕ) (text : List ℕ) (lines : List (List ℕ)) → HoldsLines text lines → first_bad number (lines_of text) ≡ first_bad number lines
first_bad-holds number text lines (inl same) = ap (first_bad number) same
first_bad-holds number text lines (inr more) = ap (first_bad number) more ∙ first_bad-push_empty number lines

-- and it is the text of a script exactly where they are its lines
pub IsScript-holds : (text : List ℕ) (lines : List (List ℕ)) (commands : List Command) → HoldsLines text lines → IsScript (lines_of text) commands ↔ IsScript lines commands
IsScript-holds text lines commands (inl same) = (λ script. subst (λ ls. IsScript ls commands) same script, λ script. subst (λ ls. IsScript ls commands) (sym same) script)
IsScript-holds text lines commands (inr more) =
    let both = IsScript-push_empty lines commands in
    (λ script. both.0 (subst (λ ls. IsScript ls commands) more script), λ script. subst (λ ls. IsScript ls commands) (sym more) (both.1 script))
