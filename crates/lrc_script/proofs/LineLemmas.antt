-- One line more of a script.
use Rattle.std.proofs.Common.{All, nat_lt, if◌then◌else◌, ◌≡◌, ℕ, ◌+◌, ◌≤◌, Bool, true, false, Option, Some, None, option_map, option_to_list, List, [], ◌∷◌, ◌++◌, length, map, refl, sym, ap, ◌∙◌, append-nil, append_assoc, length-append, arith}
use borrow.Author.Tests.{ltb-false}
use Rattle.std.specs.Borrow.{Bor}
use Rattle.std.proofs.lemmas.List.{map-append}
use Rattle.std.proofs.lemmas.List.Elements.{All-push, All-nil, filter-append}
use Rattle.lrc_rules.specs.declared.command.Command.{Command}
use Rattle.lrc_script.specs.declared.script.Cause.{Cause}
use Rattle.lrc_script.specs.declared.script.Cause.TheVariants.{TooLong}
use Rattle.lrc_script.specs.declared.script.ScriptError.{ScriptError}
use Rattle.lrc_script.specs.declared.script.ScriptError.TheVariants.{Bad, OutOfMemory}
use Rattle.lrc_script.specs.Scripts.{lines_of, IsScript, command_line, IsInRange, IsReadAs, BadLine, or_else, cause_of, first_bad, IsFirstBad}
use Rattle.lrc_script.specs.Cuts.{IsCut, IsAdded, bad_line}
use Rattle.lrc_script.proofs.CutLemmas.{pieces_behind, slice_split-cut}

short_if : (b : Bool) (other : Option Cause) → (if b then Some TooLong else other) ≡ None → b ≡ false
short_if true other e = cc
short_if false other e = refl

-- a line without a cause is short
pub cause_of-short : (line : List ℕ) → cause_of line ≡ None → length line ≤ 1024
unfolding cause_of
cause_of-short line good = ltb-false 1024 (length line) (short_if (nat_lt 1024 (length line)) _ good)

-- these lines of the text were read as these commands; the rest is left, and its first line has this number
pub record IsReadTo (first : ℕ) (text : List ℕ) (commands : List Command) (rest : List ℕ) (number : ℕ) : Type 0 where
  pub passed : List (List ℕ)
  pub lines_are : lines_of text ≡ passed ++ lines_of rest
  pub script : IsScript passed commands
  pub bad_left : first_bad first (lines_of text) ≡ first_bad number (lines_of rest)
  pub within : number + length rest ≤ first + length text

pub IsReadTo-start : (first : ℕ) (text : List ℕ) → IsReadTo first text [] text first
IsReadTo-start first text = record {
  passed = [];
  lines_are = refl;
  script = record { short = All-nil (λ line. length line ≤ 1024); in_range = All-nil IsInRange; listed = refl };
  bad_left = refl;
  within = omega arith;
}

first_of : (found other : Option BadLine) (error : ScriptError) → IsFirstBad found error → IsFirstBad (or_else found other) error
first_of found other OutOfMemory is = tt
first_of found other (Bad line cause) is = ap (λ o. or_else o other) is

module _ (passed : List (List ℕ)) (line : List ℕ) (before after : List Command) (script : IsScript passed before) (good : cause_of line ≡ None) where
  short : All (λ l. length l ≤ 1024) (passed ++ line ∷ [])
  short = All-push (λ l. length l ≤ 1024) passed line script.short (cause_of-short line good)

  with_read : (read : Option Command) → IsReadAs line read → after ≡ before ++ option_to_list read → IsScript (passed ++ line ∷ []) after
  with_read None is commands =
      rw (commands, append-nil) (record { short = short; in_range = script.in_range; listed = rw (filter-append, is, append-nil) script.listed })
  with_read (Some command) is commands =
      rw commands (record {
        short = short;
        in_range = All-push IsInRange before command script.in_range is.1;
        listed = rw (filter-append, is.0, map-append, script.listed) (ap (λ l. map command_line before ++ l ∷ []) is.2);
      })

  pub IsScript-added : IsAdded line before after → IsScript (passed ++ line ∷ []) after
  IsScript-added added = with_read added.read added.is_read added.commands

module _ (first : ℕ) (text rest line : List ℕ) (commands : List Command) (number : ℕ) (so_far : IsReadTo first text commands rest number) where
  bad_here : (behind : Option (Bor (List ℕ))) → IsCut 10 rest line behind → first_bad first (lines_of text) ≡ or_else (bad_line number line) (first_bad (number + 1) (pieces_behind 10 behind))
  bad_here behind cut = so_far.bad_left ∙ ap (first_bad number) (slice_split-cut 10 rest line behind cut)

  -- the line is the first that is bad
  pub IsFirstBad-here : (behind : Option (Bor (List ℕ))) (error : ScriptError) → IsCut 10 rest line behind → IsFirstBad (bad_line number line) error → IsFirstBad (first_bad first (lines_of text)) error
  IsFirstBad-here behind error cut bad = rw (bad_here behind cut) (first_of (bad_line number line) (first_bad (number + 1) (pieces_behind 10 behind)) error bad)

  module _ (good : cause_of line ≡ None) (after : List Command) (added : IsAdded line commands after) where
    good_here : (behind : Option (Bor (List ℕ))) → IsCut 10 rest line behind → first_bad first (lines_of text) ≡ first_bad (number + 1) (pieces_behind 10 behind)
    good_here behind cut = bad_here behind cut ∙ ap (λ o. or_else (option_map (λ cause. record { line = number; cause = cause }) o) (first_bad (number + 1) (pieces_behind 10 behind))) good

    lines_here : (behind : Option (Bor (List ℕ))) → IsCut 10 rest line behind → lines_of text ≡ (so_far.passed ++ line ∷ []) ++ pieces_behind 10 behind
    lines_here behind cut = so_far.lines_are ∙ ap (λ ls. so_far.passed ++ ls) (slice_split-cut 10 rest line behind cut) ∙ sym (append_assoc so_far.passed (line ∷ []) (pieces_behind 10 behind))

    pub IsReadTo-next : (next : Bor (List ℕ)) → IsCut 10 rest line (Some next) → IsReadTo first text after next.now (number + 1)
    IsReadTo-next next cut =
        let long = ap length cut.1 ∙ length-append line (10 ∷ next.now) in
        record {
          passed = so_far.passed ++ line ∷ [];
          lines_are = lines_here (Some next) cut;
          script = IsScript-added so_far.passed line commands after so_far.script good added;
          bad_left = good_here (Some next) cut;
          within = omega (arith, so_far.within, long);
        }

    -- behind the last line
    pub IsScript-end : IsCut 10 rest line None → IsScript (lines_of text) after
    IsScript-end cut = rw (lines_here None cut, append-nil) (IsScript-added so_far.passed line commands after so_far.script good added)

    pub first_bad-end : IsCut 10 rest line None → first_bad first (lines_of text) ≡ None
    first_bad-end cut = good_here None cut
