-- How many commands the lines of a text can be, and the scripts of a bundle.
use Rattle.std.proofs.Common.{◌≡◌, ℕ, suc, ◌+◌, ◌*◌, ◌≤◌, inl, inr, Bool, true, false, not, cond, nat_eq, All, List, [], ◌∷◌, ◌++◌, length, map, flat_map, filter, sum_by, codes, refl, ap, arith, length-append}
use Rattle.std.specs.List.{slice_split, onto_first, AllZip}
use Rattle.std.proofs.lemmas.List.Sums.{sum_by-cons}
use Rattle.lrc_rules.specs.declared.command.Command.{Command}
use Rattle.lrc_script.specs.Scripts.{lines_of, is_passed_over, command_line, IsInRange, IsScript}
use Rattle.lrc_script.specs.Bundles.{Script, scripts_of, topology_of, HoldsLines}
use Rattle.lrc_script.proofs.FormLemmas.{command_line-long}
use Rattle.lrc_script.proofs.BundleLemmas.{IsScript-holds}
use Rattle.lrc_script.proofs.JoinLemmas.{bundle_texts}
use Rattle.lrc_script.proofs.TextLemmas.{bundle_joined}

-- the bytes of the lines, with one for the end of each
abbrev size_of : List (List ℕ) → ℕ
size_of [] = 0
size_of (line ∷ lines) = length line + 1 + size_of lines

size_of-cut : (b : Bool) (x : ℕ) (parts : List (List ℕ)) (n : ℕ) → size_of parts ≡ n + 1 → size_of (cond b ([] ∷ parts) (onto_first x parts)) ≡ suc n + 1
size_of-cut true x parts n e = omega (arith, e)
size_of-cut false x [] n e = absurd (omega (arith, e))
size_of-cut false x (part ∷ parts) n e = omega (arith, e)

size_of-slice_split : (p : ℕ → Bool) (xs : List ℕ) → size_of (slice_split p xs) ≡ length xs + 1
size_of-slice_split p [] = refl
size_of-slice_split p (x ∷ xs) = size_of-cut (p x) x (slice_split p xs) (length xs) (size_of-slice_split p xs)

size_of-kept : (b : Bool) (line : List ℕ) (kept lines : List (List ℕ)) → size_of kept ≤ size_of lines → size_of (cond b (line ∷ kept) kept) ≤ size_of (line ∷ lines)
size_of-kept true line kept lines h = omega (arith, h)
size_of-kept false line kept lines h = omega (arith, h)

size_of-filter : (p : List ℕ → Bool) (lines : List (List ℕ)) → size_of (filter p lines) ≤ size_of lines
size_of-filter p [] = omega arith
size_of-filter p (line ∷ lines) = size_of-kept (p line) line (filter p lines) lines (size_of-filter p lines)

size_of-commands : (cs : List Command) → All IsInRange cs → 5 * length cs ≤ size_of (map command_line cs)
size_of-commands [] _ = omega arith
size_of-commands (c ∷ cs) in_range = omega (arith, command_line-long c (in_range 0 c (omega arith)), size_of-commands cs (λ k d within. in_range (suc k) d (omega (arith, within))))

-- a command's line and its end have at least five bytes
few_commands : (text : List ℕ) (commands : List Command) → IsScript (lines_of text) commands → 5 * length commands ≤ length text + 1
few_commands text commands script =
    let all = size_of-slice_split (λ b. nat_eq b 10) text in
    let kept = size_of-filter (λ line. not (is_passed_over line)) (lines_of text) in
    let listed = ap size_of script.listed in
    let made = size_of-commands commands script.in_range in
    omega (arith, all, kept, listed, made)

-- ---- a bundle

abbrev HasCommands : Script → List Command → Type 0
HasCommands script commands = IsScript script.lines commands

-- the texts of scripts, each behind its parting line
abbrev texts_behind : List Script → List ℕ
texts_behind scripts = flat_map (λ script. codes "%%\n" ++ script.text) scripts

few_behind : (scripts : List Script) (lists : List (List Command)) → All (λ script. HoldsLines script.text script.lines) scripts → AllZip HasCommands scripts lists
    → 5 * sum_by (λ commands. length commands) lists ≤ length (texts_behind scripts)
few_behind [] [] held are = omega arith
few_behind [] (l ∷ ls) held are = absurd are
few_behind (s ∷ ss) [] held are = absurd are
few_behind (s ∷ ss) (l ∷ ls) held are =
    let one = few_commands s.text l ((IsScript-holds s.text s.lines l (held 0 s (omega arith))).1 are.0) in
    let more = few_behind ss ls (λ k d within. held (suc k) d (omega (arith, within))) are.1 in
    let sum = sum_by-cons (λ (commands : List Command). length commands) l ls in
    let bytes = length-append (codes "%%\n" ++ s.text) (texts_behind ss) in
    let text = length-append (codes "%%\n") s.text in
    omega (arith, one, more, sum, bytes, text)

pub few_in_bundle : (bundle : List ℕ) (lists : List (List Command)) → AllZip HasCommands (scripts_of bundle) lists → 5 * sum_by (λ commands. length commands) lists ≤ length bundle + 1
few_in_bundle bundle lists are =
    let few = few_behind (scripts_of bundle) lists (bundle_texts bundle) are in
    let bytes = length-append (topology_of bundle) (texts_behind (scripts_of bundle)) in
    elim (bundle_joined bundle) [
      | inl whole ↦ omega (arith, few, bytes, ap length whole)
      | inr more ↦ omega (arith, few, bytes, ap length more.0, length-append bundle (codes "\n"))
    ]
