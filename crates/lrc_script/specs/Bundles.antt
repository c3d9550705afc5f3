-- Bundles: a topology, and the scripts after it.
use Rattle.std.specs.Prelude.{◌≡◌, ◌≢◌, All, ℕ, ◌+◌, ◌⊎◌, Bool, List, [], ◌∷◌, ◌++◌, length, codes, flat_map}
use Rattle.std.specs.List.{slice_split}
use Rattle.lrc_script.specs.declared.bundle.ScriptText.{ScriptText}
use Rattle.lrc_script.specs.Scripts.{lines_of, same_text}

-- the line that begins a script
abbrev pub is_parting : List ℕ → Bool
is_parting line = same_text line (codes "%%")

-- the lines before the first parting line, and those of each script
abbrev pub parts_of : List ℕ → List (List (List ℕ))
parts_of bundle = slice_split is_parting (lines_of bundle)

-- the text of lines that each end with an LF
abbrev pub ended_lines : List (List ℕ) → List ℕ
ended_lines lines = flat_map (λ line. line ++ codes "\n") lines

-- the text of lines with an LF between each two, and none after the last
abbrev pub joined_lines : List (List ℕ) → List ℕ
joined_lines [] = []
joined_lines (line ∷ lines) = line ++ flat_map (λ next. codes "\n" ++ next) lines

-- the text of a part, which ends before the next parting line, or at the end of the bundle
abbrev pub text_before : List (List (List ℕ)) → List (List ℕ) → List ℕ
text_before [] lines = joined_lines lines
text_before (next ∷ parts) lines = ended_lines lines

-- a script: its lines, their text with each LF, and the number of the first of them in the bundle
pub record Script : Type 0 where
  pub first_line : ℕ
  pub lines : List (List ℕ)
  pub text : List ℕ

-- the scripts of these parts, if the first parting line has this number
abbrev pub scripts_from : ℕ → List (List (List ℕ)) → List Script
scripts_from parting [] = []
scripts_from parting (lines ∷ parts) = record { first_line = parting + 1; lines = lines; text = text_before parts lines } ∷ scripts_from (parting + 1 + length lines) parts

abbrev pub scripts_in : List (List (List ℕ)) → List Script
scripts_in [] = []
scripts_in (topology ∷ parts) = scripts_from (length topology + 1) parts

-- the scripts of a bundle, whose lines are counted from 1
unfoldable pub scripts_of : List ℕ → List Script
scripts_of bundle = scripts_in (parts_of bundle)

-- the bytes before the first parting line, or the whole bundle if there is none
abbrev pub topology_in : List ℕ → List (List (List ℕ)) → List ℕ
topology_in bundle (topology ∷ script ∷ scripts) = ended_lines topology
topology_in bundle _ = bundle

unfoldable pub topology_of : List ℕ → List ℕ
topology_of bundle = topology_in bundle (parts_of bundle)

-- ---- texts of scripts

-- these are the lines of the text, without or with the empty one after its last LF
abbrev pub HoldsLines : List ℕ → List (List ℕ) → Type 0
HoldsLines text lines = (lines_of text ≡ lines) ⊎ (lines_of text ≡ lines ++ [] ∷ [])

-- the text of this script, with its last LF if it has one, and the number of its first line
pub record IsTextOf (script : Script) (given : ScriptText) : Type 0 where
  pub first_line : given.first_line ≡ script.first_line
  pub text : given.text.now ≡ script.text

-- the texts of these scripts, in order
abbrev pub AreTextsOf : List Script → List ScriptText → Type 0
AreTextsOf [] [] = Unit {0}
AreTextsOf (script ∷ scripts) (text ∷ texts) = IsTextOf script text × AreTextsOf scripts texts
AreTextsOf _ _ = ⊥

-- no line of these parts
abbrev pub NoneParts : List (List ℕ) → Type 0
NoneParts lines = All (λ line. line ≢ codes "%%") lines

-- the lines of a bundle: those of its topology, and then each script after a parting line
pub record IsJoined (lines topology : List (List ℕ)) (scripts : List Script) : Type 0 where
  pub joined : lines ≡ topology ++ flat_map (λ script. codes "%%" ∷ script.lines) scripts
  pub topology_whole : NoneParts topology
  pub scripts_whole : All (λ script. NoneParts script.lines) scripts

-- the script is in these lines after a parting line, and its first line has this number
pub record StandsIn (lines : List (List ℕ)) (script : Script) : Type 0 where
  pub before : List (List ℕ)
  pub after : List (List ℕ)
  pub place : lines ≡ before ++ codes "%%" ∷ (script.lines ++ after)
  pub numbered : script.first_line ≡ length before + 2

-- the bytes of a topology, and then those of each script, after a parting line
abbrev pub put_together : List ℕ → List Script → List ℕ
put_together topology scripts = topology ++ flat_map (λ script. codes "%%\n" ++ script.text) scripts

-- the last of these scripts has no byte
pub record EndsEmpty (scripts : List Script) : Type 0 where
  pub before : List Script
  pub last : Script
  pub place : scripts ≡ before ++ last ∷ []
  pub empty : last.text ≡ []
