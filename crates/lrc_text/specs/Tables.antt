-- What is printed of a state: which stripes are at risk, and what each node carries.
use Rattle.std.specs.Prelude.{ℕ, ◌/◌, ◌%◌, Bool, true, false, List, [], ◌∷◌, ◌++◌, codes, decimal, map, flat_map, Option, Some, None}
use Rattle.std.specs.Fmt.{digit_glyph}
use Rattle.lrc_code.specs.declared.codes.Code.{Code}
use Rattle.lrc_code.specs.declared.numbers.StripeNo.{StripeNo}
use Rattle.lrc_code.specs.Losses.{margin_of, bits_set, bits_of}
use Rattle.lrc_topology.specs.declared.NodeInfo.{NodeInfo}
use Rattle.lrc_book.specs.declared.Level.{Level}
use Rattle.lrc_book.specs.declared.Level.TheVariants.{Whole, AtRisk, Unavailable, Lost}
use Rattle.lrc_terms.specs.declared.mode.Mode.{Mode}
use Rattle.lrc_terms.specs.declared.mode.Mode.TheVariants.{Active, Draining, Gone}
use Rattle.lrc_rules.specs.States.{State, code_of, load, mode_of, is_online, missing}
use Rattle.lrc_rules.specs.Urgency.{risk}

-- ---- rows

-- the line of a row: its fields, with a comma before each but the first
abbrev pub table_line : List (List ℕ) → List ℕ
table_line [] = codes "\n"
table_line (field ∷ fields) = field ++ flat_map (λ f. codes "," ++ f) fields ++ codes "\n"

-- ---- stripes at risk

-- the word for a level
abbrev pub level_text : Level → List ℕ
level_text Whole = codes "whole"
level_text (AtRisk margin) = codes "risk"
level_text Unavailable = codes "unavailable"
level_text Lost = codes "lost"

-- how many more losses can be recovered; a dash where these can't
abbrev pub margin_field : Option ℕ → List ℕ
margin_field (Some margin) = decimal margin
margin_field None = codes "-"

-- four hexadecimal digits in lower case, of a number below 65,536
abbrev pub mask_field : ℕ → List ℕ
mask_field bits = map (λ place. digit_glyph false (bits / place % 16)) (4096 ∷ 256 ∷ 16 ∷ 1 ∷ [])

-- the row of a stripe of this number, level and code, whose missing fragments are the bits of a number
unfoldable pub risk_line : StripeNo → Level → Code → ℕ → List ℕ
risk_line stripe level code missing =
    table_line (decimal stripe.value ∷ level_text level ∷ margin_field (margin_of code (bits_set missing)) ∷ mask_field missing ∷ [])

-- the row of a stripe at risk
abbrev pub risk_row : List NodeInfo → State → StripeNo × Level → List ℕ
risk_row nodes st risky = risk_line risky.0 risky.1 (code_of st risky.0) (bits_of (code_of st risky.0) (missing nodes st risky.0))

-- a row for each stripe that is not whole, in the order of repair
abbrev pub risk_table : List NodeInfo → State → List ℕ
risk_table nodes st = codes "risk\nstripe,level,margin,missing\n" ++ flat_map (risk_row nodes st) (risk nodes st)

-- ---- loads

-- the word for a mode
abbrev pub mode_text : Mode → List ℕ
mode_text Active = codes "active"
mode_text Draining = codes "draining"
mode_text Gone = codes "gone"

-- the word for a node that is online, and for one that is not
abbrev pub online_text : Bool → List ℕ
online_text true = codes "yes"
online_text false = codes "no"

-- the row of a node with this mode and number of seats on it, online or not
unfoldable pub load_line : NodeInfo → Mode → Bool → ℕ → List ℕ
load_line node mode online seats =
    table_line (decimal node.number.value ∷ mode_text mode ∷ online_text online ∷ decimal seats ∷ decimal node.slots ∷ [])

-- the row of a node
abbrev pub load_row : State → NodeInfo → List ℕ
load_row st node = load_line node (mode_of st node.number) (is_online st node) (load st node.number)

-- a row for each node, in the order of the file
abbrev pub load_table : List NodeInfo → State → List ℕ
load_table nodes st = codes "load\nnode,mode,online,load,slots\n" ++ flat_map (load_row st) nodes

-- ---- both tables

-- what is printed of a state over these nodes
abbrev pub tables_text : List NodeInfo → State → List ℕ
tables_text nodes st = risk_table nodes st ++ load_table nodes st
