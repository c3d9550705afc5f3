-- Masks of losses, and their lines.
use Rattle.std.specs.Prelude.{ℕ, Bool, ◌&&◌, if◌then◌else◌, nat_eq, List, ◌++◌, length, codes, decimal, Option, Some, None}
use Rattle.std.specs.List.{list_all}
use Rattle.std.specs.Char.{is_ascii_hexdigit}
use Rattle.std.specs.Str.Parse.{digits_value}
use Rattle.lrc_code.specs.declared.codes.Code.{Code}
use Rattle.lrc_code.specs.declared.codes.Class.TheVariants.{A, B, G}
use Rattle.lrc_code.specs.Losses.{losses_in, margin_of, bits_set, fits}

-- ---- masks

-- a word of exactly four hexadecimal digits, in either case
abbrev pub is_mask : List ℕ → Bool
is_mask word = nat_eq (length word) 4 && list_all is_ascii_hexdigit word

-- the number that such a word is, if only bits of fragments of the code are set; bit f is set where fragment f is lost
abbrev pub mask_of : Code → List ℕ → Option ℕ
mask_of code word = if is_mask word && fits code (digits_value 16 word) then Some (digits_value 16 word) else None

-- ---- lines

-- the losses of each class
abbrev pub counts_text : ℕ → ℕ → ℕ → List ℕ
counts_text a b g = codes "A " ++ decimal a ++ codes " B " ++ decimal b ++ codes " G " ++ decimal g

-- the margin of recoverable losses; other losses have none
abbrev pub margin_text : Option ℕ → List ℕ
margin_text (Some margin) = codes " recoverable margin " ++ decimal margin ++ codes "\n"
margin_text None = codes " not recoverable\n"

-- the line for the losses of a stripe of the code that are the bits of this number
unfoldable pub losses_line : Code → ℕ → List ℕ
losses_line code bits =
    counts_text (losses_in code A (bits_set bits)) (losses_in code B (bits_set bits)) (losses_in code G (bits_set bits)) ++ margin_text (margin_of code (bits_set bits))

-- the line for a mask, or for a word that is none
abbrev pub mask_text : Code → Option ℕ → List ℕ
mask_text code (Some bits) = losses_line code bits
mask_text code None = codes "mask refused\n"

-- the line for this word of losses of a stripe of the code
abbrev pub recovery_text : Code → List ℕ → List ℕ
recovery_text code word = mask_text code (mask_of code word)
