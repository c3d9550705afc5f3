-- Fields that need no quotes, and rows of such fields.
use Rattle.std.proofs.Common.{◌≡◌, ℕ, ◌/◌, ◌%◌, ◌<◌, ◌≤◌, ◌^◌, Bool, true, false, ◌&&◌, List, [], ◌∷◌, ◌++◌, flat_map, codes, refl, arith, decimal, Option, Some, None, IfSome, append-nil, append_assoc}
use Rattle.std.specs.List.{AllByRecursion}
use Rattle.std.specs.Char.{is_ascii_digit}
use Rattle.std.specs.Fmt.{digit_glyph}
use Rattle.std.specs.Str.{all_ascii_digits}
use Rattle.std.proofs.lemmas.Bool.{agree_below_at, and_parts, leb-true}
use Rattle.std.proofs.lemmas.Str.Parse.{tells_all_ascii_digits, numerals_by_value}
use Rattle.std.proofs.lemmas.Fmt.{digits_decimal}
use Rattle.csv.specs.Quoting.{needs_byte}
use Rattle.csv.specs.Writing.{default_writer, needs_quotes, fields_text, is_blank, row_text}
use Rattle.lrc_code.specs.declared.codes.Code.{Code}
use Rattle.lrc_code.specs.declared.numbers.StripeNo.{StripeNo}
use Rattle.lrc_code.specs.Losses.{margin_of, bits_set}
use Rattle.lrc_topology.specs.declared.NodeInfo.{NodeInfo}
use Rattle.lrc_book.specs.declared.Level.{Level}
use Rattle.lrc_book.specs.declared.Level.TheVariants.{Whole, AtRisk, Unavailable, Lost}
use Rattle.lrc_terms.specs.declared.mode.Mode.{Mode}
use Rattle.lrc_terms.specs.declared.mode.Mode.TheVariants.{Active, Draining, Gone}
use Rattle.lrc_text.specs.Tables.{table_line, level_text, margin_field, mask_field, risk_line, mode_text, online_text, load_line}

-- the field is written as it is
abbrev pub IsPlain : List ℕ → Type 0
IsPlain field = needs_quotes default_writer field ≡ false

-- ---- digits

digit_plain : (b : ℕ) → b < 128 → is_ascii_digit b ≡ true → needs_byte default_writer b ≡ false
digit_plain b small digit =
    let table = agree_below_at (λ b. is_ascii_digit b && needs_byte default_writer b) (λ b. false) 128 b refl small in
    rw digit at table

small_digit : (b : ℕ) → is_ascii_digit b ≡ true → b < 128
small_digit b h = let (low, high) = and_parts _ _ h in let bound = leb-true b 57 high in omega arith

digits_plain : (field : List ℕ) → all_ascii_digits field ≡ true → IsPlain field
digits_plain [] h = refl
digits_plain (b ∷ bs) h =
    let (here, more) = and_parts _ _ h in
    rw (digit_plain b (small_digit b here), digits_plain bs more) refl

pub decimal_plain : (n : ℕ) → n < 2 ^ 64 → IsPlain (decimal n)
decimal_plain n h = digits_plain (decimal n) (digits_decimal (numerals_by_value _ tells_all_ascii_digits) n h)

glyph_plain : (d : ℕ) → d < 16 → needs_byte default_writer (digit_glyph false d) ≡ false
glyph_plain d small = agree_below_at (λ d. needs_byte default_writer (digit_glyph false d)) (λ d. false) 16 d refl small

glyph_at : (n : ℕ) → needs_byte default_writer (digit_glyph false (n % 16)) ≡ false
glyph_at n = glyph_plain (n % 16) (omega arith)

pub mask_plain : (bits : ℕ) → IsPlain (mask_field bits)
mask_plain bits = rw (glyph_at (bits / 4096), glyph_at (bits / 256), glyph_at (bits / 16), glyph_at (bits / 1)) refl

-- ---- rows

fields_plain : (fields : List (List ℕ)) → AllByRecursion IsPlain fields → fields_text default_writer fields ≡ flat_map (λ f. codes "," ++ f) fields
unfolding fields_text
fields_plain [] all = refl
fields_plain (f ∷ fs) all = rw (all.0, fields_plain fs all.1) refl

-- a row of two fields at least
pub row_plain : (first next : List ℕ) (fields : List (List ℕ)) → AllByRecursion IsPlain (first ∷ next ∷ fields)
    → row_text default_writer (first ∷ next ∷ fields) ≡ table_line (first ∷ next ∷ fields)
unfolding is_blank
row_plain first next fields all = rw (all.0, fields_plain (next ∷ fields) all.1) (simp (append_assoc, append-nil))

-- ---- the rows of the tables

level_plain : (l : Level) → IsPlain (level_text l)
level_plain Whole = refl
level_plain (AtRisk margin) = refl
level_plain Unavailable = refl
level_plain Lost = refl

margin_plain : (o : Option ℕ) → IfSome o (λ m. m ≤ 3) → IsPlain (margin_field o)
margin_plain None h = refl
margin_plain (Some m) h = decimal_plain m (omega (arith, h))

mode_plain : (m : Mode) → IsPlain (mode_text m)
mode_plain Active = refl
mode_plain Draining = refl
mode_plain Gone = refl

online_plain : (b : Bool) → IsPlain (online_text b)
online_plain true = refl
online_plain false = refl

-- the fields of a row, each what it is to be
pub risk_written : (stripe : StripeNo) (level : Level) (code : Code) (missing : ℕ) (m : Option ℕ) (number word margin mask : List ℕ) → IfSome m (λ x. x ≤ 3)
    → m ≡ margin_of code (bits_set missing)
    → number ≡ decimal stripe.value → word ≡ level_text level → margin ≡ margin_field m → mask ≡ mask_field missing
    → row_text default_writer (number ∷ word ∷ margin ∷ mask ∷ []) ≡ risk_line stripe level code missing
unfolding risk_line
risk_written stripe level code missing m number word margin mask few is a b c d =
    let range = stripe.in_range in
    rw (a, b, c, d, ← is)
    (row_plain (decimal stripe.value) (level_text level) (margin_field m ∷ mask_field missing ∷ [])
    (decimal_plain stripe.value (omega (arith, range)), (level_plain level, (margin_plain m few, (mask_plain missing, tt)))))

pub load_written : (node : NodeInfo) (mode : Mode) (online : Bool) (seats : ℕ) (number word state load slots : List ℕ)
    → node.number.value < 65536 → seats < 4294967296 → node.slots < 65536
    → number ≡ decimal node.number.value → word ≡ mode_text mode → state ≡ online_text online → load ≡ decimal seats → slots ≡ decimal node.slots
    → row_text default_writer (number ∷ word ∷ state ∷ load ∷ slots ∷ []) ≡ load_line node mode online seats
unfolding load_line
load_written node mode online seats number word state load slots x y z a b c d e =
    rw (a, b, c, d, e)
    (row_plain (decimal node.number.value) (mode_text mode) (online_text online ∷ decimal seats ∷ decimal node.slots ∷ [])
    (decimal_plain node.number.value (omega (arith, x)), (mode_plain mode, (online_plain online, (decimal_plain seats (omega (arith, y)), (decimal_plain node.slots (omega (arith, z)), tt))))))
