-- What is told of recipes and of generator matrices.
use Rattle.std.specs.Prelude.{ℕ, ◌/◌, ◌%◌, false, List, [], ◌∷◌, ◌++◌, codes, decimal, map, filter, flat_map}
use Rattle.std.specs.List.{join_with_byte}
use Rattle.std.specs.Fmt.{digit_glyph}
use Rattle.lrc_code.specs.declared.codes.Code.{Code}
use Rattle.lrc_code.specs.declared.numbers.Fragment.{Fragment}
use Rattle.lrc_code.specs.Codes.{fragments, all_fragments}
use Rattle.lrc_field.specs.Recipes.{read_by}
use Rattle.lrc_field.specs.Stripes.{generator, data_of, numbers_of}
use Rattle.lrc_coding.specs.declared.refusal.RecipeRefusal.{RecipeRefusal}
use Rattle.lrc_coding.specs.declared.refusal.RecipeRefusal.TheVariants.{NoMask, NoFragment, NotMissing, Undetermined}
pub use Rattle.lrc_coding.specs.Answers.{coefficient_in}

-- ---- recipes

-- the fragments that are read, in rising order
abbrev pub fragments_read : (ℕ → ℕ) → List Fragment
fragments_read coefficient = filter (λ g. read_by coefficient g.value) all_fragments

-- the row of a fragment that is read
abbrev pub source_row : (ℕ → ℕ) → Fragment → List ℕ
source_row coefficient g = decimal g.value ++ codes "," ++ decimal (coefficient g.value) ++ codes "\n"

-- the table of a recipe
abbrev pub recipe_text : (ℕ → ℕ) → List ℕ
recipe_text coefficient = codes "source,coefficient\n" ++ flat_map (source_row coefficient) (fragments_read coefficient)

-- ---- refusals

-- why no recipe is told, in words
abbrev pub recipe_refusal_words : RecipeRefusal → List ℕ
recipe_refusal_words NoMask = codes "this is no set of fragments of the code"
recipe_refusal_words NoFragment = codes "the code has no such fragment"
recipe_refusal_words (NotMissing _) = codes "the fragment is not missing, so it is its own source"
recipe_refusal_words (Undetermined _) = codes "what is not missing does not determine the fragment"

-- which word of the command line this is about
abbrev pub refusal_place : RecipeRefusal → List ℕ
refusal_place NoMask = codes "mask\n"
refusal_place NoFragment = codes "fragment\n"
refusal_place (NotMissing f) = codes "fragment " ++ decimal f.value ++ codes "\n"
refusal_place (Undetermined f) = codes "fragment " ++ decimal f.value ++ codes "\n"

-- the line of standard error
abbrev pub recipe_refusal_text : RecipeRefusal → List ℕ
recipe_refusal_text refusal = codes "lrcman: " ++ recipe_refusal_words refusal ++ codes ": " ++ refusal_place refusal

-- ---- matrices

-- a byte as two hexadecimal digits
abbrev pub byte_field : ℕ → List ℕ
byte_field n = digit_glyph false (n / 16) ∷ digit_glyph false (n % 16) ∷ []

-- a line of bytes, with a space between
abbrev pub bytes_line : List ℕ → List ℕ
bytes_line bytes = join_with_byte 32 (map byte_field bytes) ++ codes "\n"

-- the line of a fragment: the coefficient of each data fragment in it
unfoldable pub matrix_line : Code → ℕ → List ℕ
matrix_line code f = bytes_line (map (generator code f) (data_of code))

-- a line for each fragment, in rising order
abbrev pub matrix_text : Code → List ℕ
matrix_text code = flat_map (matrix_line code) (numbers_of code)
