-- Internal: no public clause reaches these definitions.
-- A block of 64 stripes, and what each of them misses.
use Rattle.std.specs.Prelude.{◌≡◌, ℕ, ◌/◌}
use Rattle.lrc_code.specs.declared.codes.Code.{Code}
use Rattle.lrc_code.specs.declared.codes.Class.{Class}
use Rattle.lrc_code.specs.declared.numbers.StripeNo.{StripeNo}
use Rattle.lrc_code.specs.Losses.{FragmentSet, joined, losses_in}
use Rattle.lrc_ranks.specs.declared.block.Block.{Block}
use Rattle.lrc_ranks.specs.Missing.{code_by, fragments_at}

-- the stripe is one of the block
abbrev pub IsIn : Block → StripeNo → Type 0
IsIn b s = s.value / 64 ≡ b.index

-- the code of a stripe
abbrev pub code_in : Block → StripeNo → Code
code_in b s = code_by b.planes.now.narrow s

-- the fragments that a stripe misses
abbrev pub misses_in : Block → StripeNo → FragmentSet
misses_in b s = joined (fragments_at b.planes.now.missing s) (fragments_at b.more.now s)

-- the number of fragments of a class that a stripe misses
abbrev pub count_in : Block → Class → StripeNo → ℕ
count_in b c s = losses_in (code_in b s) c (misses_in b s)
