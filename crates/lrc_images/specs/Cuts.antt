-- Images of the first rows of another. The rows of all lists are counted from 1: those of the nodes first, then those of
-- the stripes, the grants and the leases.
use Rattle.std.specs.Prelude.{◌≡◌, ℕ, ◌+◌, ◌-◌, take, length}
use Rattle.lrc_images.specs.declared.image.Image.{Image}

-- the number of rows of all lists
abbrev pub row_count : Image → ℕ
row_count i = length i.nodes.items + length i.stripes.items + length i.grants.items + length i.leases.items

-- The second image has the first `count` rows of the first, or all if there are no more, and says the same beside them.
pub record IsCut (i : Image) (count : ℕ) (j : Image) : Type 0 where
  pub before : j.before ≡ i.before
  pub clock : j.clock ≡ i.clock
  pub upgrading : j.upgrading ≡ i.upgrading
  pub nodes : j.nodes.items ≡ take count i.nodes.items
  pub stripes : j.stripes.items ≡ take (count - length i.nodes.items) i.stripes.items
  pub grants : j.grants.items ≡ take (count - length i.nodes.items - length i.stripes.items) i.grants.items
  pub leases : j.leases.items ≡ take (count - length i.nodes.items - length i.stripes.items - length i.grants.items) i.leases.items
