-- How much a bundle and a sequel may have.
use Rattle.std.specs.Prelude.{ℕ}

-- the most bytes of a bundle
abbrev pub bundle_limit : ℕ
bundle_limit = 4194304

-- the most scripts of a bundle
abbrev pub script_limit : ℕ
script_limit = 8

-- the most bytes of a sequel
abbrev pub sequel_limit : ℕ
sequel_limit = 8388608
