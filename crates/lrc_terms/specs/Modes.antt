-- The mode of a node.
use Rattle.std.specs.Prelude.{Bool, true, false}
use Rattle.lrc_terms.specs.declared.mode.Mode.{Mode}
use Rattle.lrc_terms.specs.declared.mode.Mode.TheVariants.{Active, Draining, Gone}

-- the mode is Active
abbrev pub is_active : Mode → Bool
is_active Active = true
is_active Draining = false
is_active Gone = false

-- the mode is Draining
abbrev pub is_draining : Mode → Bool
is_draining Active = false
is_draining Draining = true
is_draining Gone = false

-- the mode is Gone
abbrev pub is_gone : Mode → Bool
is_gone Active = false
is_gone Draining = false
is_gone Gone = true
