-- Which fragments are there to be read, and which of them a lease reads.
use Rattle.std.specs.Prelude.{nat_eq, not}
use Rattle.std.specs.List.{list_any}
use Rattle.lrc_code.specs.declared.numbers.Fragment.{Fragment}
use Rattle.lrc_code.specs.Losses.{FragmentSet}
use Rattle.lrc_rules.specs.declared.kind.Kind.{Kind}
use Rattle.lrc_rules.specs.declared.kind.Kind.TheVariants.{Local, Local3, Global, Move}

-- the fragments that a lease of this kind reads, where some are missing: those of its local group that it names, all that
-- are not missing, or the fragment itself at its own home
abbrev pub sources_of : Kind → FragmentSet → Fragment → FragmentSet
sources_of (Local sources) missing f g = list_any (λ h. nat_eq h.value g) sources
sources_of (Local3 sources) missing f g = list_any (λ h. nat_eq h.value g) sources
sources_of Global missing f g = not (missing g)
sources_of Move missing f g = nat_eq f.value g
