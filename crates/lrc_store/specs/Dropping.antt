-- Internal: no public clause reaches these definitions.
-- A stripe whose leases end, and whose homes are cleared, fragment by fragment.
use Rattle.std.specs.Prelude.{List, fold}
use Rattle.lrc_code.specs.declared.numbers.StripeNo.{StripeNo}
use Rattle.lrc_code.specs.declared.numbers.Fragment.{Fragment}
use Rattle.lrc_rules.specs.States.{State}
use Rattle.lrc_rules.specs.Leases.{without_lease, without_home}

-- the leases of these fragments of a stripe ended, one after the other
abbrev pub unleased : State → StripeNo → List Fragment → State
unleased st s fs = fold (λ now f. without_lease now s f) st fs

-- the homes of these fragments of a stripe cleared, one after the other
abbrev pub homeless : State → StripeNo → List Fragment → State
homeless st s fs = fold (λ now f. without_home now s f) st fs
