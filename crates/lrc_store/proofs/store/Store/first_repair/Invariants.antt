use Rattle.std.proofs.Common.{◌≡◌, false}
use Rattle.std.specs.List.{count_by, range_with_len}
use Rattle.lrc_code.specs.declared.numbers.Fragment.{Fragment}
use Rattle.lrc_code.specs.Losses.{bits_set}
use Rattle.lrc_rules.specs.States.{State}
use Rattle.lrc_rules.specs.Urgency.{is_grantable}
use Rattle.lrc_store.specs.Stores.{IsOf}
use Rattle.lrc_store.proofs.store.Store.first_repair.Given as goal

-- no fragment is grantable but for those that are left
abbrev pub invariant-loop-fragment : goal.invariant-loop-fragment
invariant-loop-fragment l = (st : State) → IsOf st l.self → (g : Fragment) → bits_set l.left.bits g.value ≡ false → is_grantable l.self.topology st (l.stripe, g) ≡ false

-- the number of fragments that are left
abbrev pub decreases-loop-fragment : goal.decreases-loop-fragment
decreases-loop-fragment l = count_by (bits_set l.left.bits) (range_with_len 0 16)
