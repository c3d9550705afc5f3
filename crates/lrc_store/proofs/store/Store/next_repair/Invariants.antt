use Rattle.std.proofs.Common.{◌≡◌, find, IsTrue}
use Rattle.std.specs.List.{All}
use Rattle.lrc_stripes.specs.Tables.{stored_in}
use Rattle.lrc_rules.specs.States.{State}
use Rattle.lrc_rules.specs.Urgency.{is_grantable, next_of}
use Rattle.lrc_store.specs.Stores.{IsOf}
use Rattle.lrc_store.specs.Repairing.{IsRepairCursor}
use Rattle.lrc_rules.proofs.UrgencyLemmas.{fragments_in}
use Rattle.lrc_store.proofs.store.Store.next_repair.Given as goal

-- the stripes that are left are there, and the first grantable fragment is one of theirs
abbrev pub invariant-loop-stripe : goal.invariant-loop-stripe
invariant-loop-stripe l =
    All (λ s. IsTrue ((stored_in l.self.stripes).stripes s)) l.stripe-iterator
    × ((st : State) → IsOf st l.self → IsRepairCursor l.self.topology st l.fn.cursor → next_of l.self.topology st ≡ find (is_grantable l.self.topology st) (fragments_in st l.stripe-iterator))
