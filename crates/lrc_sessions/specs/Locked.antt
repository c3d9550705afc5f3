-- The invariant of the locked state, and calls under the lock.
use Rattle.std.specs.Prelude.{◌≡◌, ℕ, ◌≤◌, List, length}
use Rattle.lrc_code.specs.declared.numbers.SessionNo.{SessionNo}
use Rattle.lrc_topology.specs.declared.NodeInfo.{NodeInfo}
use Rattle.lrc_rules.specs.declared.command.Command.{Command}
use Rattle.lrc_rules.specs.declared.entry.Entry.{Entry}
use Rattle.lrc_rules.specs.Histories.{first_world, state_after, IsLegal}
use Rattle.lrc_rules.specs.Goodness.{IsGood}
use Rattle.lrc_book.specs.Books.{BookView}
use Rattle.lrc_board.specs.Batches.{AreMadeBehind}

-- Whenever the lock is free: the book began empty, with no entry before it, and has these nodes and this limit, its
-- history is legal, and the state after it is good. It has as many entries as the ledger counts calls, at most the
-- limit, which is at most 1,000,000.
abbrev pub IsLocked : List NodeInfo → ℕ → ℕ → BookView → Type 0
IsLocked nodes limit total b =
    (b.nodes ≡ nodes) × (b.limit ≡ limit) × IsLegal nodes b.history × IsGood nodes b.history (state_after nodes b.history)
    × (length b.history ≡ total) × (length b.history ≤ limit) × (limit ≤ 1000000) × (b.base ≡ first_world) × (b.before ≡ 0)

-- Calls of the session with this number: the history has their entries more, with the session and the commands in
-- order.
abbrev pub AreMadeBy : List Entry → ℕ → List Command → List Entry → Type 0
AreMadeBy before number commands after =
    (session : SessionNo) × (session.value ≡ number) × AreMadeBehind before session commands after
