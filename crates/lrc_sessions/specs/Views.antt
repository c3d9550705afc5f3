-- The models of parts, managers and sessions.
use Rattle.std.specs.Prelude.{ℕ, List, [], map}
use Rattle.logbook.specs.Pages.{Book}
use Rattle.lrc_topology.specs.declared.NodeInfo.{NodeInfo}
use Rattle.lrc_rules.specs.declared.entry.Entry.{Entry}
use Rattle.lrc_rules.specs.Sessions.{sessions}

-- The parts of a manager: the nodes, the limit of the history, the number of sessions, the name and the number of shares of the ledger,
-- the log, and the permit for its first line.
pub record PartsView : Type 0 where
  pub topology : List NodeInfo
  pub limit : ℕ
  pub count : ℕ
  pub name : ℕ
  pub shares : ℕ
  pub log : Book
  pub start : ℕ

-- a manager, with its number of sessions
pub record ManagerView : Type 0 where
  pub count : ℕ

-- a session, with its number, its number of calls, and the entries that it has seen
pub record SessionView : Type 0 where
  pub number : ℕ
  pub made : ℕ
  pub seen : List Entry

-- the sessions 1 to count, in order, before any has made a call or seen an entry
abbrev pub fresh : ℕ → List SessionView
fresh count = map (λ k. record { number = k; made = 0; seen = [] }) (sessions count)
