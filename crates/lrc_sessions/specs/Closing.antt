-- The end of a manager.
use Rattle.std.specs.Prelude.{◌≡◌, ℕ, List, length, All}
use mathlib.Core.List.{IsPrefix}
use Rattle.lrc_topology.specs.declared.NodeInfo.{NodeInfo}
use Rattle.lrc_rules.specs.Histories.{first_world, IsLegal}
use Rattle.lrc_sessions.specs.Views.{SessionView}
use Rattle.lrc_sessions.specs.Counts.{AreAll, counts_of, counts_in, total_made}
use Rattle.lrc_sessions.specs.declared.closing.Closing.{Closing}

-- The sessions are all sessions of the manager. The book began empty, with no entry before it, and has these nodes and this
-- limit. Its history is legal, and has as many entries as the sessions made calls. The counts are those of the sessions by rising
-- number. Each session made as many calls as the history has entries of it, and what it has seen is a prefix of the history.
abbrev pub Closes : List NodeInfo → ℕ → ℕ → List SessionView → Closing → Type 0
Closes nodes limit count ss c =
    AreAll count ss × (c.book.nodes ≡ nodes) × (c.book.limit ≡ limit) × IsLegal nodes c.book.history × (c.made ≡ counts_of count ss)
    × (length c.book.history ≡ total_made c.made) × (c.made ≡ counts_in count c.book.history)
    × All (λ s. IsPrefix s.seen c.book.history) ss × (c.book.base ≡ first_world) × (c.book.before ≡ 0)
