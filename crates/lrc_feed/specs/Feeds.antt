-- Where an end of a feed stands.
use Rattle.std.specs.Prelude.{ℕ, ◌+◌, List, [], ◌∷◌, ◌++◌}
use Rattle.logbook.specs.Pages.{Book}
use Rattle.lrc_feed.specs.declared.feed.FedCall.{FedCall}

-- Which feed it is of, the calls before it, how many calls of the feed it knows of, and the place: how many entries of the
-- store it has before it.
pub record FeedAt : Type 0 where
  pub feed : Book
  pub calls : List FedCall
  pub known : ℕ
  pub place : ℕ

-- the same, past this call
abbrev pub passed : FeedAt → FedCall → FeedAt
passed at call = record at { calls = at.calls ++ call ∷ []; place = at.place + 1 }
