-- What publishing a book gives, and what a viewer of it is.
use Rattle.std.specs.Prelude.{◌≡◌, ◌⊎◌, ◌+◌, ◌≤◌, ◌<◌, ℕ, List, ◌++◌, length, map, Option, Some, None, option_map, is_some, true}
use Rattle.lrc_code.specs.declared.numbers.SessionNo.{SessionNo}
use Rattle.lrc_images.specs.declared.image.Image.{Image}
use Rattle.lrc_rules.specs.declared.command.Command.{Command}
use Rattle.lrc_rules.specs.declared.entry.Entry.{Entry}
use Rattle.lrc_rules.specs.Histories.{IsLegalFrom}
use Rattle.lrc_book.specs.Books.{BookView, world_of, IsImageOfBook}
use Rattle.lrc_openings.specs.Begun.{IsBegunOver}
use Rattle.lrc_feed.specs.declared.feed.FedCall.{FedCall}
use Rattle.lrc_feed.specs.Feeds.{FeedAt, passed}
use Rattle.lrc_records.specs.declared.command.LrcCommand.{LrcCommand}
use Rattle.lrc_records.specs.declared.reply.LrcReply.{LrcReply}
use Rattle.lrc_records.specs.Commands.{IsCommand}
use Rattle.lrc_embed.specs.Calls.{entry_count, IsStepOf}

-- there are a book and an end of a feed, and this holds of both
abbrev pub Both : Option BookView → Option FeedAt → (BookView → FeedAt → Type 0) → Type 0
Both (Some b) (Some e) P = P b e
Both (Some b) None P = ⊥
Both None end P = ⊥

-- one of the two is there
abbrev pub IsAnyOpen : Option BookView → Option FeedAt → Type 0
IsAnyOpen book end = (is_some book ≡ true) ⊎ (is_some end ≡ true)

-- what a failed call leaves of an end as it was; how many calls it knows of is not part of it
abbrev pub standing : Option FeedAt → Option FeedAt
standing end = option_map (λ (e : FeedAt). record e { known = 0 }) end

-- the end has all entries of the store so far before it
abbrev pub IsAt : BookView → FeedAt → Type 0
IsAt b e = entry_count b ≡ e.place

-- the history has as many entries as it can have, or the feed has as many calls
abbrev pub IsEitherFull : BookView → FeedAt → Type 0
IsEitherFull b e = (length b.history ≡ b.limit) ⊎ (1048576 ≤ length e.calls)

-- A book over the same nodes that begins in the image of the other, after all of its entries.
abbrev pub IsViewOf : BookView → BookView → Type 0
IsViewOf b view = (i : Image) × IsImageOfBook b i × IsBegunOver b.nodes i view

-- the call that an entry has
abbrev pub call_of : Entry → FedCall
call_of e = record { session = e.session; command = e.command }

-- The history grew by the entries of these calls, which are legal.
abbrev pub HasMade : List FedCall → BookView → BookView → Type 0
HasMade calls b after =
    (es : List Entry) × IsLegalFrom b.nodes (world_of b) es × (map call_of es ≡ calls) × (after.history ≡ b.history ++ es)
    × (after.nodes ≡ b.nodes) × (after.limit ≡ b.limit) × (after.base ≡ b.base) × (after.before ≡ b.before)

-- The end moved past some calls or none, and the book made them.
abbrev pub HasFollowed : BookView → FeedAt → BookView → FeedAt → Type 0
HasFollowed b e after f =
    (calls : List FedCall) × HasMade calls b after
    × (f ≡ record e { calls = e.calls ++ calls; known = f.known; place = e.place + length calls })

-- The call that C wrote was made, and the end moved past it.
abbrev pub IsPublishedCall : ℕ → LrcCommand → LrcReply → BookView → FeedAt → BookView → FeedAt → Type 0
IsPublishedCall number c reply b e after f =
    (session : SessionNo) × (command : Command) × (session.value ≡ number) × IsCommand c command
    × IsStepOf b session command reply after
    × (f ≡ record (passed e (record { session = session; command = command })) { known = e.known + 1 })

-- another end of the feed has written since
abbrev pub IsPassedBy : FeedAt → FeedAt → Type 0
IsPassedBy e f = length e.calls < f.known
