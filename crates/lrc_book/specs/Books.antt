-- What contracts see of a book.
use Rattle.std.specs.Prelude.{◌≡◌, ℕ, ◌+◌, ◌<◌, ◌⊎◌, ◌++◌, Bool, List, [], length, Option, Some, None}
use Rattle.std.specs.Global.{Box}
use Rattle.lrc_code.specs.declared.fault.Fault.{Fault}
use Rattle.lrc_code.specs.declared.numbers.StripeNo.{StripeNo}
use Rattle.lrc_code.specs.declared.numbers.Fragment.{Fragment}
use Rattle.lrc_code.specs.declared.fault.Fault.TheVariants.{OutOfMemory, HistoryFull}
use Rattle.lrc_topology.specs.declared.NodeInfo.{NodeInfo}
use Rattle.lrc_topology.specs.Nodes.{AreNodes}
use Rattle.lrc_rules.specs.declared.entry.Entry.{Entry}
use Rattle.lrc_rules.specs.States.{State}
use Rattle.lrc_rules.specs.Leases.{grants}
use Rattle.lrc_rules.specs.Histories.{World, first_world, outcome_in, next_world, world_from, state_from, IsLegalFrom}
use Rattle.lrc_images.specs.declared.image.Image.{Image}
use Rattle.lrc_images.specs.Images.{image_world}
use Rattle.lrc_images.specs.Causes.{most_grants, most_ticks, most_entries}
use Rattle.lrc_images.specs.Bases.{IsBase}
use Rattle.lrc_images.specs.Rows.{IsImageOf}

-- a book over these nodes that began in the world `base`, with at most `limit` entries since; `before`: the number of
-- entries of the store before `base`; `ready`: it has room for one more command of any kind
pub record BookView : Type 0 where
  pub nodes : List NodeInfo
  pub base : World
  pub before : ℕ
  pub limit : ℕ
  pub history : List Entry
  pub ready : Bool

-- ---- the world in which a book began

-- (internal) the world of the image, or the first world where there is no image
abbrev pub base_world : Option (Box Image) → World
base_world None = first_world
base_world (Some image) = image_world image.value

-- (internal) the number of entries before it
abbrev pub entries_before : Option (Box Image) → ℕ
entries_before None = 0
entries_before (Some image) = image.value.before

-- ---- the history

-- the world after the book's history
abbrev pub world_of : BookView → World
world_of b = world_from b.nodes b.base b.history

-- the state after the book's history
abbrev pub state_of : BookView → State
state_of b = state_from b.nodes b.base b.history

-- the history is full exactly where a call says so
abbrev pub FaultFits : BookView → Fault → Type 0
FaultFits b OutOfMemory = length b.history < b.limit
FaultFits b HistoryFull = length b.history ≡ b.limit

-- the entry is the next one of the book: its reply is what the step answers to its command after the history
abbrev pub IsStep : BookView → Entry → Type 0
IsStep b e = (outcome_in b.nodes (world_of b) e.session e.command).0 ≡ e.reply

-- the state after the entry, as the book's next one
abbrev pub state_after_entry : BookView → Entry → State
state_after_entry b e = (next_world b.nodes (world_of b) e).state

-- no book can begin in the state: a count of grants, the clock or the number of entries is above the most with which one
-- can
abbrev pub IsSpent : BookView → Type 0
IsSpent b =
    ((s : StripeNo) × (f : Fragment) × (most_grants < grants (b.base.past ++ b.history) s f))
    ⊎ (most_ticks < (state_of b).clock)
    ⊎ (most_entries < b.before + length b.history)

-- ---- books and images

-- What the clauses of `Book::history` say of each book: its nodes make a store, it began in a base, and its history is
-- legal from there.
pub record IsBook (b : BookView) : Type 0 where
  pub nodes : AreNodes b.nodes
  pub based : IsBase b.nodes b.base
  pub legal : IsLegalFrom b.nodes b.base b.history

-- the image is the book's, as `Book::image` returns it
abbrev pub IsImageOfBook : BookView → Image → Type 0
IsImageOfBook b i = IsImageOf b.nodes (b.base.past ++ b.history) (state_of b) (b.before + length b.history) i

-- The book has just begun in the image over these nodes, as `Book::begin` returns it.
pub record HasBegun (nodes : List NodeInfo) (i : Image) (b : BookView) : Type 0 where
  pub nodes_are : b.nodes ≡ nodes
  pub base_is : b.base ≡ image_world i
  pub before_is : b.before ≡ i.before
  pub empty : b.history ≡ []
