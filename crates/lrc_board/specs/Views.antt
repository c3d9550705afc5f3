-- The model of a board, and when a board is the board of its entries.
use Rattle.std.specs.Prelude.{◌≡◌, ℕ, Bool, if◌then◌else◌, List, [], length, map, Option, Some, None}
use Rattle.std.specs.List.{range_with_len}
use Rattle.logbook.specs.Pages.{Book}
use Rattle.lrc_code.specs.declared.numbers.StripeNo.{StripeNo}
use Rattle.lrc_code.specs.declared.numbers.NodeNo.{NodeNo}
use Rattle.lrc_code.specs.Codes.{all_fragments}
use Rattle.lrc_topology.specs.declared.NodeInfo.{NodeInfo}
use Rattle.lrc_terms.specs.Levels.{homes_of}
use Rattle.lrc_terms.specs.Stripes.{stripe_at}
use Rattle.lrc_rules.specs.declared.entry.Entry.{Entry}
use Rattle.lrc_rules.specs.States.{State, has_stripe, code_of, opening, online_at}
use Rattle.lrc_rules.specs.Histories.{IsLegal, state_after}
use Rattle.lrc_rules.specs.Boards.{Loads, loads_after}
use Rattle.lrc_board.specs.declared.line.Line.{Line}
use Rattle.lrc_board.specs.declared.stripe_homes.StripeHomes.{StripeHomes}
use Rattle.lrc_board.specs.Lines.{written}

-- ---- what levels follow from

-- the code and the homes for each stripe number, in ascending order; none if the store has no such stripe
abbrev pub Rows : Type 0
Rows = List (Option StripeHomes)

-- (internal) the code of a stripe, and its homes by the sixteen fragment numbers, in a state
unfoldable pub homes_row : State → StripeNo → Option StripeHomes
homes_row st s = if has_stripe st s then Some (record { code = code_of st s; homes = map (λ f. homes_of st.homes s f.value) all_fragments }) else None

-- (internal) the rows of the first `count` stripe numbers
abbrev pub rows_by : ℕ → (StripeNo → Option StripeHomes) → Rows
rows_by count row = map (λ k. row (stripe_at k)) (range_with_len 0 count)

-- (internal) the row of each of the 4,096 stripe numbers, in a state
unfoldable pub rows_of : State → Rows
rows_of st = rows_by 4096 (homes_row st)

-- (internal) a test of the first `count` node numbers
abbrev pub flags_by : ℕ → (NodeNo → Bool) → List Bool
flags_by count test = map (λ k. test (record { value = k })) (range_with_len 0 count)

-- (internal) for each of the 65,536 node numbers, the store has the node and it is online in a state
unfoldable pub online_of : List NodeInfo → State → List Bool
online_of nodes st = flags_by 65536 (online_at nodes st)

-- ---- boards

-- the rows and the nodes that are online, a load for each node, the number of entries that they follow from, and the log
-- up to these entries
pub record BoardView : Type 0 where
  pub rows : Rows
  pub online : List Bool
  pub loads : Loads
  pub count : ℕ
  pub book : Book
  pub lines : List Line

-- (internal) the entries that a board follows from, if the log begins with this permit
abbrev pub published : ℕ → BoardView → List Entry
published start x = written start x.lines

-- (internal) these rows and nodes, and these loads, are those after the history
abbrev pub AreAfter : List NodeInfo → List Entry → Rows → List Bool → Loads → Type 0
AreAfter nodes history rows online loads =
    ((rows ≡ rows_of (state_after nodes history)) × (online ≡ online_of nodes (state_after nodes history))) × (loads ≡ loads_after nodes history)

-- (internal) The board is the board of its entries, which are legal and are in this log.
pub record IsBoard (book : Book) (start : ℕ) (nodes : List NodeInfo) (x : BoardView) : Type 0 where
  pub named : x.book ≡ book
  pub count_is : x.count ≡ length (published start x)
  pub shows : AreAfter nodes (published start x) x.rows x.online x.loads
  pub legal : IsLegal nodes (published start x)

-- (internal) the board of a log without entries
abbrev pub empty_board : List NodeInfo → Book → BoardView
empty_board nodes book = record { rows = rows_of opening; online = online_of nodes opening; loads = loads_after nodes []; count = 0; book = book; lines = [] }
