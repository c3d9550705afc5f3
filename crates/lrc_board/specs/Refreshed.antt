-- Internal: no public clause reaches these definitions.
-- What a batch may have changed of what a board shows, and the update of a board from a book.
use Rattle.std.specs.Prelude.{◌≡◌, ℕ, Bool, true, false, ◌||◌, IsFalse, if◌then◌else◌, List, [], ◌∷◌, ◌++◌, length, map, fold, get_or, slice_set, Option, None}
use Rattle.std.specs.List.{list_any, range_with_len}
use Rattle.std.specs.Option.{option_map_or}
use Rattle.logbook.specs.Pages.{Book}
use Rattle.lrc_code.specs.declared.codes.Code.TheVariants.{Wide}
use Rattle.lrc_code.specs.declared.numbers.StripeNo.{StripeNo}
use Rattle.lrc_code.specs.declared.numbers.NodeNo.{NodeNo}
use Rattle.lrc_code.specs.Numbers.{same_stripe, same_node}
use Rattle.lrc_topology.specs.declared.NodeInfo.{NodeInfo}
use Rattle.lrc_topology.specs.Nodes.{nodes_in}
use Rattle.lrc_terms.specs.Levels.{has_some}
use Rattle.lrc_terms.specs.Stripes.{stripe_at}
use Rattle.lrc_homes.specs.Homes.{sits_on}
use Rattle.lrc_rules.specs.declared.command.Command.{Command}
use Rattle.lrc_rules.specs.declared.command.Command.TheVariants.{Place, Place6, Drop, Done, Fail, Down, Up, Retire, Join, Upgrade, Upgraded}
use Rattle.lrc_rules.specs.declared.reply.Reply.{Reply}
use Rattle.lrc_rules.specs.declared.reply.Reply.TheVariants.{Refused, Idle, Changed}
use Rattle.lrc_rules.specs.States.{State, online_at}
use Rattle.lrc_rules.specs.Histories.{state_after}
use Rattle.lrc_rules.specs.Boards.{Loads, loads_of}
use Rattle.lrc_book.specs.Books.{BookView, state_of}
use Rattle.lrc_board.specs.declared.line.Line.{Line}
use Rattle.lrc_board.specs.declared.stripe_homes.StripeHomes.{StripeHomes}
use Rattle.lrc_board.specs.declared.changes.ChangedStripes.{ChangedStripes}
use Rattle.lrc_board.specs.declared.changes.ChangedStripes.TheVariants.{Stripe, AllOn}
use Rattle.lrc_board.specs.declared.changes.ChangedNodes.{ChangedNodes}
use Rattle.lrc_board.specs.declared.changes.ChangedNodes.TheVariants.{Node, AllIn}
use Rattle.lrc_board.specs.Views.{Rows, BoardView, IsBoard, published, homes_row}

-- ---- what may have changed

-- a fragment has its home on the node
unfoldable pub is_seated_on : NodeNo → StripeHomes → Bool
is_seated_on n row = has_some Wide (λ f. sits_on n (get_or row.homes f None))

-- the same of a stripe that may not be there
abbrev pub is_row_on : NodeNo → Option StripeHomes → Bool
is_row_on n row = option_map_or (is_seated_on n) row false

-- the row of the stripe may have changed, if it was this one
abbrev pub is_stripe_changed : ChangedStripes → StripeNo → Option StripeHomes → Bool
is_stripe_changed (Stripe r) s row = same_stripe r s
is_stripe_changed (AllOn n) s row = is_row_on n row

-- one of these may have changed it
abbrev pub is_row_changed : List ChangedStripes → StripeNo → Option StripeHomes → Bool
is_row_changed changes s row = list_any (λ c. is_stripe_changed c s row) changes

-- the node may have come online or gone offline
abbrev pub is_node_changed : List NodeInfo → ChangedNodes → NodeNo → Bool
is_node_changed nodes (Node m) n = same_node n m
is_node_changed nodes (AllIn u) n = list_any (λ m. same_node n m.number) (nodes_in nodes u)

-- the same by one of these
abbrev pub is_flag_changed : List NodeInfo → List ChangedNodes → NodeNo → Bool
is_flag_changed nodes changes n = list_any (λ c. is_node_changed nodes c n) changes

-- The stripes whose code or homes may have changed, the nodes that may have come online or gone offline, and whether the load of
-- any node may have changed.
pub record ChangesView : Type 0 where
  pub stripes : List ChangedStripes
  pub nodes : List ChangedNodes
  pub loads : Bool

-- All other rows, and whether all other nodes are online, are the same in both states; so are the loads, if none may have changed.
pub record OthersStay (nodes : List NodeInfo) (changes : ChangesView) (was now : State) : Type 0 where
  pub rows : (s : StripeNo) → IsFalse (is_row_changed changes.stripes s (homes_row was s)) → homes_row now s ≡ homes_row was s
  pub online : (n : NodeNo) → IsFalse (is_flag_changed nodes changes.nodes n) → online_at nodes now n ≡ online_at nodes was n
  pub loads : IsFalse changes.loads → loads_of nodes now ≡ loads_of nodes was

abbrev pub no_changes : ChangesView
no_changes = record { stripes = []; nodes = []; loads = false }

-- what one of two batches may have changed
abbrev pub both_changes : ChangesView → ChangesView → ChangesView
both_changes a b = record { stripes = a.stripes ++ b.stripes; nodes = a.nodes ++ b.nodes; loads = a.loads || b.loads }

-- the stripes whose code or homes a command can change
abbrev pub stripes_changed_by : Command → List ChangedStripes
stripes_changed_by (Place s) = Stripe s ∷ []
stripes_changed_by (Place6 s) = Stripe s ∷ []
stripes_changed_by (Drop s) = Stripe s ∷ []
stripes_changed_by (Done s f e) = Stripe s ∷ []
stripes_changed_by (Fail n) = AllOn n ∷ []
stripes_changed_by _ = []

-- the nodes that a command can bring online or take offline
abbrev pub nodes_changed_by : Command → List ChangedNodes
nodes_changed_by (Fail n) = Node n ∷ []
nodes_changed_by (Down n) = Node n ∷ []
nodes_changed_by (Up n) = Node n ∷ []
nodes_changed_by (Retire n) = Node n ∷ []
nodes_changed_by (Join n) = Node n ∷ []
nodes_changed_by (Upgrade u) = AllIn u ∷ []
nodes_changed_by (Upgraded u) = AllIn u ∷ []
nodes_changed_by _ = []

-- the command says that a node failed
abbrev pub is_fail : Command → Bool
is_fail (Fail n) = true
is_fail _ = false

-- a command with this reply can have changed the load of a node
abbrev pub are_loads_changed_by : Command → Reply → Bool
are_loads_changed_by c (Refused r) = false
are_loads_changed_by c Idle = false
are_loads_changed_by c Changed = is_fail c
are_loads_changed_by c _ = true

-- what a command with this reply can have changed
abbrev pub changes_by : Command → Reply → ChangesView
changes_by c (Refused r) = no_changes
changes_by c r = record { stripes = stripes_changed_by c; nodes = nodes_changed_by c; loads = are_loads_changed_by c r }

-- ---- updates

-- the row of a stripe; that of the state if it may have changed
abbrev pub row_anew : State → ChangedStripes → StripeNo → Option StripeHomes → Option StripeHomes
row_anew st changed s row = if is_stripe_changed changed s row then homes_row st s else row

-- the rows, where those with a home on the node are those of the state
unfoldable pub rows_anew_on : State → NodeNo → Rows → Rows
rows_anew_on st n rows = map (λ k. row_anew st (AllOn n) (stripe_at k) (get_or rows k None)) (range_with_len 0 4096)

-- the rows, where those that this may have changed are those of the state
abbrev pub rows_anew : State → ChangedStripes → Rows → Rows
rows_anew st (Stripe s) rows = slice_set rows s.value (homes_row st s)
rows_anew st (AllOn n) rows = rows_anew_on st n rows

-- the same of a list of changes, one after another
abbrev pub rows_refreshed : State → List ChangedStripes → Rows → Rows
rows_refreshed st changes rows = fold (λ rs c. rows_anew st c rs) rows changes

-- whether a node is online; as in the state if it may have changed
abbrev pub flag_anew : List NodeInfo → State → ChangedNodes → NodeNo → Bool → Bool
flag_anew nodes st changed n flag = if is_node_changed nodes changed n then online_at nodes st n else flag

-- the flags, where those of the numbers of these nodes are as the test says
abbrev pub put_flags : (NodeNo → Bool) → List Bool → List NodeInfo → List Bool
put_flags test flags nodes = fold (λ fs m. slice_set fs m.number.value (test m.number)) flags nodes

-- the nodes that are online, where those that this may have changed are as in the state
abbrev pub online_anew : List NodeInfo → State → ChangedNodes → List Bool → List Bool
online_anew nodes st (Node n) flags = slice_set flags n.value (online_at nodes st n)
online_anew nodes st (AllIn u) flags = put_flags (online_at nodes st) flags (nodes_in nodes u)

-- the same of a list of changes, one after another
abbrev pub online_refreshed : List NodeInfo → State → List ChangedNodes → List Bool → List Bool
online_refreshed nodes st changes flags = fold (λ fs c. online_anew nodes st c fs) flags changes

-- the loads; those of the state if they may have changed
abbrev pub loads_refreshed : List NodeInfo → State → Bool → Loads → Loads
loads_refreshed nodes st changed loads = if changed then loads_of nodes st else loads

-- the board has a row for each stripe number, a flag for each node number, and a load for each node
abbrev pub IsWhole : List NodeInfo → BoardView → Type 0
IsWhole nodes x = ((length x.rows ≡ 4096) × (length x.online ≡ 65536)) × (map (λ row. row.0) x.loads ≡ map (λ m. m.number) nodes)

-- the board after it is updated from a book
abbrev pub renewed : BoardView → BookView → ChangesView → ℕ → List Line → BoardView
renewed x b changes count lines = record {
  rows = rows_refreshed (state_of b) changes.stripes x.rows;
  online = online_refreshed b.nodes (state_of b) changes.nodes x.online;
  loads = loads_refreshed b.nodes (state_of b) changes.loads x.loads;
  count = count;
  book = x.book;
  lines = lines;
}

-- The two boards of one log: the published one, and the spare one, which lacks the last batch.
pub record AreBoards (book : Book) (start : ℕ) (nodes : List NodeInfo) (last : ChangesView) (shown spare : BoardView) : Type 0 where
  pub shown_is : IsBoard book start nodes shown
  pub spare_is : IsBoard book start nodes spare
  pub between : OthersStay nodes last (state_after nodes (published start spare)) (state_after nodes (published start shown))
