-- What would become of the stripes if nodes were stopped or lost.
use Rattle.std.specs.Prelude.{◌≡◌, ◌⊎◌, ℕ, IsTrue, IsFalse, Bool, true, false, not, ◌&&◌, ◌||◌, List, [], ◌∷◌, length, map, filter, flat_map, All, Contains, Option, option_map, option_to_list, is_none}
use Rattle.std.specs.List.{list_any}
use Rattle.std.specs.Option.{option_map_or}
use Rattle.lrc_code.specs.declared.numbers.StripeNo.{StripeNo}
use Rattle.lrc_code.specs.declared.numbers.NodeNo.{NodeNo}
use Rattle.lrc_code.specs.declared.numbers.Fragment.{Fragment}
use Rattle.lrc_code.specs.declared.numbers.SessionNo.{SessionNo}
use Rattle.lrc_code.specs.Codes.{has_fragment, fragments, all_fragments}
use Rattle.lrc_code.specs.Losses.{FragmentSet, bits_of}
use Rattle.lrc_topology.specs.declared.NodeInfo.{NodeInfo}
use Rattle.lrc_topology.specs.Nodes.{AreNodes}
use Rattle.lrc_topology.specs.declared.seat.Seat.{Seat}
use Rattle.lrc_topology.specs.declared.seat.Held.{Held}
use Rattle.lrc_terms.specs.declared.lease.Lease.{Lease}
use Rattle.lrc_terms.specs.declared.level.Level.{Level}
use Rattle.lrc_terms.specs.declared.level.Level.TheVariants.{Unavailable, Lost}
use Rattle.lrc_terms.specs.Levels.{homes_of, is_whole}
use Rattle.lrc_rules.specs.declared.command.Command.{Command}
use Rattle.lrc_rules.specs.declared.command.Command.TheVariants.{Up, Upgraded, Done}
use Rattle.lrc_rules.specs.declared.entry.Entry.{Entry}
use Rattle.lrc_rules.specs.declared.node_command.NodeCommand.{NodeCommand}
use Rattle.lrc_rules.specs.declared.node_command.NodeCommand.TheVariants as node
use Rattle.lrc_rules.specs.States.{State, code_of, seats_of, lease_of, has_number, missing, level}
use Rattle.lrc_rules.specs.Steps.{stands_on, changed_on}
use Rattle.lrc_rules.specs.Histories.{World, IsLegal, outcome_in, next_world, state_after}
use Rattle.lrc_book.specs.Looks.{stripes_of}
use Rattle.lrc_forecast.specs.declared.outlook.Outage.{Outage}
use Rattle.lrc_forecast.specs.declared.outlook.Outage.TheVariants.{Stop, Lose}
use Rattle.lrc_forecast.specs.declared.outlook.Outlook.{Outlook}

-- the command that tells the store of the outage of a node
abbrev pub report_of : Outage → NodeCommand
report_of Stop = node.Down
report_of Lose = node.Fail

-- the state with the outage of these nodes told, one after the other
abbrev pub state_with : Outage → State → List NodeNo → State
state_with outage st [] = st
state_with outage st (n ∷ ns) = state_with outage (changed_on (report_of outage) st n) ns

-- the seat is on one of the nodes
abbrev pub is_on_any : List NodeNo → Option Seat → Bool
is_on_any ns seat = option_map_or (λ t. has_number ns t.node) seat false

-- the fragments of a stripe with a home on one of the nodes
abbrev pub hit_in : State → List NodeNo → StripeNo → FragmentSet
hit_in st ns s f = has_fragment (code_of st s) f && is_on_any ns (homes_of st.homes s f)

-- a stripe has the same level, the same missing fragments and the same leases in both states
pub record HasSameLosses (nodes : List NodeInfo) (st after : State) (s : StripeNo) : Type 0 where
  pub level : level nodes after s ≡ level nodes st s
  pub missing : (f : ℕ) → missing nodes after s f ≡ missing nodes st s f
  pub leases : (f : Fragment) → lease_of after s f ≡ lease_of st s f

-- ---- what becomes of a stripe from one state to the other

-- the fragments that are missing in the second state and not in the first
abbrev pub newly_missing : List NodeInfo → State → State → StripeNo → FragmentSet
newly_missing nodes st after s f = missing nodes after s f && not (missing nodes st s f)

-- the live leases of a stripe, in rising order of fragment
unfoldable pub live_leases : State → StripeNo → List Lease
live_leases st s = flat_map (λ f. option_to_list (lease_of st s f)) all_fragments

-- those of the first state whose fragments have no live lease in the second
abbrev pub ended_leases : State → State → StripeNo → List Lease
ended_leases st after s = filter (λ l. is_none (lease_of after l.stripe l.fragment)) (live_leases st s)

-- ---- seats on the nodes

-- the target of the live lease of a fragment
abbrev pub lease_target : State → StripeNo → Fragment → Option Seat
lease_target st s f = option_map (λ l. l.target) (lease_of st s f)

-- a seat of the stripe is on one of the nodes: the home of a fragment, or the target of its live lease
unfoldable pub has_seat_on_any : State → List NodeNo → StripeNo → Bool
has_seat_on_any st ns s = list_any (λ f. is_on_any ns (homes_of st.homes s f.value) || is_on_any ns (lease_target st s f)) all_fragments

-- ---- forecasts

-- what becomes of the stripe if this happens to these nodes
abbrev pub outlook : List NodeInfo → State → Outage → List NodeNo → StripeNo → Outlook
outlook nodes st outage ns s =
    let after = state_with outage st ns in record {
      stripe = s;
      code = code_of st s;
      before = level nodes st s;
      after = level nodes after s;
      missing = record { bits = bits_of (code_of st s) (missing nodes after s) };
      newly_missing = record { bits = bits_of (code_of st s) (newly_missing nodes st after s) };
      leases_ended = length (ended_leases st after s);
      has_seat_on_any = has_seat_on_any st ns s;
    }

-- the stripe is not whole in the state
abbrev pub is_risky : List NodeInfo → State → StripeNo → Bool
is_risky nodes st s = not (is_whole (level nodes st s))

-- what becomes of these stripes; those that are whole then are left out
abbrev pub outlooks : List NodeInfo → State → Outage → List NodeNo → List StripeNo → List Outlook
outlooks nodes st outage ns stripes = map (outlook nodes st outage ns) (filter (is_risky nodes (state_with outage st ns)) stripes)

-- what becomes of the stripes of the store, in rising order
abbrev pub forecast : List NodeInfo → State → Outage → List NodeNo → List Outlook
forecast nodes st outage ns = outlooks nodes st outage ns (stripes_of st)

-- ---- harm

-- more fragments are missing than can be rebuilt from the others
abbrev pub is_unrecoverable : Level → Bool
is_unrecoverable Unavailable = true
is_unrecoverable Lost = true
is_unrecoverable _ = false

-- The outage harms the stripe: it is not recoverable then, and it is recoverable now, or a seat of it is on one of the nodes. All
-- that is there may be needed later, as the node might have come up, or its upgrade might have ended.
abbrev pub is_harmed : Outlook → Bool
is_harmed o = is_unrecoverable o.after && (not (is_unrecoverable o.before) || o.has_seat_on_any)

-- no stripe is harmed
abbrev pub harms_none : List Outlook → Bool
harms_none rows = not (list_any is_harmed rows)

-- ---- in words

-- the stripe is unavailable or lost in the state
abbrev pub IsUnrecoverable : List NodeInfo → State → StripeNo → Type 0
IsUnrecoverable nodes st s = (level nodes st s ≡ Unavailable) ⊎ (level nodes st s ≡ Lost)

-- no seat of the stripe, a home or the target of a live lease, is on one of the nodes
abbrev pub HasNoSeatOn : State → List NodeNo → StripeNo → Type 0
HasNoSeatOn st ns s = (h : Held) → Contains (seats_of st) h → h.stripe ≡ s → IsFalse (has_number ns h.seat.node)

-- ---- what may come back

-- the command tells of something that comes back: a node is up, an upgrade has ended, a repair is done
abbrev pub is_return : Command → Bool
is_return (Up n) = true
is_return (Upgraded u) = true
is_return (Done s f e) = true
is_return _ = false

-- a call: a session and its command
abbrev pub Call : Type 0
Call = SessionNo × Command

-- all calls tell of something that comes back
abbrev pub AreReturns : List Call → Type 0
AreReturns calls = All (λ c. IsTrue (is_return c.1)) calls

-- the command says that one of the nodes is up
abbrev pub is_up_of : List NodeNo → Command → Bool
is_up_of ns (Up n) = has_number ns n
is_up_of ns _ = false

-- the calls but those that say so: what comes back while these nodes stay away
abbrev pub without_up : List NodeNo → List Call → List Call
without_up ns calls = filter (λ c. not (is_up_of ns c.1)) calls

-- the entry of a call: its reply is that of the rules
abbrev pub entry_of : List NodeInfo → World → Call → Entry
entry_of nodes w c = record { session = c.0; command = c.1; reply = (outcome_in nodes w c.0 c.1).0 }

-- the world after these calls
abbrev pub world_with : List NodeInfo → World → List Call → World
world_with nodes w [] = w
world_with nodes w (c ∷ cs) = world_with nodes (next_world nodes w (entry_of nodes w c)) cs

-- the state after these calls, made in this state after these entries
abbrev pub state_after_calls : List NodeInfo → List Entry → State → List Call → State
state_after_calls nodes past st calls = (world_with nodes (record { past = past; state = st }) calls).state

-- ---- why harm is harm

-- After some legal history a stripe is not recoverable, and the outage of a node, of which something holds, harms it. One return
-- shows why: after it the stripe is recoverable without the outage, and is not with it, while the node stays away.
abbrev pub IsShown : Outage → (List NodeInfo → State → StripeNo → NodeNo → Type 0) → Type 0
IsShown outage Holds =
    (nodes : List NodeInfo) × (history : List Entry) × (s : StripeNo) × (n : NodeNo) × (call : Call)
    × AreNodes nodes × IsLegal nodes history × IsTrue (is_return call.1)
    × Holds nodes (state_after nodes history) s n
    × IsUnrecoverable nodes (state_after nodes history) s
    × IsFalse (harms_none (forecast nodes (state_after nodes history) outage (n ∷ [])))
    × IsUnrecoverable nodes (state_after_calls nodes history (state_with outage (state_after nodes history) (n ∷ [])) (without_up (n ∷ []) (call ∷ []))) s
    × ¬ (IsUnrecoverable nodes (state_after_calls nodes history (state_after nodes history) (call ∷ [])) s)

-- the node has a home of the stripe, which has no live lease
abbrev pub HasOnlyHome : State → StripeNo → NodeNo → Type 0
HasOnlyHome st s n = (live_leases st s ≡ []) × (f : ℕ) × IsTrue (hit_in st (n ∷ []) s f)

-- the node has the target of a live lease of the stripe, and no home
abbrev pub HasOnlyTarget : State → StripeNo → NodeNo → Type 0
HasOnlyTarget st s n = IsFalse (list_any (stands_on n) st.homes) × (f : Fragment) × IsTrue (is_on_any (n ∷ []) (lease_target st s f))
