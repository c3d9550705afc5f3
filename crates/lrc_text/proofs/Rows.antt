-- Scripts on small stores, and what the definitions print of them.
use Rattle.std.proofs.Common.{ℕ, ◌%◌, List, [], ◌∷◌, ◌++◌, map, filter, fold, Option, lit<, codes}
use Rattle.std.proofs.lemmas.Nat.{mod_below}
use Rattle.lrc_code.specs.declared.numbers.StripeNo.{StripeNo}
use Rattle.lrc_code.specs.declared.numbers.SessionNo.{SessionNo}
use Rattle.lrc_code.specs.declared.numbers.NodeNo.{NodeNo}
use Rattle.lrc_code.specs.declared.numbers.Fragment.{Fragment}
use Rattle.lrc_code.specs.declared.codes.Code.TheVariants.{Wide}
use Rattle.lrc_code.specs.Codes.{fragments, all_fragments}
use Rattle.lrc_code.specs.Losses.{margin_of}
use Rattle.lrc_topology.specs.declared.NodeInfo.{NodeInfo}
use Rattle.lrc_rules.specs.declared.command.Command.{Command}
use Rattle.lrc_rules.specs.declared.command.Command.TheVariants as command
use Rattle.lrc_rules.specs.States.{missing}
use Rattle.lrc_rules.specs.Histories.{World, first_world, outcome_in, next_world}
use Rattle.lrc_text.proofs.WholeTexts.{replies_text}

-- ---- commands

abbrev pub stripe : ℕ → StripeNo
stripe n = record { value = n % 4096; in_range = mod_below n 4096 (lit< tt) }

abbrev pub fragment : ℕ → Fragment
fragment n = record { value = n % 16; in_range = mod_below n 16 (lit< tt) }

abbrev pub session : SessionNo
session = record { value = 1; in_range = (lit< tt, lit< tt) }

abbrev pub second : SessionNo
second = record { value = 2; in_range = (lit< tt, lit< tt) }

abbrev pub node_number : ℕ → NodeNo
node_number n = record { value = n }

abbrev pub place : ℕ → Command
place s = command.Place (stripe s)

abbrev pub place6 : ℕ → Command
place6 s = command.Place6 (stripe s)

abbrev pub remove : ℕ → Command
remove s = command.Drop (stripe s)

abbrev pub lease : ℕ → ℕ → Command
lease s f = command.Lease (stripe s) (fragment f)

abbrev pub next : Command
next = command.Next

abbrev pub done : ℕ → ℕ → ℕ → Command
done s f e = command.Done (stripe s) (fragment f) e

abbrev pub abandon : ℕ → ℕ → ℕ → Command
abandon s f e = command.Abandon (stripe s) (fragment f) e

abbrev pub revoke : ℕ → ℕ → Command
revoke s f = command.Revoke (stripe s) (fragment f)

abbrev pub fail : ℕ → Command
fail n = command.Fail (node_number n)

abbrev pub down : ℕ → Command
down n = command.Down (node_number n)

abbrev pub up : ℕ → Command
up n = command.Up (node_number n)

abbrev pub drain : ℕ → Command
drain n = command.Drain (node_number n)

abbrev pub undrain : ℕ → Command
undrain n = command.Undrain (node_number n)

abbrev pub retire : ℕ → Command
retire n = command.Retire (node_number n)

abbrev pub join : ℕ → Command
join n = command.Join (node_number n)

abbrev pub upgrade : ℕ → Command
upgrade u = command.Upgrade (record { value = u })

abbrev pub upgraded : ℕ → Command
upgraded u = command.Upgraded (record { value = u })

abbrev pub tick : Command
tick = command.Tick

-- ---- stores

-- a node in a fault domain of its own
abbrev pub node : ℕ → ℕ → ℕ → NodeInfo
node number upgrade slots = record { number = record { value = number }; fault = record { value = number }; upgrade = record { value = upgrade }; slots = slots }

abbrev pub twenty : List ℕ
twenty = 0 ∷ 1 ∷ 2 ∷ 3 ∷ 4 ∷ 5 ∷ 6 ∷ 7 ∷ 8 ∷ 9 ∷ 10 ∷ 11 ∷ 12 ∷ 13 ∷ 14 ∷ 15 ∷ 16 ∷ 17 ∷ 18 ∷ 19 ∷ []

-- ten upgrade domains of two nodes each
abbrev pub ten_domains : List NodeInfo
ten_domains = map (λ i. node i (i % 10) 4) twenty

-- the same with one slot on each node
abbrev pub single_slots : List NodeInfo
single_slots = map (λ i. node i (i % 10) 1) twenty

-- six upgrade domains
abbrev pub six_domains : List NodeInfo
six_domains = map (λ i. node i (i % 6) 4) twenty

-- sixteen nodes, on which a lawful placement exists that the choice rule does not find
abbrev pub sixteen_nodes : List NodeInfo
sixteen_nodes =
    node 0 0 4 ∷ node 1 1 4 ∷ node 2 2 4 ∷ node 3 3 4 ∷ node 4 4 4 ∷ node 5 5 4 ∷ node 6 6 4 ∷ node 7 7 4
    ∷ node 8 0 4 ∷ node 9 1 4 ∷ node 10 2 4 ∷ node 11 3 4 ∷ node 12 4 4 ∷ node 13 5 4 ∷ node 14 0 4 ∷ node 15 1 4 ∷ []

-- ---- playing

-- the world after one more call
abbrev pub called : List NodeInfo → World → SessionNo × Command → World
called nodes w (s, c) = next_world nodes w (record { session = s; command = c; reply = (outcome_in nodes w s c).0 })

-- the world after these calls
abbrev pub played_by : List NodeInfo → List (SessionNo × Command) → World
played_by nodes calls = fold (called nodes) first_world calls

-- the world after the commands of a script
abbrev pub played : List NodeInfo → List Command → World
played nodes script = played_by nodes (map (λ c. (session, c)) script)

-- what is printed of the replies of the script
abbrev pub printed : List NodeInfo → List Command → List ℕ
printed nodes script = replies_text 1 (played nodes script).past

-- what is printed of the replies of two scripts, whose calls came in this order
abbrev pub printed_by_two : List NodeInfo → List (SessionNo × Command) → List ℕ
printed_by_two nodes calls = replies_text 2 (played_by nodes calls).past

-- what is printed of a script that begins by placing stripe 1, up to the line of that
abbrev pub one_placed : List ℕ
one_placed = codes "script 1\n1 placed 0:0 1:0 2:0 3:0 4:0 5:0 6:0 7:0 8:0 9:0 10:0 11:0 16:0 12:0 13:0 14:0\n"

-- the same of one that places two stripes
abbrev pub two_placed : List ℕ
two_placed = one_placed ++ codes "2 placed 15:0 17:0 18:0 19:0 0:1 1:1 2:1 3:1 4:1 5:1 6:1 7:1 12:1 8:1 9:1 10:1\n"

-- ---- what is missing

-- the missing fragments of stripe 1 after a script
abbrev pub missing_after : List NodeInfo → List Command → List ℕ
missing_after nodes script = filter (missing nodes (played nodes script).state (stripe 1)) (map (λ f. f.value) all_fragments)

-- how many further losses the stripe withstands
abbrev pub margin_after : List NodeInfo → List Command → Option ℕ
margin_after nodes script = margin_of Wide (missing nodes (played nodes script).state (stripe 1))
