-- Stores in which a stripe is unavailable, and in which a return shows what an outage of one node does to it. Each has a narrow
-- stripe on the first ten of eleven nodes, four fragments of which are missing: the third loss of its class or the second global
-- parity is one too many.
use Rattle.std.specs.List.{Contains}
use Rattle.std.proofs.lemmas.Bool.{false_from_ne_true}
use Rattle.std.proofs.Common.{◌≡◌, ◌⊎◌, ◌<◌, ℕ, ◌&&◌, ◌||◌, Bool, true, false, not, sym, ◌∙◌, subst, List, [], ◌∷◌, Some, drop, refl, inl, inr, lit<}
use Rattle.lrc_code.specs.declared.codes.Code.TheVariants.{Narrow}
use Rattle.lrc_code.specs.declared.numbers.Fragment.{Fragment}
use Rattle.lrc_code.specs.declared.numbers.NodeNo.{NodeNo}
use Rattle.lrc_code.specs.declared.numbers.UpgradeNo.{UpgradeNo}
use Rattle.lrc_code.specs.Codes.{fragments}
use Rattle.lrc_topology.specs.declared.NodeInfo.{NodeInfo}
use Rattle.lrc_code.specs.declared.numbers.StripeNo.{StripeNo}
use Rattle.lrc_terms.specs.declared.lease.Lease.{Lease}
use Rattle.lrc_terms.specs.declared.level.Level.{Level}
use Rattle.lrc_terms.specs.declared.level.Level.TheVariants.{AtRisk, Unavailable, Lost}
use Rattle.lrc_terms.specs.Levels.{level_by}
use Rattle.lrc_rules.specs.declared.command.Command.{Command}
use Rattle.lrc_rules.specs.declared.command.Command.TheVariants.{Place6, Down, Fail, Up, Upgrade, Upgraded, Lease as LeaseOf, Done}
use Rattle.lrc_rules.specs.declared.kind.Kind.TheVariants.{Local3}
use Rattle.lrc_rules.specs.declared.reply.Reply.TheVariants.{Placed6, Changed, Granted}
use Rattle.lrc_rules.specs.declared.entry.Entry.{Entry}
use Rattle.lrc_rules.specs.States.{State, opening, is_down, online_at, level}
use Rattle.lrc_rules.specs.Placement.{chosen, placed}
use Rattle.lrc_rules.specs.Repairs.{kind}
use Rattle.lrc_rules.specs.Leases.{lease_outcome, done_outcome}
use Rattle.lrc_rules.specs.Steps.{place_outcome, node_outcome, would_lose, upgrade_outcome, upgraded_outcome}
use Rattle.lrc_rules.specs.Changes.{held_at}
use Rattle.lrc_rules.specs.Histories.{IsLegal, state_after}
use Rattle.lrc_rules.proofs.MemberLemmas.{Contains-here}
use Rattle.lrc_forecast.proofs.ExampleLemmas.{node, eleven_nodes, stripe, session, seats, entry, are-nodes}
use Rattle.lrc_forecast.proofs.SafeLemmas.{safe-harmless}
use Rattle.lrc_forecast.specs.declared.outlook.Outage.{Outage}
use Rattle.lrc_forecast.specs.declared.outlook.Outage.TheVariants.{Stop, Lose}
use Rattle.lrc_forecast.specs.Forecasts.{state_with, hit_in, live_leases, has_seat_on_any, outlook, forecast, is_unrecoverable, is_harmed, harms_none, IsUnrecoverable, is_return, Call, without_up, state_after_calls, IsShown, HasOnlyHome, HasOnlyTarget}

-- ---- what has to be computed

-- The history leads to the state, in which the stripe is unavailable. So it is with the outage, of a node with a seat of it. After
-- the call it is at risk without the outage, and still unavailable with it.
pub record Shows (history : List Entry) (st : State) (n : NodeNo) (call : Call) (outage : Outage) : Type 0 where
  pub legal : IsLegal eleven_nodes history
  pub comes_to : state_after eleven_nodes history ≡ st
  pub listed : Contains st.stripes stripe
  pub back : is_return call.1 ≡ true
  pub before : level eleven_nodes st stripe ≡ Unavailable
  pub then : level eleven_nodes (state_with outage st (n ∷ [])) stripe ≡ Unavailable
  pub seat : has_seat_on_any st (n ∷ []) stripe ≡ true
  pub with_it : level eleven_nodes (state_after_calls eleven_nodes history (state_with outage st (n ∷ [])) (without_up (n ∷ []) (call ∷ []))) stripe ≡ Unavailable
  pub without : level eleven_nodes (state_after_calls eleven_nodes history st (call ∷ [])) stripe ≡ AtRisk 0

module _ (history : List Entry) (st : State) (n : NodeNo) (call : Call) (outage : Outage) (shows : Shows history st n call outage) where
  harmed-is : is_harmed (outlook eleven_nodes st outage (n ∷ []) stripe) ≡ true
  harmed-is = by (level eleven_nodes (state_with outage st (n ∷ [])) stripe) (level eleven_nodes st stripe) (has_seat_on_any st (n ∷ []) stripe) shows.then shows.before shows.seat where
    by : (after before : Level) (seat : Bool) → after ≡ Unavailable → before ≡ Unavailable → seat ≡ true → (is_unrecoverable after && (not (is_unrecoverable before) || seat)) ≡ true
    by after before seat a b l = rw (a, b, l) refl

  unsafe-is : harms_none (forecast eleven_nodes st outage (n ∷ [])) ≡ false
  unsafe-is = false_from_ne_true (harms_none (forecast eleven_nodes st outage (n ∷ []))) (λ safe.
      let none = (safe-harmless eleven_nodes st outage (n ∷ [])).0 safe stripe shows.listed in
      let both : true ≡ false = sym harmed-is ∙ none in cc)

  risky : (l : Level) → l ≡ AtRisk 0 → ¬ ((l ≡ Unavailable) ⊎ (l ≡ Lost))
  risky l at (inl is) = let both : AtRisk 0 ≡ Unavailable = sym at ∙ is in cc
  risky l at (inr is) = let both : AtRisk 0 ≡ Lost = sym at ∙ is in cc

  back_to : (P : State → Type 0) → P st → P (state_after eleven_nodes history)
  back_to P p = subst P (sym shows.comes_to) p

  pub shown : (Holds : List NodeInfo → State → StripeNo → NodeNo → Type 0) → Holds eleven_nodes st stripe n → IsShown outage Holds
  shown Holds holds = (
    eleven_nodes,
    history,
    stripe,
    n,
    call,
    are-nodes,
    shows.legal,
    shows.back,
    back_to (λ s. Holds eleven_nodes s stripe n) holds,
    back_to (λ s. IsUnrecoverable eleven_nodes s stripe) (inl shows.before),
    back_to (λ s. harms_none (forecast eleven_nodes s outage (n ∷ [])) ≡ false) unsafe-is,
    back_to (λ s. IsUnrecoverable eleven_nodes (state_after_calls eleven_nodes history (state_with outage s (n ∷ [])) (without_up (n ∷ []) (call ∷ []))) stripe) (inl shows.with_it),
    back_to (λ s. ¬ (IsUnrecoverable eleven_nodes (state_after_calls eleven_nodes history s (call ∷ [])) stripe))
        (risky (level eleven_nodes (state_after_calls eleven_nodes history st (call ∷ [])) stripe) shows.without),
  )

-- ---- homes

abbrev domain : UpgradeNo
domain = record { value = 0 }

-- the stripe is placed, this command is called, and nodes 1, 8 and 9 go down
abbrev entries : Command → List Entry
entries first = entry (Place6 stripe) (Placed6 seats) ∷ entry first Changed ∷ entry (Down (node 1)) Changed ∷ entry (Down (node 8)) Changed ∷ entry (Down (node 9)) Changed ∷ []

abbrev stored : State
stored = record opening { stripes = stripe ∷ []; narrow = stripe ∷ []; homes = held_at stripe (fragments Narrow) seats }

-- node 0 is down too
abbrev four_down : State
four_down = record stored { down = node 0 ∷ node 1 ∷ node 8 ∷ node 9 ∷ [] }

-- or its domain upgrades
abbrev upgrade_runs : State
upgrade_runs = record stored { down = node 1 ∷ node 8 ∷ node 9 ∷ []; upgrading = Some domain }

-- node 2 is online, and node 8 would come up
online-shows : (outage : Outage) → Shows (entries (Down (node 0))) four_down (node 2) (session, Up (node 8)) outage
unfolding place_outcome placed chosen node_outcome level_by has_seat_on_any
online-shows Stop = record { legal = (refl, (refl, (refl, (refl, (refl, tt))))); comes_to = refl; listed = Contains-here stripe []; back = refl; before = refl; then = refl; seat = refl; with_it = refl; without = refl }
online-shows Lose = record { legal = (refl, (refl, (refl, (refl, (refl, tt))))); comes_to = refl; listed = Contains-here stripe []; back = refl; before = refl; then = refl; seat = refl; with_it = refl; without = refl }

-- node 0 would come up
down-shows : (outage : Outage) → Shows (entries (Down (node 0))) four_down (node 0) (session, Up (node 0)) outage
unfolding place_outcome placed chosen node_outcome level_by has_seat_on_any
down-shows Stop = record { legal = (refl, (refl, (refl, (refl, (refl, tt))))); comes_to = refl; listed = Contains-here stripe []; back = refl; before = refl; then = refl; seat = refl; with_it = refl; without = refl }
down-shows Lose = record { legal = (refl, (refl, (refl, (refl, (refl, tt))))); comes_to = refl; listed = Contains-here stripe []; back = refl; before = refl; then = refl; seat = refl; with_it = refl; without = refl }

-- the upgrade of node 0 would end
upgrading-shows : (outage : Outage) → Shows (entries (Upgrade domain)) upgrade_runs (node 0) (session, Upgraded domain) outage
unfolding place_outcome placed chosen node_outcome would_lose upgrade_outcome upgraded_outcome level_by has_seat_on_any
upgrading-shows Stop = record { legal = (refl, (refl, (refl, (refl, (refl, tt))))); comes_to = refl; listed = Contains-here stripe []; back = refl; before = refl; then = refl; seat = refl; with_it = refl; without = refl }
upgrading-shows Lose = record { legal = (refl, (refl, (refl, (refl, (refl, tt))))); comes_to = refl; listed = Contains-here stripe []; back = refl; before = refl; then = refl; seat = refl; with_it = refl; without = refl }

home-alone : (st : State) (n : NodeNo) (f : ℕ) → live_leases st stripe ≡ [] → hit_in st (n ∷ []) stripe f ≡ true → HasOnlyHome st stripe n
home-alone st n f none hit = (none, f, hit)

down-none : live_leases four_down stripe ≡ []
unfolding live_leases
down-none = refl

runs-none : live_leases upgrade_runs stripe ≡ []
unfolding live_leases
runs-none = refl

pub online-shown : (outage : Outage) → IsShown outage (λ nodes st s n. HasOnlyHome st s n × (online_at nodes st n ≡ true))
online-shown outage =
    shown (entries (Down (node 0))) four_down (node 2) (session, Up (node 8)) outage (online-shows outage) (λ nodes st s n. HasOnlyHome st s n × (online_at nodes st n ≡ true))
    (home-alone four_down (node 2) 2 down-none refl, refl)

pub down-shown : (outage : Outage) → IsShown outage (λ nodes st s n. HasOnlyHome st s n × (is_down st n ≡ true))
down-shown outage =
    shown (entries (Down (node 0))) four_down (node 0) (session, Up (node 0)) outage (down-shows outage) (λ nodes st s n. HasOnlyHome st s n × (is_down st n ≡ true))
    (home-alone four_down (node 0) 0 down-none refl, refl)

pub upgrading-shown : (outage : Outage) → IsShown outage (λ nodes st s n. HasOnlyHome st s n × (is_down st n ≡ false) × (online_at nodes st n ≡ false))
upgrading-shown outage =
    shown (entries (Upgrade domain)) upgrade_runs (node 0) (session, Upgraded domain) outage (upgrading-shows outage)
    (λ nodes st s n. HasOnlyHome st s n × (is_down st n ≡ false) × (online_at nodes st n ≡ false)) (home-alone upgrade_runs (node 0) 0 runs-none refl, refl, refl)

-- ---- the target of a lease

abbrev first : Fragment
first = record { value = 0; in_range = lit< tt }

abbrev source : (k : ℕ) → k < 16 → Fragment
source k low = record { value = k; in_range = low }

-- fragment 0 is written to node 10
abbrev lease : Lease
lease = record { stripe = stripe; fragment = first; holder = session; target = record { node = node 10; slot = 0 }; epoch = 1; expiry = 3 }

abbrev granted : Entry
granted = entry (LeaseOf stripe first) (Granted lease (Local3 (source 1 (lit< tt) ∷ source 2 (lit< tt) ∷ source 6 (lit< tt) ∷ [])))

-- node 0 fails, and fragment 0 is being rebuilt, when nodes 1, 8 and 9 go down
abbrev lease_entries : List Entry
lease_entries = entry (Place6 stripe) (Placed6 seats) ∷ entry (Fail (node 0)) Changed ∷ granted ∷ entry (Down (node 1)) Changed ∷ entry (Down (node 8)) Changed ∷ entry (Down (node 9)) Changed ∷ []

abbrev lease_runs : State
lease_runs = record opening {
  stripes = stripe ∷ [];
  narrow = stripe ∷ [];
  homes = drop 1 (held_at stripe (fragments Narrow) seats);
  leases = lease ∷ [];
  gone = node 0 ∷ [];
  down = node 1 ∷ node 8 ∷ node 9 ∷ [];
}

-- the fragment would be written
target-shows : (outage : Outage) → Shows lease_entries lease_runs (node 10) (session, Done stripe first 1) outage
unfolding place_outcome placed chosen node_outcome lease_outcome kind done_outcome level_by has_seat_on_any
target-shows Stop = record { legal = (refl, (refl, (refl, (refl, (refl, (refl, tt)))))); comes_to = refl; listed = Contains-here stripe []; back = refl; before = refl; then = refl; seat = refl; with_it = refl; without = refl }
target-shows Lose = record { legal = (refl, (refl, (refl, (refl, (refl, (refl, tt)))))); comes_to = refl; listed = Contains-here stripe []; back = refl; before = refl; then = refl; seat = refl; with_it = refl; without = refl }

pub target-shown : (outage : Outage) → IsShown outage (λ nodes st s n. HasOnlyTarget st s n)
target-shown outage =
    shown lease_entries lease_runs (node 10) (session, Done stripe first 1) outage (target-shows outage) (λ nodes st s n. HasOnlyTarget st s n) (refl, first, refl)
