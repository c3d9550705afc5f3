-- A store in which two outages are each safe, and both together are not. It has eleven nodes, and a narrow stripe
-- on ten of them, the last two of which are down, and with them the global parities.
use Rattle.std.proofs.Common.{◌≡◌, ℕ, ◌<◌, ◌&&◌, ◌||◌, Bool, true, false, not, List, [], ◌∷◌, get_or, map, refl, sym, ap, ◌∙◌, subst, inl, inr, arith, lit<, lit≤, zero-add}
use Rattle.std.specs.List.{range_with_len}
use Rattle.std.proofs.lemmas.Bool.{false_from_ne_true}
use Rattle.std.proofs.lemmas.List.{get_or-map}
use Rattle.std.proofs.lemmas.List.FromFn.{length-range_with_len, get_or-range_with_len}
use Rattle.lrc_code.specs.declared.codes.Code.TheVariants.{Narrow}
use Rattle.lrc_code.specs.declared.numbers.StripeNo.{StripeNo}
use Rattle.lrc_code.specs.declared.numbers.NodeNo.{NodeNo}
use Rattle.lrc_code.specs.declared.numbers.SessionNo.{SessionNo}
use Rattle.lrc_code.specs.Codes.{fragments}
use Rattle.lrc_topology.specs.declared.NodeInfo.{NodeInfo}
use Rattle.lrc_topology.specs.declared.seat.Seat.{Seat}
use Rattle.lrc_topology.specs.Nodes.{AreNodes}
use Rattle.lrc_terms.specs.declared.level.Level.{Level}
use Rattle.lrc_terms.specs.declared.level.Level.TheVariants.{AtRisk, Unavailable}
use Rattle.lrc_terms.specs.Levels.{level_by}
use Rattle.lrc_rules.specs.declared.command.Command.{Command}
use Rattle.lrc_rules.specs.declared.command.Command.TheVariants.{Place6, Down}
use Rattle.lrc_rules.specs.declared.reply.Reply.{Reply}
use Rattle.lrc_rules.specs.declared.reply.Reply.TheVariants.{Placed6, Changed}
use Rattle.lrc_rules.specs.declared.entry.Entry.{Entry}
use Rattle.lrc_rules.specs.States.{State, opening, level}
use Rattle.lrc_rules.specs.Placement.{chosen, placed}
use Rattle.lrc_rules.specs.Steps.{place_outcome, node_outcome}
use Rattle.lrc_rules.specs.Changes.{held_at}
use Rattle.lrc_rules.specs.Histories.{IsLegal, state_after}
use Rattle.lrc_rules.proofs.MemberLemmas.{Contains-here, Contains-cases, not-Contains-nil}
use Rattle.lrc_forecast.specs.declared.outlook.Outage.{Outage}
use Rattle.lrc_forecast.specs.declared.outlook.Outlook.{Outlook}
use Rattle.lrc_forecast.specs.declared.outlook.Outage.TheVariants.{Stop, Lose}
use Rattle.lrc_forecast.specs.Forecasts.{state_with, has_seat_on_any, outlook, is_unrecoverable, is_harmed, forecast, harms_none}
use Rattle.lrc_forecast.proofs.SafeLemmas.{safe-harmless}

-- ---- the store

abbrev pub node : ℕ → NodeNo
node k = record { value = k }

-- a node with one slot, in domains of its own
abbrev alone : ℕ → NodeInfo
alone k = record { number = node k; fault = record { value = k }; upgrade = record { value = k }; slots = 1 }

abbrev pub eleven_nodes : List NodeInfo
eleven_nodes = map alone (range_with_len 0 11)

number-at : (i : ℕ) (d : NodeInfo) → i < 11 → (get_or eleven_nodes i d).number.value ≡ i
number-at i d within =
    ap (λ (n : NodeInfo). n.number.value) (get_or-map alone (range_with_len 0 11) i 0 d (omega (arith, within, length-range_with_len 0 11)))
    ∙ (get_or-range_with_len 0 11 i 0 within ∙ zero-add i)

pub are-nodes : AreNodes eleven_nodes
are-nodes = record {
  some = lit≤ tt;
  few = lit≤ tt;
  distinct = λ i j d below within same.
      let high : j < 11 = within in
      let first = number-at i d (omega (arith, below, high)) in
      let second = number-at j d high in
      absurd (omega (arith, first, second, below, same));
  ranges = omega arith;
}

abbrev pub stripe : StripeNo
stripe = record { value = 0; in_range = lit< tt }

abbrev pub session : SessionNo
session = record { value = 1; in_range = (lit≤ tt, lit≤ tt) }

abbrev pub seats : List Seat
seats = map (λ k. record { node = node k; slot = 0 }) (range_with_len 0 10)

abbrev pub entry : Command → Reply → Entry
entry c r = record { session = session; command = c; reply = r }

abbrev pub three_entries : List Entry
three_entries = entry (Place6 stripe) (Placed6 seats) ∷ entry (Down (node 8)) Changed ∷ entry (Down (node 9)) Changed ∷ []

pub is-legal : IsLegal eleven_nodes three_entries
unfolding place_outcome placed chosen node_outcome
is-legal = (refl, (refl, (refl, tt)))

-- the state after the history
abbrev two_down : State
two_down = record opening { stripes = stripe ∷ []; narrow = stripe ∷ []; homes = held_at stripe (fragments Narrow) seats; down = node 8 ∷ node 9 ∷ [] }

state-is : state_after eleven_nodes three_entries ≡ two_down
unfolding place_outcome placed chosen node_outcome
state-is = refl

-- ---- levels

before-is : level eleven_nodes two_down stripe ≡ AtRisk 1
unfolding level_by
before-is = refl

first-is : (outage : Outage) → level eleven_nodes (state_with outage two_down (node 0 ∷ [])) stripe ≡ AtRisk 0
unfolding level_by
first-is Stop = refl
first-is Lose = refl

second-is : (outage : Outage) → level eleven_nodes (state_with outage two_down (node 1 ∷ [])) stripe ≡ AtRisk 0
unfolding level_by
second-is Stop = refl
second-is Lose = refl

both-is : (outage : Outage) → level eleven_nodes (state_with outage two_down (node 0 ∷ node 1 ∷ [])) stripe ≡ Unavailable
unfolding level_by
both-is Stop = refl
both-is Lose = refl

-- ---- forecasts

at_risk : (before after : Level) (more : Bool) → after ≡ AtRisk 0 → (is_unrecoverable after && (not (is_unrecoverable before) || more)) ≡ false
at_risk before after more is = rw is refl

unavailable : (before after : Level) (more : Bool) → before ≡ AtRisk 1 → after ≡ Unavailable → (is_unrecoverable after && (not (is_unrecoverable before) || more)) ≡ true
unavailable before after more was is = rw (is, was) refl

-- what becomes of the stripe
abbrev outlook_with : Outage → List NodeNo → Outlook
outlook_with outage ns = outlook eleven_nodes two_down outage ns stripe

-- a forecast in which the only stripe is at risk is safe
safe-by : (outage : Outage) (ns : List NodeNo) → level eleven_nodes (state_with outage two_down ns) stripe ≡ AtRisk 0
    → harms_none (forecast eleven_nodes two_down outage ns) ≡ true
safe-by outage ns is = (safe-harmless eleven_nodes two_down outage ns).1 (λ s there. elim (Contains-cases stripe s [] there) [
  | inl same ↦
      subst (λ (r : StripeNo). is_harmed (outlook eleven_nodes two_down outage ns r) ≡ false) same
      (at_risk (level eleven_nodes two_down stripe) (level eleven_nodes (state_with outage two_down ns) stripe) (has_seat_on_any two_down ns stripe) is)
  | inr none ↦ absurd (not-Contains-nil s none)
])

-- and one in which it is unavailable is not
unsafe-by : (outage : Outage) (ns : List NodeNo) → level eleven_nodes (state_with outage two_down ns) stripe ≡ Unavailable
    → harms_none (forecast eleven_nodes two_down outage ns) ≡ false
unsafe-by outage ns is = false_from_ne_true (harms_none (forecast eleven_nodes two_down outage ns)) (λ safe.
    let none = (safe-harmless eleven_nodes two_down outage ns).0 safe stripe (Contains-here stripe []) in
    let hit : is_harmed (outlook_with outage ns) ≡ true =
    unavailable (level eleven_nodes two_down stripe) (level eleven_nodes (state_with outage two_down ns) stripe) (has_seat_on_any two_down ns stripe) before-is is in
    let both : true ≡ false = sym hit ∙ none in cc)

module _ (outage : Outage) where
  abbrev IsForecast : List NodeNo → Bool → Type 0
  IsForecast ns safe = harms_none (forecast eleven_nodes (state_after eleven_nodes three_entries) outage ns) ≡ safe

  told : (ns : List NodeNo) (safe : Bool) → harms_none (forecast eleven_nodes two_down outage ns) ≡ safe → IsForecast ns safe
  told ns safe is = subst (λ (st : State). harms_none (forecast eleven_nodes st outage ns) ≡ safe) (sym state-is) is

  pub first-safe : IsForecast (node 0 ∷ []) true
  first-safe = told (node 0 ∷ []) true (safe-by outage (node 0 ∷ []) (first-is outage))

  pub second-safe : IsForecast (node 1 ∷ []) true
  second-safe = told (node 1 ∷ []) true (safe-by outage (node 1 ∷ []) (second-is outage))

  pub both-unsafe : IsForecast (node 0 ∷ node 1 ∷ []) false
  both-unsafe = told (node 0 ∷ node 1 ∷ []) false (unsafe-by outage (node 0 ∷ node 1 ∷ []) (both-is outage))
