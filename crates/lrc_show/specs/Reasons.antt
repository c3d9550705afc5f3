-- Why not all is well, as `lrcman show health` prints it.
use Rattle.std.specs.Prelude.{ℕ, ◌+◌, ◌-◌, ◌*◌, Bool, true, false, not, ◌&&◌, if◌then◌else◌, nat_eq, nat_lt, List, [], ◌∷◌, ◌++◌, codes, decimal, length, map, filter, flat_map, sum_by, option_to_list, is_none, is_some}
use Rattle.std.specs.List.{list_any}
use Rattle.lrc_code.specs.declared.numbers.StripeNo.{StripeNo}
use Rattle.lrc_code.specs.Codes.{fragments}
use Rattle.lrc_topology.specs.declared.NodeInfo.{NodeInfo}
use Rattle.lrc_terms.specs.declared.level.Level.{Level}
use Rattle.lrc_terms.specs.declared.level.Level.TheVariants.{Whole, AtRisk, Unavailable, Lost}
use Rattle.lrc_terms.specs.Leased.{ends_at}
use Rattle.lrc_terms.specs.Stripes.{StripeFragment}
use Rattle.lrc_terms.specs.Modes.{is_active}
use Rattle.lrc_rules.specs.States.{State, code_of, lease_of, load, mode_of, level}
use Rattle.lrc_rules.specs.Repairs.{needs, is_beyond_repair}
use Rattle.lrc_rules.specs.Urgency.{work}
use Rattle.lrc_book.specs.Looks.{stripes_of, kind_shown, is_granted_now}
use Rattle.lrc_forecast.specs.declared.outlook.Outage.TheVariants.{Lose}
use Rattle.lrc_groups.specs.declared.named.Named.{Named}
use Rattle.lrc_text.specs.Tables.{table_line}
use Rattle.lrc_show.specs.declared.domains.DomainKind.TheVariants as domain
use Rattle.lrc_show.specs.Listed.{all_leases}
use Rattle.lrc_show.specs.Summed.{is_level, all_domains, shown_number, state_without}

-- ---- health

-- the row of a reason: how often it is there, and where first; nothing where it is not
abbrev pub reason_row : {X : Type 0} → List ℕ → (X → List ℕ) → List X → List ℕ
reason_row name place [] = []
reason_row name place (x ∷ xs) = table_line (name ∷ decimal (length (x ∷ xs)) ∷ place x ∷ [])

-- a stripe and a fragment, as a command names them
abbrev pub fragment_words : StripeFragment → List ℕ
fragment_words p = decimal p.0.value ++ codes " " ++ decimal p.1.value

-- the stripes of this level, in rising order
abbrev pub stripes_at : List NodeInfo → State → Level → List StripeNo
stripes_at nodes st l = filter (λ s. is_level l (level nodes st s)) (stripes_of st)

-- the fragments of a stripe that need a lease, in rising order
abbrev pub needing_of : List NodeInfo → State → StripeNo → List StripeFragment
needing_of nodes st s = map (λ f. (s, f)) (filter (needs nodes st s) (fragments (code_of st s)))

-- the fragments that need a lease, in the order of repair
abbrev pub needing : List NodeInfo → State → List StripeFragment
needing nodes st = flat_map (needing_of nodes st) (work nodes st)

-- the fragment needs a lease, has none and can be rebuilt, but no node is lawful for it
abbrev pub finds_no_node : List NodeInfo → State → StripeFragment → Bool
finds_no_node nodes st p =
    is_some (kind_shown nodes st p.0 p.1) && (is_none (lease_of st p.0 p.1) && (not (is_granted_now nodes st p.0 p.1) && not (is_beyond_repair nodes st p.0 p.1)))

-- the fragments whose leases end at the next tick, in rising order
abbrev pub ending_fragments : State → List StripeFragment
ending_fragments st = map (λ l. (l.stripe, l.fragment)) (filter (ends_at (st.clock + 1)) (all_leases st))

-- the stripe is lost with the outage, and not without
abbrev pub is_lost_by : List NodeInfo → State → State → StripeNo → Bool
is_lost_by nodes st after s = is_level Lost (level nodes after s) && not (is_level Lost (level nodes st s))

-- a stripe is lost with the loss of the domain that is not lost without it
abbrev pub loses_stripe : List NodeInfo → State → Named → Bool
loses_stripe nodes st d = list_any (is_lost_by nodes st (state_without nodes st Lose d)) (stripes_of st)

-- the fault domains of which that holds, in rising order
abbrev pub fragile_domains : List NodeInfo → State → List Named
fragile_domains nodes st = filter (loses_stripe nodes st) (all_domains nodes domain.Fault)

-- the row for slots, of which so many are taken: where less than a tenth is free, how many are
abbrev pub slots_row : ℕ → ℕ → List ℕ
slots_row slots taken = if nat_lt ((slots - taken) * 10) slots then table_line (codes "slots" ∷ decimal (slots - taken) ∷ [] ∷ []) else []

-- the rows on levels
unfoldable pub level_reasons : List NodeInfo → State → List ℕ
level_reasons nodes st =
    reason_row (codes "lost") (λ s. decimal s.value) (stripes_at nodes st Lost) ++ reason_row (codes "unavailable") (λ s. decimal s.value) (stripes_at nodes st Unavailable)
    ++ reason_row (codes "margin_0") (λ s. decimal s.value) (stripes_at nodes st (AtRisk 0)) ++ reason_row (codes "margin_1") (λ s. decimal s.value) (stripes_at nodes st (AtRisk 1))
    ++ reason_row (codes "margin_2") (λ s. decimal s.value) (stripes_at nodes st (AtRisk 2))

-- the rows on repair
unfoldable pub repair_reasons : List NodeInfo → State → List ℕ
repair_reasons nodes st =
    reason_row (codes "no_node") fragment_words (filter (finds_no_node nodes st) (needing nodes st))
    ++ reason_row (codes "waiting") fragment_words (filter (λ p. is_granted_now nodes st p.0 p.1) (needing nodes st))
    ++ reason_row (codes "ending") fragment_words (ending_fragments st)

-- the rows on domains, and on the slots of the active nodes
unfoldable pub room_reasons : List NodeInfo → State → List ℕ
room_reasons nodes st =
    reason_row (codes "upgrading") (λ u. decimal u.value) (option_to_list st.upgrading)
    ++ reason_row (codes "fault_domains") (λ d. decimal (shown_number d)) (fragile_domains nodes st)
    ++ slots_row (sum_by (λ n. n.slots) (filter (λ n. is_active (mode_of st n.number)) nodes)) (sum_by (λ n. load st n.number) (filter (λ n. is_active (mode_of st n.number)) nodes))

-- the rows, or that there are none
abbrev pub or_ok : List ℕ → List ℕ
or_ok [] = codes "ok,0,\n"
or_ok (c ∷ cs) = c ∷ cs

-- a row for each reason why not all is well
abbrev pub health_table : List NodeInfo → State → List ℕ
health_table nodes st = codes "reason,count,first\n" ++ or_ok (level_reasons nodes st ++ repair_reasons nodes st ++ room_reasons nodes st)

-- a stripe of this level is lost or unavailable, or would be after one more loss of a fragment
abbrev pub is_grave : Level → Bool
is_grave Whole = false
is_grave (AtRisk margin) = nat_eq margin 0
is_grave Unavailable = true
is_grave Lost = true

-- the store has such a stripe
abbrev pub is_in_danger : List NodeInfo → State → Bool
is_in_danger nodes st = list_any (λ s. is_grave (level nodes st s)) (stripes_of st)
