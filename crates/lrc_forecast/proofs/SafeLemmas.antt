-- Which forecasts are safe.
use Rattle.std.proofs.Common.{◌≡◌, ◌↔◌, ◌&&◌, ◌||◌, Bool, true, false, not, List, filter, refl, sym, ap, ◌∙◌}
use Rattle.std.specs.List.{Contains, list_any}
use Rattle.std.proofs.lemmas.Bool.{not-true, false_from_ne_true}
use Rattle.lrc_code.specs.declared.numbers.StripeNo.{StripeNo}
use Rattle.lrc_code.specs.declared.numbers.NodeNo.{NodeNo}
use Rattle.lrc_topology.specs.declared.NodeInfo.{NodeInfo}
use Rattle.lrc_terms.specs.declared.level.Level.{Level}
use Rattle.lrc_terms.specs.declared.level.Level.TheVariants.{Whole, AtRisk, Unavailable, Lost}
use Rattle.lrc_terms.specs.Levels.{is_whole}
use Rattle.lrc_terms.proofs.ListLemmas.{Contains-unmap}
use Rattle.lrc_rules.specs.States.{State, level}
use Rattle.lrc_rules.specs.Goodness.{AreSeated}
use Rattle.lrc_rules.proofs.LookUpLemmas.{stripe-there}
use Rattle.lrc_rules.proofs.StateLemmas.{there-stripe}
use Rattle.lrc_rules.proofs.MemberLemmas.{filter-member, member-filter, map-member, list_any-member, member-list_any}
use Rattle.lrc_book.specs.Looks.{stripes_of}
use Rattle.lrc_book.proofs.StripeLemmas.{there-listed, listed-there}
use Rattle.lrc_forecast.specs.declared.outlook.Outage.{Outage}
use Rattle.lrc_forecast.specs.declared.outlook.Outlook.{Outlook}
use Rattle.lrc_forecast.specs.Forecasts.{has_seat_on_any, state_with, outlook, outlooks, is_risky, is_unrecoverable, is_harmed, harms_none, IsUnrecoverable, HasNoSeatOn}
use Rattle.lrc_forecast.proofs.SeatLemmas.{seats-words}
use Rattle.lrc_forecast.proofs.UnrecoverableLemmas.{test-level}

-- ---- what is harm

unrecoverable-risky : (l : Level) (more : Bool) → (is_unrecoverable l && more) ≡ true → not (is_whole l) ≡ true
unrecoverable-risky Whole more hit = absurd (cc)
unrecoverable-risky (AtRisk k) more hit = refl
unrecoverable-risky Unavailable more hit = refl
unrecoverable-risky Lost more hit = refl

harmed-risky : (o : Outlook) → is_harmed o ≡ true → not (is_whole o.after) ≡ true
harmed-risky o hit = unrecoverable-risky o.after (not (is_unrecoverable o.before) || o.has_seat_on_any) hit

calm : (l now seat : Bool) → (l && (not now || seat)) ≡ false → l ≡ true → (now ≡ true) × (seat ≡ false)
calm true true false is hit = (refl, refl)
calm true true true is hit = absurd (cc)
calm true false seat is hit = absurd (cc)
calm false now seat is hit = absurd (cc)

calm-by : (l now seat : Bool) → (l ≡ true → (now ≡ true) × (seat ≡ false)) → (l && (not now || seat)) ≡ false
calm-by false now seat all = refl
calm-by true now seat all = let (a, b) = all refl in rw (a, b) refl

module _ (nodes : List NodeInfo) (st : State) (outage : Outage) (ns : List NodeNo) (s : StripeNo) (seated : AreSeated nodes st) where
  abbrev then : State
  then = state_with outage st ns

  -- where the stripe is not recoverable then, it is not so now, and has no seat on the nodes
  abbrev IsSpared : Type 0
  IsSpared = IsUnrecoverable nodes then s → IsUnrecoverable nodes st s × HasNoSeatOn st ns s

  pub harmless-spared : is_harmed (outlook nodes st outage ns s) ≡ false → IsSpared
  harmless-spared is hit =
      let (now, none) = calm (is_unrecoverable (level nodes then s)) (is_unrecoverable (level nodes st s)) (has_seat_on_any st ns s) is ((test-level (level nodes then s)).1 hit) in
      ((test-level (level nodes st s)).0 now, (seats-words nodes st seated ns s).0 none)

  pub spared-harmless : IsSpared → is_harmed (outlook nodes st outage ns s) ≡ false
  spared-harmless spared =
      calm-by (is_unrecoverable (level nodes then s)) (is_unrecoverable (level nodes st s)) (has_seat_on_any st ns s)
      (λ hit.
      let all = spared ((test-level (level nodes then s)).0 hit) in
      ((test-level (level nodes st s)).1 all.0, (seats-words nodes st seated ns s).1 all.1))

-- ---- forecasts

module _ (nodes : List NodeInfo) (st : State) (outage : Outage) (ns : List NodeNo) where
  abbrev after : State
  after = state_with outage st ns

  abbrev outlook_for : StripeNo → Outlook
  outlook_for = outlook nodes st outage ns

  abbrev rows : List Outlook
  rows = outlooks nodes st outage ns (stripes_of st)

  -- no stripe is harmed
  abbrev NoneHarmed : Type 0
  NoneHarmed = (s : StripeNo) → Contains st.stripes s → is_harmed (outlook_for s) ≡ false

  pub safe-none : harms_none rows ≡ true → NoneHarmed
  safe-none safe s there = false_from_ne_true (is_harmed (outlook_for s)) (λ harm.
      let listed = member-filter (is_risky nodes after) (stripes_of st) s (there-listed st s (there-stripe st s there)) (harmed-risky (outlook_for s) harm) in
      let hit = list_any-member is_harmed rows (outlook_for s) (map-member outlook_for (filter (is_risky nodes after) (stripes_of st)) s listed) harm in
      let both : true ≡ false = sym hit ∙ not-true (list_any is_harmed rows) safe in cc)

  none-safe : NoneHarmed → harms_none rows ≡ true
  none-safe none = ap not (false_from_ne_true (list_any is_harmed rows) (λ hit.
      let (o, among, harm) = member-list_any is_harmed rows hit in
      let (s, at, same) = Contains-unmap outlook_for (filter (is_risky nodes after) (stripes_of st)) o among in
      let there = stripe-there st s (listed-there st s (filter-member (is_risky nodes after) (stripes_of st) s at).0) in
      let off : is_harmed (outlook_for s) ≡ false = none s there in
      let both : true ≡ false = sym harm ∙ (ap is_harmed (sym same) ∙ off) in cc))

  pub safe-harmless : (harms_none rows ≡ true) ↔ NoneHarmed
  safe-harmless = (safe-none, none-safe)

  pub safe-words : AreSeated nodes st
      → (harms_none rows ≡ true) ↔ ((s : StripeNo) → Contains st.stripes s → IsUnrecoverable nodes after s → IsUnrecoverable nodes st s × HasNoSeatOn st ns s)
  safe-words seated = (
    λ safe s there. harmless-spared nodes st outage ns s seated (safe-none safe s there),
    λ spared. none-safe (λ s there. spared-harmless nodes st outage ns s seated (spared s there)),
  )
