-- The reasons why not all is well.
use Rattle.std.proofs.Common.{◌≡◌, ℕ, ◌+◌, ◌<◌, ◌≤◌, Bool, true, false, not, cond, if◌then◌else◌, ◌&&◌, ◌||◌, List, [], ◌∷◌, ◌++◌, length, get_or, take, map, filter, flat_map, Some, None, decimal, arith, refl, sym, ap, subst, ◌∙◌}
use Rattle.std.specs.Prelude.{is_some, sum_by}
use Rattle.std.specs.List.{list_any, Contains}
use Rattle.std.specs.Option.{option_map_or}
use Rattle.std.proofs.lemmas.List.{take_all}
use Rattle.std.proofs.lemmas.List.Folds.{fold-map}
use Rattle.lrc_code.specs.declared.numbers.StripeNo.{StripeNo}
use Rattle.lrc_code.specs.declared.numbers.NodeNo.{NodeNo}
use Rattle.lrc_code.specs.declared.numbers.Fragment.{Fragment}
use Rattle.lrc_code.specs.Codes.{all_fragments}
use Rattle.lrc_topology.specs.declared.NodeInfo.{NodeInfo}
use Rattle.lrc_terms.specs.declared.level.Level.{Level}
use Rattle.lrc_terms.specs.declared.level.Level.TheVariants.{Whole, AtRisk, Unavailable, Lost}
use Rattle.lrc_terms.specs.Stripes.{StripeFragment}
use Rattle.lrc_terms.specs.Modes.{is_active}
use Rattle.lrc_terms.specs.Levels.{homes_of, is_whole}
use Rattle.lrc_rules.specs.States.{State, has_stripe, code_of, drains_at, load, mode_of, level}
use Rattle.lrc_rules.specs.Repairs.{needs, kind}
use Rattle.lrc_rules.specs.Urgency.{work}
use Rattle.lrc_rules.proofs.ListedLemmas.{work-listed}
use Rattle.lrc_book.specs.Looks.{kind_shown}
use Rattle.lrc_forecast.specs.declared.outlook.Outage.{Outage}
use Rattle.lrc_forecast.specs.Forecasts.{state_with, is_risky, outlook, outlooks}
use Rattle.lrc_show.specs.Summed.{is_level, shown_number}
use Rattle.lrc_show.specs.Reasons.{needing_of, is_lost_by, is_grave, slots_row, reason_row}
use Rattle.lrc_text.specs.Tables.{table_line}
use Rattle.lrc_groups.specs.declared.named.Named.{Named}
use Rattle.lrc_show.specs.declared.nodes.NodeFacts.{NodeFacts}
use Rattle.lrc_show.specs.declared.stripe_facts.StripeFacts.{StripeFacts}
use Rattle.lrc_show.specs.Facts.{stripe_facts, node_facts, is_newly_lost}
use Rattle.lrc_show.proofs.FieldLemmas.{own-all}
use Rattle.lrc_show.proofs.ListLemmas.{flat-more}
use Rattle.lrc_show.proofs.DomainLemmas.{filter-map}

-- ---- stripes that an outage would lose

module _ (nodes : List NodeInfo) (st : State) (outage : Outage) (ns : List NodeNo) where
  abbrev after : State
  after = state_with outage st ns

  -- one stripe more: one that is whole then is not lost
  lost-one : (v : Level) (s : StripeNo) (xs : List StripeNo) (rest : Bool) → v ≡ level nodes after s
      → list_any is_newly_lost (outlooks nodes st outage ns xs) ≡ rest
      → list_any is_newly_lost (map (outlook nodes st outage ns) (cond (not (is_whole v)) (s ∷ filter (is_risky nodes after) xs) (filter (is_risky nodes after) xs)))
      ≡ (is_lost_by nodes st after s || rest)
  lost-one Whole s xs rest is so_far =
      so_far ∙ ap (λ (w : Level). (is_level Lost w && not (is_level Lost (level nodes st s))) || rest) is
  lost-one (AtRisk k) s xs rest is so_far = ap (λ (b : Bool). is_lost_by nodes st after s || b) so_far
  lost-one Unavailable s xs rest is so_far = ap (λ (b : Bool). is_lost_by nodes st after s || b) so_far
  lost-one Lost s xs rest is so_far = ap (λ (b : Bool). is_lost_by nodes st after s || b) so_far

  pub lost-told : (xs : List StripeNo) → list_any is_newly_lost (outlooks nodes st outage ns xs) ≡ list_any (is_lost_by nodes st after) xs
  lost-told [] = refl
  lost-told (s ∷ xs) = lost-one (level nodes after s) s xs (list_any (is_lost_by nodes st after) xs) refl (lost-told xs)

-- ---- levels

pub any-grave : (nodes : List NodeInfo) (st : State) (xs : List StripeNo)
    → list_any (λ (s : StripeFacts). is_grave s.level) (map (stripe_facts nodes st) xs) ≡ list_any (λ s. is_grave (level nodes st s)) xs
any-grave nodes st [] = refl
any-grave nodes st (s ∷ xs) = ap (λ (b : Bool). is_grave (level nodes st s) || b) (any-grave nodes st xs)

-- ---- slots

module _ (nodes : List NodeInfo) (st : State) where
  abbrev active : List NodeInfo
  active = filter (λ (n : NodeInfo). is_active (mode_of st n.number)) nodes

  active-told : (facts : List NodeFacts) → facts ≡ filter (λ (n : NodeFacts). is_active n.mode) (map (node_facts st) nodes) → facts ≡ map (node_facts st) active
  active-told facts are = are ∙ filter-map (λ (n : NodeFacts). is_active n.mode) (node_facts st) nodes

  slots-mapped : (ns : List NodeInfo) → sum_by (λ (n : NodeFacts). n.node.slots) (map (node_facts st) ns) ≡ sum_by (λ (n : NodeInfo). n.slots) ns
  slots-mapped ns = simp fold-map

  loads-mapped : (ns : List NodeInfo) → sum_by (λ (n : NodeFacts). n.load) (map (node_facts st) ns) ≡ sum_by (λ (n : NodeInfo). load st n.number) ns
  loads-mapped ns = simp fold-map

  pub slots-told : (facts others : List NodeFacts) (slots taken : ℕ) → facts ≡ filter (λ (n : NodeFacts). is_active n.mode) (map (node_facts st) nodes)
      → others ≡ filter (λ (n : NodeFacts). is_active n.mode) (map (node_facts st) nodes)
      → slots ≡ sum_by (λ (n : NodeFacts). n.node.slots) facts → taken ≡ sum_by (λ (n : NodeFacts). n.load) others
      → slots_row slots taken ≡ slots_row (sum_by (λ (n : NodeInfo). n.slots) active) (sum_by (λ (n : NodeInfo). load st n.number) active)
  slots-told facts others slots taken are too a b =
      let s : slots ≡ sum_by (λ (n : NodeInfo). n.slots) active =
      a ∙ ap (λ (l : List NodeFacts). sum_by (λ (n : NodeFacts). n.node.slots) l) (active-told facts are) ∙ slots-mapped active in
      let t : taken ≡ sum_by (λ (n : NodeInfo). load st n.number) active =
      b ∙ ap (λ (l : List NodeFacts). sum_by (λ (n : NodeFacts). n.load) l) (active-told others too) ∙ loads-mapped active in
      ap (λ (k : ℕ). slots_row k taken) s ∙ ap (slots_row (sum_by (λ (n : NodeInfo). n.slots) active)) t

-- ---- fragments that need a lease

some-by : {X : Type 0} (b : Bool) (x : X) → b ≡ is_some (if b then Some x else None)
some-by true x = refl
some-by false x = refl

-- a fragment of a stripe
abbrev pub part_of : StripeNo → Fragment → StripeFragment
part_of s f = (s, f)

picked : (s : StripeNo) (b : Bool) (f : Fragment) (fs : List Fragment) → (if b then part_of s f ∷ [] else []) ++ map (part_of s) fs ≡ map (part_of s) (cond b (f ∷ fs) fs)
picked s true f fs = refl
picked s false f fs = refl

module _ (nodes : List NodeInfo) (st : State) (s : StripeNo) where
  -- the fragment, if the store has the stripe and the fragment needs a lease
  abbrev pub own_need : Fragment → List StripeFragment
  own_need f = if has_stripe st s && needs nodes st s f then part_of s f ∷ [] else []

  pub need-there : (f : Fragment) (b : Bool) → is_some (kind_shown nodes st s f) ≡ b → own_need f ≡ (if b then part_of s f ∷ [] else [])
  need-there f b is = ap (λ (t : Bool). if t then part_of s f ∷ [] else []) (some-by (has_stripe st s && needs nodes st s f) (kind nodes st s f) ∙ is)

  passing : (test : Fragment → Bool) (fs : List Fragment) → flat_map (λ (f : Fragment). if test f then part_of s f ∷ [] else []) fs ≡ map (part_of s) (filter test fs)
  passing test [] = refl
  passing test (f ∷ fs) = ap (λ (l : List StripeFragment). (if test f then part_of s f ∷ [] else []) ++ l) (passing test fs) ∙ picked s (test f) f (filter test fs)

  by-there : (b : Bool) → flat_map (λ (f : Fragment). if b && needs nodes st s f then part_of s f ∷ [] else []) all_fragments ≡ (if b then needing_of nodes st s else [])
  by-there true =
      passing (needs nodes st s) all_fragments
      ∙ ap (map (part_of s)) (own-all (code_of st s) (λ f. option_map_or (λ seat. drains_at nodes st seat.node) (homes_of st.homes s f) true))
  by-there false = refl

  pub needs-told : (i : ℕ) (old now : List StripeFragment) → now ≡ old ++ flat_map own_need (take i all_fragments) → 16 ≤ i
      → now ≡ old ++ (if has_stripe st s then needing_of nodes st s else [])
  needs-told i old now so_far past =
      so_far ∙ ap (λ (fs : List Fragment). old ++ flat_map own_need fs) (take_all i all_fragments past) ∙ ap (λ (l : List StripeFragment). old ++ l) (by-there (has_stripe st s))

module _ (nodes : List NodeInfo) (st : State) (items : List StripeNo) (all : items ≡ work nodes st) (i : ℕ) (s : StripeNo) (within : i < length items) (here : s ≡ get_or items i s) where
  listed : Contains (work nodes st) s
  listed = subst (λ (xs : List StripeNo). Contains xs s) all (i, within, sym here)

  pub needs-more : (old new : List StripeFragment) → old ≡ flat_map (needing_of nodes st) (take i items)
      → new ≡ old ++ (if has_stripe st s then needing_of nodes st s else []) → new ≡ flat_map (needing_of nodes st) (take (i + 1) items)
  needs-more old new so_far next =
      flat-more (needing_of nodes st) items i s [] old new within so_far
      (next ∙ ap (λ (b : Bool). old ++ (if b then needing_of nodes st s else [])) (work-listed nodes st s listed).0 ∙ ap (λ (t : StripeNo). old ++ needing_of nodes st t) here)

-- ---- the row of a reason

pub domains-reason : (name : List ℕ) (ds : List Named) (d : Named) (count first : ℕ) → 0 < length ds → count ≡ length ds → first ≡ shown_number (get_or ds 0 d)
    → table_line (name ∷ decimal count ∷ decimal first ∷ []) ≡ reason_row name (λ k. decimal (shown_number k)) ds
domains-reason name [] d count first some long is = absurd (omega (arith, some))
domains-reason name (k ∷ ks) d count first some long is =
    ap (λ (n : ℕ). table_line (name ∷ decimal n ∷ decimal first ∷ [])) long ∙ ap (λ (n : ℕ). table_line (name ∷ decimal (length (k ∷ ks)) ∷ decimal n ∷ [])) is
