-- The state after nodes were stopped or lost.
use Rattle.std.proofs.Common.{◌≡◌, ◌≢◌, ℕ, ◌&&◌, ◌||◌, Bool, true, false, not, if◌then◌else◌, eqb, List, [], ◌∷◌, ◌++◌, filter, find, get_or, Option, Some, None, is_none, refl, sym, ap, ◌∙◌, inl, inr}
use Rattle.std.specs.List.{All, AllPairs}
use Rattle.std.specs.Option.{option_map_or}
use Rattle.std.proofs.lemmas.Bool.{cases_Bool, eqb-true, and_parts, false_from_ne_true}
use Rattle.std.proofs.lemmas.List.Elements.{All-head, All-tail, All-weaker}
use Rattle.std.proofs.lemmas.List.Kept.{AllPairs-filter}
use Rattle.std.proofs.lemmas.List.Folds.{list_any-append}
use Rattle.lrc_code.specs.declared.numbers.StripeNo.{StripeNo}
use Rattle.lrc_code.specs.declared.numbers.NodeNo.{NodeNo}
use Rattle.lrc_code.specs.Numbers.{same_node}
use Rattle.lrc_code.specs.Codes.{has_fragment}
use Rattle.lrc_code.proofs.NumbersLemmas.{equal_stripes, equal_fragments}
use Rattle.lrc_topology.specs.declared.NodeInfo.{NodeInfo}
use Rattle.lrc_topology.specs.declared.seat.Seat.{Seat}
use Rattle.lrc_topology.specs.declared.seat.Held.{Held}
use Rattle.lrc_topology.specs.Nodes.{node_at}
use Rattle.lrc_terms.specs.Levels.{homes_of, home_of}
use Rattle.lrc_terms.specs.Modes.{is_gone}
use Rattle.lrc_terms.specs.declared.mode.Mode.TheVariants.{Active, Draining, Gone}
use Rattle.lrc_rules.specs.States.{State, code_of, has_number, mode_of, is_down, is_upgrading, is_online, online_at, homeless, missing}
use Rattle.lrc_rules.specs.Steps.{stands_on, emptied, changed_on}
use Rattle.lrc_rules.proofs.LookUpLemmas.{is_of, seat_in, test-sym}
use Rattle.lrc_rules.proofs.MemberLemmas.{AllPairs-head, AllPairs-tail}
use Rattle.lrc_rules.proofs.ModeListLemmas.{left}
use Rattle.lrc_rules.proofs.NodeLemmas.{member-node_at}
use Rattle.lrc_forecast.specs.Forecasts.{report_of, state_with, is_on_any, hit_in}
use Rattle.lrc_forecast.specs.Hits.{HaveOneHome}
use Rattle.lrc_forecast.specs.declared.outlook.Outage.{Outage}
use Rattle.lrc_forecast.specs.declared.outlook.Outage.TheVariants.{Stop, Lose}

pub or_false : (b : Bool) → (b || false) ≡ b
or_false true = refl
or_false false = refl

and_true : (b : Bool) → (b && true) ≡ b
and_true true = refl
and_true false = refl

-- ---- which nodes are online

pub gone-by : (gone draining : Bool) → is_gone (if gone then Gone else (if draining then Draining else Active)) ≡ gone
gone-by true draining = refl
gone-by false true = refl
gone-by false false = refl

pub added : (numbers : List NodeNo) (n m : NodeNo) → has_number (numbers ++ n ∷ []) m ≡ (has_number numbers m || same_node n m)
added numbers n m =
    list_any-append (same_node m) numbers (n ∷ []) ∙ ap (λ (b : Bool). has_number numbers m || b) (or_false (eqb m.value n.value) ∙ test-sym m.value n.value)

abbrev online-by : Bool → Bool → Bool → Bool
online-by gone down upgrading = not gone && (not down && not upgrading)

stopped-by : (gone down upgrading hit : Bool) → online-by gone (down || hit) upgrading ≡ (online-by gone down upgrading && not hit)
stopped-by true down upgrading hit = refl
stopped-by false true upgrading hit = refl
stopped-by false false true true = refl
stopped-by false false true false = refl
stopped-by false false false true = refl
stopped-by false false false false = refl

lost-by : (gone down upgrading hit : Bool) → online-by (gone || hit) (not hit && down) upgrading ≡ (online-by gone down upgrading && not hit)
lost-by true down upgrading hit = refl
lost-by false true upgrading true = refl
lost-by false true upgrading false = refl
lost-by false false true true = refl
lost-by false false true false = refl
lost-by false false false true = refl
lost-by false false false false = refl

-- a node is offline after its outage, and the others stay as they are
online-on : (outage : Outage) (st : State) (n : NodeNo) (m : NodeInfo) → is_online (changed_on (report_of outage) st n) m ≡ (is_online st m && not (same_node n m.number))
online-on Stop st n m =
    let gone = is_gone (mode_of st m.number) in
    let upgrading = is_upgrading st m in
    ap (λ (d : Bool). online-by gone d upgrading) (added st.down n m.number)
    ∙ stopped-by gone (is_down st m.number) upgrading (same_node n m.number)
online-on Lose st n m =
    let k = m.number in
    let upgrading = is_upgrading st m in
    let now = changed_on (report_of Lose) st n in
    ap (λ (g : Bool). online-by g (is_down now k) upgrading) (gone-by (has_number now.gone k) (has_number now.draining k) ∙ added st.gone n k)
    ∙ ap (λ (d : Bool). online-by (has_number st.gone k || same_node n k) d upgrading) (left st.down n k (same_node n k) refl)
    ∙ lost-by (has_number st.gone k) (is_down st k) upgrading (same_node n k)
    ∙ ap (λ (g : Bool). online-by g (is_down st k) upgrading && not (same_node n k)) (sym (gone-by (has_number st.gone k) (has_number st.draining k)))

both-off : (b hit more : Bool) → ((b && not hit) && not more) ≡ (b && not (hit || more))
both-off true true more = refl
both-off true false more = refl
both-off false hit more = refl

module _ (nodes : List NodeInfo) (outage : Outage) where
  online-one : (st : State) (n k : NodeNo) → online_at nodes (changed_on (report_of outage) st n) k ≡ (online_at nodes st k && not (same_node n k))
  online-one st n k = by (node_at nodes k) refl where
    by : (o : Option NodeInfo) → node_at nodes k ≡ o
        → option_map_or (is_online (changed_on (report_of outage) st n)) o false ≡ (option_map_or (is_online st) o false && not (same_node n k))
    by None is = refl
    by (Some m) is =
        online-on outage st n m ∙ ap (λ (j : NodeNo). is_online st m && not (same_node n j)) (sym (member-node_at nodes k m is).1)

  -- a node is online after the outages if it was before, and is not one of these
  pub online-after : (st : State) (ns : List NodeNo) (k : NodeNo) → online_at nodes (state_with outage st ns) k ≡ (online_at nodes st k && not (has_number ns k))
  online-after st [] k = sym (and_true (online_at nodes st k))
  online-after st (n ∷ ns) k =
      online-after (changed_on (report_of outage) st n) ns k
      ∙ ap (λ (b : Bool). b && not (has_number ns k)) (online-one st n k)
      ∙ both-off (online_at nodes st k) (same_node n k) (has_number ns k)
      ∙ ap (λ (b : Bool). online_at nodes st k && not (b || has_number ns k)) (test-sym n.value k.value)

-- ---- the codes of the stripes

narrow-on : (outage : Outage) (st : State) (n : NodeNo) → (changed_on (report_of outage) st n).narrow ≡ st.narrow
narrow-on Stop st n = refl
narrow-on Lose st n = refl

narrow-after : (outage : Outage) (st : State) (ns : List NodeNo) → (state_with outage st ns).narrow ≡ st.narrow
narrow-after outage st [] = refl
narrow-after outage st (n ∷ ns) = narrow-after outage (changed_on (report_of outage) st n) ns ∙ narrow-on outage st n

-- each stripe keeps its code
pub code-after : (outage : Outage) (st : State) (ns : List NodeNo) (s : StripeNo) → code_of (state_with outage st ns) s ≡ code_of st s
code-after outage st ns s = ap (λ (narrow : List StripeNo). code_of (record st { narrow = narrow }) s) (narrow-after outage st ns)

-- ---- the homes

-- a node that stops keeps its homes
pub homes-stopped : (st : State) (ns : List NodeNo) → (state_with Stop st ns).homes ≡ st.homes
homes-stopped st [] = refl
homes-stopped st (n ∷ ns) = homes-stopped (changed_on (report_of Stop) st n) ns

-- what a search finds in a filtered list, where it can find one element only
module _ {X : Type 0} (test keep : X → Bool) where
  kept-by : Option X → Option X
  kept-by None = None
  kept-by (Some x) = if keep x then Some x else None

  none-left : (xs : List X) → All (λ x. test x ≡ false) xs → find test (filter keep xs) ≡ None
  none-left [] none = refl
  none-left (x ∷ xs) none =
      let rest = none-left xs (All-tail (λ y. test y ≡ false) x xs none) in
      elim (cases_Bool (keep x)) [
        | inl stays ↦ rw (stays, All-head (λ y. test y ≡ false) x xs none) rest
        | inr goes ↦ rw goes rest
      ]

  find-filter : (xs : List X) → AllPairs (λ x y. test x ≡ true → test y ≡ false) xs → find test (filter keep xs) ≡ kept-by (find test xs)
  unfolding kept-by
  find-filter [] single = refl
  find-filter (x ∷ xs) single =
      let rest = find-filter xs (AllPairs-tail (λ x y. test x ≡ true → test y ≡ false) x xs single) in
      let later = AllPairs-head (λ x y. test x ≡ true → test y ≡ false) x xs single in
      elim (cases_Bool (test x)) [
        | inl hit ↦ elim (cases_Bool (keep x)) [
          | inl stays ↦ rw (stays, hit, stays) refl
          | inr goes ↦ rw (goes, hit, goes) (none-left xs (all-off xs later hit))
        ]
        | inr miss ↦ elim (cases_Bool (keep x)) [
          | inl stays ↦ rw (stays, miss) rest
          | inr goes ↦ rw (goes, miss) rest
        ]
      ]
    where
      all-off : (ys : List X) → All (λ y. test x ≡ true → test y ≡ false) ys → test x ≡ true → All (λ y. test y ≡ false) ys
      all-off ys all hit = All-weaker (λ y. test x ≡ true → test y ≡ false) (λ y. test y ≡ false) (λ y off. off hit) ys all

-- the home of a fragment after these nodes are lost
abbrev pub spared : List NodeNo → Option Seat → Option Seat
spared ns None = None
spared ns (Some seat) = if has_number ns seat.node then None else Some seat

-- the home of a fragment after one node is lost
abbrev pub if_spared : NodeNo → Option Seat → Option Seat
if_spared n None = None
if_spared n (Some seat) = if same_node n seat.node then None else Some seat

pub single-of : (s : StripeNo) (f : ℕ) (homes : List Held) → AllPairs (λ h g. h.stripe ≡ g.stripe → h.fragment ≢ g.fragment) homes
    → AllPairs (λ h g. is_of s f h ≡ true → is_of s f g ≡ false) homes
single-of s f homes single i j d below within = apart (get_or homes i d) (get_or homes j d) (single i j d below within) where
  apart : (h g : Held) → (h.stripe ≡ g.stripe → h.fragment ≢ g.fragment) → is_of s f h ≡ true → is_of s f g ≡ false
  apart h g other hit = false_from_ne_true (is_of s f g) (λ more.
      let one = and_parts (eqb h.stripe.value s.value) (eqb h.fragment.value f) hit in
      let two = and_parts (eqb g.stripe.value s.value) (eqb g.fragment.value f) more in
      other (equal_stripes h.stripe g.stripe (eqb-true _ _ one.0 ∙ sym (eqb-true _ _ two.0)))
      (equal_fragments h.fragment g.fragment (eqb-true _ _ one.1 ∙ sym (eqb-true _ _ two.1))))

pub homes-one : (st : State) (n : NodeNo) (s : StripeNo) (f : ℕ) → HaveOneHome st
    → homes_of (emptied st n).homes s f ≡ if_spared n (homes_of st.homes s f)
unfolding kept-by
homes-one st n s f single =
    ap seat_in (find-filter (is_of s f) (λ h. not (stands_on n h)) st.homes (single-of s f st.homes single)) ∙ by (home_of st.homes s f)
  where
    by : (o : Option Held) → seat_in (kept-by (is_of s f) (λ h. not (stands_on n h)) o) ≡ if_spared n (seat_in o)
    by None = refl
    by (Some h) = elim (cases_Bool (same_node n h.seat.node)) [
      | inl on ↦ rw on refl
      | inr off ↦ rw off refl
    ]

-- each fragment still has one home at most
pub homes-kept : (st : State) (n : NodeNo) → HaveOneHome st → HaveOneHome (changed_on (report_of Lose) st n)
homes-kept st n single = AllPairs-filter (λ h g. h.stripe ≡ g.stripe → h.fragment ≢ g.fragment) (λ h. not (stands_on n h)) st.homes single

-- a node that is lost takes its homes along
pub homes-lost : (st : State) (ns : List NodeNo) (s : StripeNo) (f : ℕ) → HaveOneHome st → homes_of (state_with Lose st ns).homes s f ≡ spared ns (homes_of st.homes s f)
homes-lost st [] s f single = by (homes_of st.homes s f) where
  by : (o : Option Seat) → o ≡ spared [] o
  by None = refl
  by (Some seat) = refl
homes-lost st (n ∷ ns) s f single =
    homes-lost (changed_on (report_of Lose) st n) ns s f (homes-kept st n single)
    ∙ ap (spared ns) (homes-one st n s f single) ∙ by (homes_of st.homes s f)
  where
    by : (o : Option Seat) → spared ns (if_spared n o) ≡ spared (n ∷ ns) o
    by None = refl
    by (Some seat) = elim (cases_Bool (same_node n seat.node)) [
      | inl on ↦ rw (on, sym (test-sym n.value seat.node.value) ∙ on) refl
      | inr off ↦ rw (off, sym (test-sym n.value seat.node.value) ∙ off) refl
    ]

-- ---- the missing and the homeless fragments

missing-by : (own online hit : Bool) → (own && not (online && not hit)) ≡ ((own && not online) || (own && hit))
missing-by true true true = refl
missing-by true true false = refl
missing-by true false hit = refl
missing-by false online hit = refl

own-only : (own : Bool) → (own && true) ≡ ((own && true) || (own && false))
own-only true = refl
own-only false = refl

own-hit : (own online : Bool) → (own && true) ≡ ((own && not online) || (own && true))
own-hit true true = refl
own-hit true false = refl
own-hit false online = refl

none-hit : (own : Bool) → (own && false) ≡ ((own && false) || (own && false))
none-hit true = refl
none-hit false = refl

own-lost : (own : Bool) → (own && true) ≡ ((own && false) || (own && true))
own-lost true = refl
own-lost false = refl

module _ (nodes : List NodeInfo) (st : State) (ns : List NodeNo) (s : StripeNo) (f : ℕ) where
  -- a fragment is missing with these nodes online and these homes
  abbrev lacks : (NodeNo → Bool) → Option Seat → Bool
  lacks online home = has_fragment (code_of st s) f && option_map_or (λ seat. not (online seat.node)) home true

  abbrev now : NodeNo → Bool
  now = online_at nodes st

  abbrev left_online : NodeNo → Bool
  left_online k = online_at nodes st k && not (has_number ns k)

  stopped : (o : Option Seat) → lacks left_online o ≡ (lacks now o || (has_fragment (code_of st s) f && is_on_any ns o))
  stopped None = own-only (has_fragment (code_of st s) f)
  stopped (Some seat) = missing-by (has_fragment (code_of st s) f) (now seat.node) (has_number ns seat.node)

  lost : (o : Option Seat) → lacks left_online (spared ns o) ≡ (lacks now o || (has_fragment (code_of st s) f && is_on_any ns o))
  lost None = own-only (has_fragment (code_of st s) f)
  lost (Some seat) = elim (cases_Bool (has_number ns seat.node)) [
    | inl on ↦ rw on (own-hit (has_fragment (code_of st s) f) (now seat.node))
    | inr off ↦
        rw off (missing-by (has_fragment (code_of st s) f) (now seat.node) (has_number ns seat.node)
        ∙ ap (λ (b : Bool). lacks now (Some seat) || (has_fragment (code_of st s) f && b)) off)
  ]

  bare : (o : Option Seat) → (has_fragment (code_of st s) f && is_none (spared ns o)) ≡ ((has_fragment (code_of st s) f && is_none o) || (has_fragment (code_of st s) f && is_on_any ns o))
  bare None = own-only (has_fragment (code_of st s) f)
  bare (Some seat) = elim (cases_Bool (has_number ns seat.node)) [
    | inl on ↦ rw on (own-lost (has_fragment (code_of st s) f))
    | inr off ↦ rw off (none-hit (has_fragment (code_of st s) f))
  ]

  -- with the codes as before, and the nodes online that are told
  told : (after : State) → code_of after s ≡ code_of st s → ((k : NodeNo) → online_at nodes after k ≡ left_online k)
      → missing nodes after s f ≡ lacks left_online (homes_of after.homes s f)
  told after code online =
      ap (λ c. has_fragment c f && option_map_or (λ seat. not (online_at nodes after seat.node)) (homes_of after.homes s f) true) code ∙ by (homes_of after.homes s f)
    where
      by : (o : Option Seat) → lacks (online_at nodes after) o ≡ lacks left_online o
      by None = refl
      by (Some seat) = ap (λ (b : Bool). has_fragment (code_of st s) f && not b) (online seat.node)

  pub missing-stopped : missing nodes (state_with Stop st ns) s f ≡ (missing nodes st s f || hit_in st ns s f)
  missing-stopped =
      told (state_with Stop st ns) (code-after Stop st ns s) (online-after nodes Stop st ns)
      ∙ ap (λ (homes : List Held). lacks left_online (homes_of homes s f)) (homes-stopped st ns) ∙ stopped (homes_of st.homes s f)

  -- the fragments that are missing after the outages: those that were, and those that are hit
  pub missing-after : (outage : Outage) → HaveOneHome st → missing nodes (state_with outage st ns) s f ≡ (missing nodes st s f || hit_in st ns s f)
  missing-after Stop single = missing-stopped
  missing-after Lose single =
      told (state_with Lose st ns) (code-after Lose st ns s) (online-after nodes Lose st ns)
      ∙ ap (lacks left_online) (homes-lost st ns s f single) ∙ lost (homes_of st.homes s f)

  -- the fragments without a home after nodes stopped, and after nodes are lost
  pub homeless-stopped : homeless (state_with Stop st ns) s f ≡ homeless st s f
  homeless-stopped =
      ap (λ c. has_fragment c f && is_none (homes_of (state_with Stop st ns).homes s f)) (code-after Stop st ns s)
      ∙ ap (λ (homes : List Held). has_fragment (code_of st s) f && is_none (homes_of homes s f)) (homes-stopped st ns)

  pub homeless-lost : HaveOneHome st → homeless (state_with Lose st ns) s f ≡ (homeless st s f || hit_in st ns s f)
  homeless-lost single =
      ap (λ c. has_fragment c f && is_none (homes_of (state_with Lose st ns).homes s f)) (code-after Lose st ns s)
      ∙ ap (λ (o : Option Seat). has_fragment (code_of st s) f && is_none o) (homes-lost st ns s f single) ∙ bare (homes_of st.homes s f)
