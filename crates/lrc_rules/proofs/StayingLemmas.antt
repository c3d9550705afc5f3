-- Which homes and which stripes stay after a command.
use Rattle.std.proofs.Common.{[], ◌≡◌, ◌≢◌, ◌&&◌, ◌||◌, inl, inr, Bool, true, not, nat_eq, List, ◌∷◌, ◌++◌, filter, find, Option, Some, None, option_map, refl, sym, ap, ◌∙◌, subst}
use Rattle.std.specs.Option.{option_or}
use Rattle.std.specs.List.{list_any}
use Rattle.std.proofs.lemmas.Bool.{cases_Bool, and_parts, eqb-true, ne_eqb}
use Rattle.std.proofs.lemmas.Option.{same_Some}
use Rattle.std.proofs.lemmas.List.Folds.{list_any-append}
use Rattle.lrc_code.specs.declared.codes.Code.{Code}
use Rattle.lrc_code.specs.declared.codes.Code.TheVariants.{Wide, Narrow}
use Rattle.lrc_code.specs.declared.numbers.StripeNo.{StripeNo}
use Rattle.lrc_code.specs.declared.numbers.NodeNo.{NodeNo}
use Rattle.lrc_code.specs.declared.numbers.SessionNo.{SessionNo}
use Rattle.lrc_code.specs.declared.numbers.Fragment.{Fragment}
use Rattle.lrc_code.specs.Numbers.{same_stripe}
use Rattle.lrc_code.specs.Codes.{fragments, all_fragments}
use Rattle.lrc_code.proofs.NumbersLemmas.{equal_stripes, equal_nodes}
use Rattle.lrc_topology.specs.declared.NodeInfo.{NodeInfo}
use Rattle.lrc_topology.specs.declared.seat.Seat.{Seat}
use Rattle.lrc_topology.specs.declared.seat.Held.{Held}
use Rattle.lrc_terms.specs.Levels.{home_of, homes_of}
use Rattle.lrc_terms.specs.declared.lease.Lease.{Lease as LeaseRecord}
use Rattle.lrc_rules.specs.declared.command.Command.{Command}
use Rattle.lrc_rules.specs.declared.command.Command.TheVariants.{Place, Place6, Drop, Done, Fail}
use Rattle.lrc_rules.specs.declared.reply.Reply.{Reply}
use Rattle.lrc_rules.specs.declared.reply.Reply.TheVariants.{Placed, Placed6, Dropped, Idle, Ended, Changed}
use Rattle.lrc_rules.specs.declared.entry.Entry.{Entry}
use Rattle.lrc_rules.specs.States.{State, has_stripe, lease_of}
use Rattle.lrc_rules.specs.Steps.{with_stripe, is_other, stands_on, step}
use Rattle.lrc_rules.specs.Changes.{held_at, with_done, changed_by}
use Rattle.lrc_rules.specs.Endings.{CanMove, IsDropOf}
use Rattle.lrc_rules.proofs.StepLemmas.{step-changed}
use Rattle.lrc_rules.proofs.EndingLemmas.{find-filter}
use Rattle.lrc_rules.proofs.MovedLemmas.{done-homes}
use Rattle.lrc_rules.proofs.PlacedHomesLemmas.{homes-append}

-- ---- homes

module _ (st : State) (s : StripeNo) (f : Fragment) (seat : Seat) (own : homes_of st.homes s f.value ≡ Some seat) where
  abbrev Stays : State → Type 0
  Stays next = homes_of next.homes s f.value ≡ Some seat

  abbrev is_own : Held → Bool
  is_own h = same_stripe h.stripe s && nat_eq h.fragment.value f.value

  some-home : (o : Option Held) → option_map (λ (h : Held). h.seat) o ≡ Some seat → (h : Held) × (o ≡ Some h) × (h.seat ≡ seat)
  some-home None e = absurd (cc)
  some-home (Some h) e = (h, refl, same_Some h.seat seat e)

  home : (h : Held) × (home_of st.homes s f.value ≡ Some h) × (h.seat ≡ seat)
  home = some-home (home_of st.homes s f.value) own

  found-own : (homes : List Held) (h : Held) → find is_own homes ≡ Some h → is_own h ≡ true
  found-own [] h e = absurd (cc)
  found-own (g ∷ gs) h e = elim (cases_Bool (is_own g)) [
    | inl hit ↦ let same : Some g ≡ Some h = rw hit at e in subst (λ (x : Held). is_own x ≡ true) (same_Some g h same) hit
    | inr miss ↦ let later : find is_own gs ≡ Some h = rw miss at e in found-own gs h later
  ]

  of-stripe : home.0.stripe ≡ s
  of-stripe = equal_stripes home.0.stripe s (eqb-true _ _ (and_parts _ _ (found-own st.homes home.0 home.1)).0)

  filtered : (keep : Held → Bool) → keep home.0 ≡ true → homes_of (filter keep st.homes) s f.value ≡ Some seat
  filtered keep stays =
      ap (λ (o : Option Held). option_map (λ (h : Held). h.seat) o) (find-filter is_own keep st.homes home.0 home.1 stays)
      ∙ ap (λ (x : Seat). Some x) home.2

  either-first : (o p : Option Held) (h : Held) → o ≡ Some h → option_or o p ≡ Some h
  either-first None p h e = absurd (cc)
  either-first (Some g) p h e = e

  grown-home : (more : List Held) → homes_of (st.homes ++ more) s f.value ≡ Some seat
  grown-home more =
      ap (λ (o : Option Held). option_map (λ (h : Held). h.seat) o)
      (homes-append st.homes more s f.value ∙ either-first (home_of st.homes s f.value) (home_of more s f.value) home.0 home.1)
      ∙ ap (λ (x : Seat). Some x) home.2

  other-stripe : (r : StripeNo) → s ≢ r → is_other r home.0.stripe ≡ true
  other-stripe r other =
      ap not (ne_eqb r.value home.0.stripe.value (λ same. other (sym of-stripe ∙ sym (equal_stripes r home.0.stripe same))))

  other-node : (n : NodeNo) → seat.node ≢ n → not (stands_on n home.0) ≡ true
  other-node n other =
      ap not (ne_eqb n.value home.0.seat.node.value
      (λ same. other (ap (λ (x : Seat). x.node) (sym home.2) ∙ sym (equal_nodes n home.0.seat.node same))))

  changed-home : (nodes : List NodeInfo) (c : Command) (r : Reply) → ¬ (CanMove s f seat c) → Stays (changed_by st c r)
  changed-home nodes (Place r) (Placed seats) other = grown-home (held_at r all_fragments seats)
  changed-home nodes (Place6 r) (Placed6 seats) other = grown-home (held_at r (fragments Narrow) seats)
  changed-home nodes (Drop r) Dropped other = filtered (λ (h : Held). is_other r h.stripe) (other-stripe r other)
  changed-home nodes (Done r g e) Ended other = done-homes st r s g f (λ stripe fragment. other (stripe, fragment)) (lease_of st r g) ∙ own
  changed-home nodes (Fail n) Changed other = filtered (λ (h : Held). not (stands_on n h)) (other-node n other)
  changed-home nodes _ Idle other = own
  changed-home nodes _ _ other = own

  -- a home stays after each command that cannot remove it
  pub home-stays-by : (nodes : List NodeInfo) (past : List Entry) (session : SessionNo) (c : Command) → ¬ (CanMove s f seat c) → Stays (step nodes past st session c).1
  home-stays-by nodes past session c other =
      subst Stays (sym (step-changed nodes past st session c)) (changed-home nodes c (step nodes past st session c).0 other)

-- ---- stripes

list_any-filter : {X : Type 0} (p keep : X → Bool) (xs : List X) → ((x : X) → p x ≡ true → keep x ≡ true) → list_any p xs ≡ true
    → list_any p (filter keep xs) ≡ true
list_any-filter p keep [] all e = e
list_any-filter {X} p keep (y ∷ ys) all e = elim (cases_Bool (p y)) [
  | inl hit ↦ rw (all y hit) (rw hit refl)
  | inr miss ↦
      let later : list_any p ys ≡ true = rw miss at e in
      elim (cases_Bool (keep y)) [
        | inl stays ↦ rw stays (rw miss (list_any-filter p keep ys all later))
        | inr goes ↦ rw goes (list_any-filter p keep ys all later)
      ]
]

module _ (st : State) (s : StripeNo) (there : has_stripe st s ≡ true) where
  abbrev IsThere : State → Type 0
  IsThere next = has_stripe next s ≡ true

  grown-stripe : (code : Code) (r : StripeNo) → IsThere (with_stripe st code r)
  grown-stripe code r = list_any-append (same_stripe s) st.stripes (r ∷ []) ∙ ap (λ (b : Bool). b || list_any (same_stripe s) (r ∷ [])) there

  apart : (r t : StripeNo) → s ≢ r → same_stripe s t ≡ true → is_other r t ≡ true
  apart r t other own =
      ap not (ne_eqb r.value t.value (λ same. other (equal_stripes s r (eqb-true _ _ own ∙ sym same))))

  done-there : (r : StripeNo) (g : Fragment) (o : Option LeaseRecord) → IsThere (with_done st r g o)
  done-there r g None = there
  done-there r g (Some l) = there

  changed-there : (c : Command) (r : Reply) → ¬ (IsDropOf s c) → IsThere (changed_by st c r)
  changed-there (Place r) (Placed seats) other = grown-stripe Wide r
  changed-there (Place6 r) (Placed6 seats) other = grown-stripe Narrow r
  changed-there (Drop r) Dropped other = list_any-filter (same_stripe s) (is_other r) st.stripes (λ t own. apart r t other own) there
  changed-there (Done r g e) Ended other = done-there r g (lease_of st r g)
  changed-there _ Idle other = there
  changed-there _ _ other = there

  -- a stripe stays after each command except its Drop
  pub stripe-stays-by : (nodes : List NodeInfo) (past : List Entry) (session : SessionNo) (c : Command) → ¬ (IsDropOf s c) → IsThere (step nodes past st session c).1
  stripe-stays-by nodes past session c other =
      subst IsThere (sym (step-changed nodes past st session c)) (changed-there c (step nodes past st session c).0 other)
