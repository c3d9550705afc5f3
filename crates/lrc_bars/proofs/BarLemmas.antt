-- The domains that are barred for a fragment, filled seat by seat.
use Rattle.std.proofs.Common.{[], ◌≡◌, ◌≢◌, ℕ, ◌<◌, Bool, true, false, eqb, ◌&&◌, ◌||◌, Option, Some, None, option_and_then, ◌↔◌, inl, inr, List, ◌∷◌, ◌++◌, map, length, take, get_or, refl, sym, ap, ap₂, ◌∙◌}
use Rattle.std.proofs.Math.Path.{fun_ext}
use Rattle.std.specs.List.{All, Contains, list_any}
use Rattle.std.proofs.lemmas.Bool.{eq-eqb, ne_eqb, cases_Bool, and_parts, false_from_ne_true}
use Rattle.std.proofs.lemmas.List.Elements.{All-nil, All-cons, All-head, All-tail, All-weaker, All-contains, Contains-append_left, Contains-append_right, Contains-append_cases}
use Rattle.std.proofs.lemmas.List.Folds.{list_any-append}
use Rattle.lrc_code.specs.declared.codes.Code.{Code}
use Rattle.lrc_code.specs.declared.numbers.StripeNo.{StripeNo}
use Rattle.lrc_code.specs.declared.numbers.FaultNo.{FaultNo}
use Rattle.lrc_code.specs.declared.numbers.UpgradeNo.{UpgradeNo}
use Rattle.lrc_code.specs.declared.numbers.Fragment.{Fragment}
use Rattle.lrc_code.specs.Codes.{fragments, share_class}
use Rattle.lrc_code.specs.Numbers.{same_fault, same_upgrade}
use Rattle.lrc_topology.specs.Nodes.{node_at}
use Rattle.lrc_code.proofs.NumbersLemmas.{equal_fragments}
use Rattle.lrc_topology.specs.declared.NodeInfo.{NodeInfo}
use Rattle.lrc_topology.specs.declared.seat.Seat.{Seat}
use Rattle.lrc_topology.specs.declared.seat.Held.{Held}
use Rattle.lrc_slots.specs.Barred.{Barred, with_fault, with_upgrade}
use Rattle.lrc_rules.specs.States.{State, has_stripe, held_by, seats_of}
use Rattle.lrc_rules.specs.Changes.{held_at}
use Rattle.lrc_rules.specs.Goodness.{AreSeated}
use Rattle.lrc_bars.specs.Ties.{with_homes, bars_fault, bars_upgrade, bars_in, with_held, with_seat}
use Rattle.lrc_rules.specs.Placement.{is_beside}
use Rattle.lrc_rules.proofs.MemberLemmas.{list_any-member, member-list_any}
use Rattle.lrc_rules.proofs.ChoiceLemmas.{same_stripe}
use Rattle.lrc_rules.proofs.SeatingLemmas.{fragments-distinct}
use Rattle.lrc_rules.proofs.SeatedLemmas.{not_there}
use Rattle.lrc_bars.proofs.TableLemmas.{pairs-before}

-- what is barred, with the fault domain of one more node, and its upgrade domain where the classes are one
abbrev with_node : Bool → Barred → NodeInfo → Barred
with_node true b n = with_upgrade (with_fault b n.fault) n.upgrade
with_node false b n = with_fault b n.fault

pub or_none : (b : Bool) → b ≡ (b || false)
or_none true = refl
or_none false = refl

or_nothing : (b c : Bool) → b ≡ (b || (c && false))
or_nothing b true = or_none b
or_nothing b false = or_none b

pub same_bars : (b c : Barred) → ((d : FaultNo) → b.faults d ≡ c.faults d) → ((d : UpgradeNo) → b.upgrades d ≡ c.upgrades d) → b ≡ c
same_bars b c e f = ap₂ (λ g h. record { faults = g; upgrades = h }) (fun_ext e) (fun_ext f)

-- a test of a list with one element more
pub or_last : {X : Type 0} (test : X → Bool) (xs : List X) (h : X) → (list_any test xs || test h) ≡ list_any test (xs ++ h ∷ [])
or_last test xs h = ap (λ b. list_any test xs || b) (or_none (test h)) ∙ sym (list_any-append test xs (h ∷ []))

-- a test that the members of two lists pass alike
any-members : {X : Type 0} (test : X → Bool) (xs ys : List X) → ((x : X) → Contains xs x → test x ≡ true → Contains ys x) → ((y : X) → Contains ys y → test y ≡ true → Contains xs y) → list_any test xs ≡ list_any test ys
any-members test xs ys down up = elim (cases_Bool (list_any test ys)) [
  | inl hit ↦ let m = member-list_any test ys hit in list_any-member test xs m.0 (up m.0 m.1 m.2) m.2 ∙ sym hit
  | inr miss ↦ false_from_ne_true (list_any test xs) (λ hit. (
      let m = member-list_any test xs hit in
      let there = list_any-member test ys m.0 (down m.0 m.1 m.2) m.2 in
      let both : true ≡ false = sym there ∙ miss in cc)) ∙ sym miss
]

-- ---- what one seat bars

pub node-faults : (one : Bool) (b : Barred) (n : NodeInfo) (d : FaultNo) → (with_node one b n).faults d ≡ (b.faults d || same_fault d n.fault)
node-faults true b n d = refl
node-faults false b n d = refl

pub node-upgrades : (one : Bool) (b : Barred) (n : NodeInfo) (d : UpgradeNo)
    → (with_node one b n).upgrades d ≡ (b.upgrades d || (one && same_upgrade d n.upgrade))
node-upgrades true b n d = refl
node-upgrades false b n d = or_none (b.upgrades d)

module _ (nodes : List NodeInfo) (code : Code) (s : StripeNo) (f g : Fragment) (b : Barred) where
  -- a seat of another fragment bars the domains of its node
  pub seat-barred : (o : Option Seat) (n : NodeInfo) → option_and_then (λ (x : Seat). node_at nodes x.node) o ≡ Some n → eqb g.value f.value ≡ false
      → with_node (share_class code f g) b n ≡ with_seat nodes code s f b g o
  seat-barred None n found other = absurd cc
  seat-barred (Some seat) n found other = same_bars (with_node (share_class code f g) b n) (with_seat nodes code s f b g (Some seat))
      (λ d. rw (eq-eqb s.value s.value refl, other, found) (node-faults (share_class code f g) b n d))
      (λ d. rw (eq-eqb s.value s.value refl, other, found) (node-upgrades (share_class code f g) b n d))

  -- and none, where the store has no such node
  pub seat-nowhere : (o : Option Seat) → option_and_then (λ (x : Seat). node_at nodes x.node) o ≡ None → b ≡ with_seat nodes code s f b g o
  seat-nowhere None gone = refl
  seat-nowhere (Some seat) gone = same_bars b (with_seat nodes code s f b g (Some seat))
      (λ d. rw gone (or_nothing (b.faults d) (is_beside s f (record { stripe = s; fragment = g; seat = seat }))))
      (λ d. rw gone (or_nothing (b.upgrades d) (is_beside s f (record { stripe = s; fragment = g; seat = seat }))))

-- ---- what several seats bar

module _ (nodes : List NodeInfo) (code : Code) (s : StripeNo) (f : Fragment) where
  pub bars_in-push : (xs : List Held) (h : Held) → with_held nodes code s f (bars_in nodes code s f xs) h ≡ bars_in nodes code s f (xs ++ h ∷ [])
  bars_in-push xs h = same_bars _ (bars_in nodes code s f (xs ++ h ∷ [])) (λ d. or_last (bars_fault nodes s f d) xs h) (λ d. or_last (bars_upgrade nodes code s f d) xs h)

  -- lists with the same seats of the stripe's other fragments bar the same
  pub bars_in-same : (xs ys : List Held) → ((h : Held) → is_beside s f h ≡ true → Contains xs h ↔ Contains ys h) → bars_in nodes code s f xs ≡ bars_in nodes code s f ys
  bars_in-same xs ys same =
      same_bars (bars_in nodes code s f xs) (bars_in nodes code s f ys)
      (λ d. any-members (bars_fault nodes s f d) xs ys (λ h here hit. (same h (and_parts (is_beside s f h) _ hit).0).0 here) (λ h here hit. (same h (and_parts (is_beside s f h) _ hit).0).1 here))
      (λ d. any-members (bars_upgrade nodes code s f d) xs ys (λ h here hit. (same h (and_parts (is_beside s f h) _ hit).0).0 here) (λ h here hit. (same h (and_parts (is_beside s f h) _ hit).0).1 here))

-- ---- which seats are beside a fragment

-- a stripe that is not there has no seats
pub absent-beside : (nodes : List NodeInfo) (st : State) (s : StripeNo) (f : Fragment) → AreSeated nodes st → has_stripe st s ≡ false → All (λ h. is_beside s f h ≡ false) (seats_of st)
absent-beside nodes st s f seated e =
    All-weaker (λ h. Contains st.stripes h.stripe) (λ h. is_beside s f h ≡ false)
    (λ h there. rw (ne_eqb h.stripe.value s.value (λ same. not_there st s e h.stripe there (same_stripe h.stripe s same))) refl) (seats_of st) seated.there

-- beside a fragment of a stripe that is not there, there are planned homes alone
pub planned-alone : (nodes : List NodeInfo) (st : State) (s : StripeNo) (f : Fragment) (planned : List Held) → AreSeated nodes st → has_stripe st s ≡ false
    → (h : Held) → is_beside s f h ≡ true → Contains planned h ↔ Contains (seats_of (with_homes st planned)) h
planned-alone nodes st s f planned good absent h beside = (
  λ here. Contains-append_left (st.homes ++ planned) (map held_by st.leases) h (Contains-append_right st.homes planned h here),
  λ here. elim (Contains-append_cases (st.homes ++ planned) (map held_by st.leases) h here) [
    | inr target ↦ none (Contains-append_right st.homes (map held_by st.leases) h target)
    | inl home ↦ elim (Contains-append_cases st.homes planned h home) [
      | inr new ↦ new
      | inl old ↦ none (Contains-append_left st.homes (map held_by st.leases) h old)
    ]
  ],
)
  where
    none : Contains (seats_of st) h → Contains planned h
    none old = absurd (
        let apart = All-contains (λ g. is_beside s f g ≡ false) (seats_of st) h (absent-beside nodes st s f good absent) old in
        let both : true ≡ false = sym beside ∙ apart in cc)

-- seats of other fragments
pub held_at-beside : (s : StripeNo) (f : Fragment) (fs : List Fragment) (seats : List Seat) → All (λ g. g ≢ f) fs → All (λ h. is_beside s f h ≡ true) (held_at s fs seats)
held_at-beside s f [] seats other = All-nil (λ h. is_beside s f h ≡ true)
held_at-beside s f (g ∷ gs) [] other = All-nil (λ h. is_beside s f h ≡ true)
held_at-beside s f (g ∷ gs) (a ∷ as') other =
    All-cons (λ h. is_beside s f h ≡ true) (record { stripe = s; fragment = g; seat = a }) (held_at s gs as')
    (rw (eq-eqb s.value s.value refl, ne_eqb g.value f.value (λ same. All-head (λ g. g ≢ f) g gs other (equal_fragments g f same))) refl)
    (held_at-beside s f gs as' (All-tail (λ g. g ≢ f) g gs other))

-- the fragments before one are others
pub earlier-fragments : (code : Code) (i : ℕ) (d : Fragment) → i < length (fragments code) → All (λ g. g ≢ get_or (fragments code) i d) (take i (fragments code))
earlier-fragments code i d within = pairs-before (λ f g. f ≢ g) (fragments code) i d (fragments-distinct code) within
