-- The homes of a stripe that was placed, and of all other stripes.
use Rattle.std.proofs.Common.{[], ◌≡◌, ◌≢◌, ◌≤◌, ℕ, zero, suc, ◌+◌, zero-add, Bool, true, false, ◌&&◌, ◌||◌, nat_eq, nat_le, if◌then◌else◌, List, ◌∷◌, ◌++◌, map, length, drop, replicate, get_or, Option, Some, None, Result, Ok, Err, refl, sym, ap, ap₂, ◌∙◌, subst, arith}
use Rattle.std.specs.List.{All, AllPairs, list_all, slice_get}
use Rattle.std.specs.Option.{option_or}
use Rattle.std.specs.Bool.{⊤}
use Rattle.std.proofs.lemmas.Bool.{eq-eqb, ne_eqb, and_parts, leb-true}
use Rattle.std.proofs.lemmas.List.Elements.{All-nil, All-cons, All-head, All-tail, All-weaker, Contains-push}
use Rattle.std.proofs.lemmas.List.{map-append}
use Rattle.std.proofs.lemmas.Option.{slice_get_past}
use Rattle.std.proofs.lemmas.List.Folds.{find-append, list_any-append}
use Rattle.lrc_code.specs.declared.codes.Code.{Code}
use Rattle.lrc_code.specs.declared.codes.Code.TheVariants.{Wide, Narrow}
use Rattle.lrc_code.specs.declared.numbers.StripeNo.{StripeNo}
use Rattle.lrc_code.specs.declared.numbers.Fragment.{Fragment}
use Rattle.lrc_code.specs.Numbers.{same_stripe}
use Rattle.lrc_code.specs.Codes.{fragments, all_fragments}
use Rattle.lrc_code.proofs.NumbersLemmas.{equal_stripes, equal_fragments}
use Rattle.lrc_topology.specs.declared.NodeInfo.{NodeInfo}
use Rattle.lrc_topology.specs.declared.seat.Seat.{Seat}
use Rattle.lrc_topology.specs.declared.seat.Held.{Held}
use Rattle.lrc_terms.specs.Levels.{home_of, homes_of}
use Rattle.lrc_rules.specs.declared.reply.Reply.TheVariants.{Placed, Placed6}
use Rattle.lrc_rules.specs.States.{State, has_stripe, homes_shown}
use Rattle.lrc_rules.specs.Placement.{placed}
use Rattle.lrc_rules.specs.Goodness.{AreSeated}
use Rattle.lrc_rules.specs.Steps.{with_stripe, placed_reply, place_answer, place_outcome}
use Rattle.lrc_rules.specs.Changes.{held_at, with_placed}
use Rattle.lrc_rules.proofs.MemberLemmas.{list_any-member, AllPairs-head, AllPairs-tail}
use Rattle.lrc_rules.proofs.SeatingLemmas.{fragments-distinct}
use Rattle.lrc_rules.proofs.OutcomeLemmas.{either-way}
use Rattle.lrc_rules.proofs.StepLemmas.{placed-grown, place-left}
use Rattle.lrc_rules.proofs.ToldLemmas.{place-told}
use Rattle.lrc_rules.proofs.LawLemmas.{chosen-length}
use Rattle.lrc_rules.proofs.LookUpLemmas.{no_home, seat_in}
use Rattle.lrc_rules.specs.declared.refusal.Refusal.TheVariants as refusal

-- ---- the homes that Place adds

map-agree : {X Y : Type 0} (v w : X → Y) (xs : List X) → All (λ x. v x ≡ w x) xs → map v xs ≡ map w xs
map-agree v w [] all = refl
map-agree {X} {Y} v w (x ∷ xs) all =
    ap₂ (λ (y : Y) (ys : List Y). y ∷ ys) (All-head (λ x. v x ≡ w x) x xs all) (map-agree v w xs (All-tail (λ x. v x ≡ w x) x xs all))

-- another fragment's home is skipped
passed-over : (s : StripeNo) (f g : Fragment) (seat : Seat) (homes : List Held) → f ≢ g
    → homes_of (record { stripe = s; fragment = f; seat = seat } ∷ homes) s g.value ≡ homes_of homes s g.value
passed-over s f g seat homes other = rw (eq-eqb s.value s.value refl, ne_eqb f.value g.value (λ same. other (equal_fragments f g same))) refl

added-homes : (s : StripeNo) (fs : List Fragment) (seats : List Seat) → AllPairs (λ f g. f ≢ g) fs → length seats ≡ length fs
    → map (λ (f : Fragment). homes_of (held_at s fs seats) s f.value) fs ≡ map (λ (seat : Seat). Some seat) seats
added-homes s [] [] distinct e = refl
added-homes s [] (x ∷ xs) distinct e = absurd (omega (arith, e))
added-homes s (f ∷ fs) [] distinct e = absurd (omega (arith, e))
added-homes s (f ∷ fs) (x ∷ xs) distinct e =
    let more : length xs ≡ length fs = omega (arith, e) in
    let later = held_at s fs xs in
    let own : homes_of (record { stripe = s; fragment = f; seat = x } ∷ later) s f.value ≡ Some x = rw
    (eq-eqb s.value s.value refl, eq-eqb f.value f.value refl) refl in
    let rest = map-agree (λ (g : Fragment). homes_of (record { stripe = s; fragment = f; seat = x } ∷ later) s g.value)
    (λ (g : Fragment). homes_of later s g.value) fs
    (All-weaker (λ g. f ≢ g) _ (λ g other. passed-over s f g x later other) fs (AllPairs-head (λ f g. f ≢ g) f fs distinct)) in
    ap₂ (λ (o : Option Seat) (os : List (Option Seat)). o ∷ os) own (rest ∙ added-homes s fs xs (AllPairs-tail (λ f g. f ≢ g) f fs distinct) more)

-- none of them is of another stripe
pub none-added : (s r : StripeNo) (fs : List Fragment) (seats : List Seat) (n : ℕ) → r ≢ s → home_of (held_at s fs seats) r n ≡ None
none-added s r [] [] n other = refl
none-added s r [] (x ∷ xs) n other = refl
none-added s r (f ∷ fs) [] n other = refl
none-added s r (f ∷ fs) (x ∷ xs) n other = rw (ne_eqb s.value r.value (λ same. other (equal_stripes r s (sym same)))) (none-added s r fs xs n other)

pub after-none : (o p : Option Held) → o ≡ None → option_or o p ≡ p
after-none None p none = refl
after-none (Some h) p none = absurd (cc)

pub before-none : (o p : Option Held) → p ≡ None → option_or o p ≡ o
before-none None p none = none
before-none (Some h) p none = refl

pub homes-append : (homes more : List Held) (s : StripeNo) (n : ℕ) → home_of (homes ++ more) s n ≡ option_or (home_of homes s n) (home_of more s n)
homes-append homes more s n = find-append (λ (h : Held). same_stripe h.stripe s && nat_eq h.fragment.value n) homes more

-- ---- homes by fragment number

-- the numbers of the fragments ascend from this one
abbrev AreNumbered : ℕ → List Fragment → Type 0
AreNumbered n [] = ⊤
AreNumbered n (f ∷ fs) = (f.value ≡ n) × AreNumbered (n + 1) fs

-- so the home of a fragment is at the position of its number
pub numbered-homes : (s : StripeNo) (n : ℕ) (fs : List Fragment) (seats : List Seat) (i k : ℕ) → AreNumbered n fs → length seats ≡ length fs → k ≡ n + i
    → homes_of (held_at s fs seats) s k ≡ slice_get seats i
numbered-homes s n [] [] i k numbered e at = refl
numbered-homes s n [] (x ∷ xs) i k numbered e at = absurd (omega (arith, e))
numbered-homes s n (f ∷ fs) [] i k numbered e at = absurd (omega (arith, e))
numbered-homes s n (f ∷ fs) (x ∷ xs) zero k numbered e at =
    let own : f.value ≡ k = let first = numbered.0 in omega (arith, first, at) in
    rw (eq-eqb s.value s.value refl, eq-eqb f.value k own) refl
numbered-homes s n (f ∷ fs) (x ∷ xs) (suc i) k numbered e at =
    let more : length xs ≡ length fs = omega (arith, e) in
    let later : k ≡ n + 1 + i = omega (arith, at) in
    rw (eq-eqb s.value s.value refl, ne_eqb f.value k (λ same. let first = numbered.0 in absurd (omega (arith, first, at, same))))
    (numbered-homes s (n + 1) fs xs i k numbered.1 more later)

pub fragments-numbered : (code : Code) → AreNumbered 0 (fragments code)
fragments-numbered Wide = (refl, (refl, (refl, (refl, (refl, (refl, (refl, (refl, (refl, (refl, (refl, (refl, (refl, (refl, (refl, (refl, tt))))))))))))))))
fragments-numbered Narrow = (refl, (refl, (refl, (refl, (refl, (refl, (refl, (refl, (refl, (refl, tt))))))))))

-- ---- what a read returns

abbrev seats_by : List Held → StripeNo → List (Option Seat)
seats_by homes s = map (λ (f : Fragment). homes_of homes s f.value) all_fragments

abbrev shown : Bool → List (Option Seat) → Option (List (Option Seat))
shown there seats = if there then Some seats else None

-- the seats of a stripe's fragments by the sixteen numbers; none for a number that the code lacks
abbrev pub shown_seats : Code → List Seat → List (Option Seat)
shown_seats Wide seats = map (λ (seat : Seat). Some seat) seats
shown_seats Narrow seats = map (λ (seat : Seat). Some seat) seats ++ replicate 6 None

-- the fragments that the code Narrow lacks
past-ten : (fs : List Fragment) → list_all (λ (f : Fragment). nat_le 10 f.value) fs ≡ true → All (λ f. 10 ≤ f.value) fs
past-ten [] e = All-nil (λ (f : Fragment). 10 ≤ f.value)
past-ten (f ∷ fs) e =
    let parts = and_parts (nat_le 10 f.value) (list_all (λ (g : Fragment). nat_le 10 g.value) fs) e in
    All-cons (λ (g : Fragment). 10 ≤ g.value) f fs (leb-true 10 f.value parts.0) (past-ten fs parts.1)

-- the homes that are added for a stripe are its seats
all-added : (code : Code) (s : StripeNo) (seats : List Seat) → length seats ≡ length (fragments code) → seats_by (held_at s (fragments code) seats) s ≡ shown_seats code seats
all-added Wide s seats all = added-homes s all_fragments seats (fragments-distinct Wide) all
all-added Narrow s seats all =
    let added = held_at s (fragments Narrow) seats in
    let none : (f : Fragment) → 10 ≤ f.value → homes_of added s f.value ≡ None = λ f past.
    numbered-homes s 0 (fragments Narrow) seats f.value f.value (fragments-numbered Narrow) all (sym (zero-add f.value)) ∙ slice_get_past seats f.value (omega (arith, all, past)) in
    map-append (λ (f : Fragment). homes_of added s f.value) (fragments Narrow) (drop 10 all_fragments)
    ∙ ap₂ (λ (xs ys : List (Option Seat)). xs ++ ys) (added-homes s (fragments Narrow) seats (fragments-distinct Narrow) all)
    (map-agree (λ (f : Fragment). homes_of added s f.value) (λ f. None) (drop 10 all_fragments)
    (All-weaker (λ (f : Fragment). 10 ≤ f.value) (λ (f : Fragment). homes_of added s f.value ≡ None) none (drop 10 all_fragments) (past-ten (drop 10 all_fragments) refl)))

module _ (nodes : List NodeInfo) (st : State) (code : Code) (s : StripeNo) where
  placed-homes : (seats : List Seat) → AreSeated nodes st → has_stripe st s ≡ false → length seats ≡ length (fragments code)
      → homes_shown (with_placed st code s seats) s ≡ Some (shown_seats code seats)
  placed-homes seats seated absent all =
      let there : has_stripe (with_placed st code s seats) s ≡ true = list_any-member (same_stripe s) (st.stripes ++ s ∷ []) s
      (Contains-push st.stripes s) (eq-eqb s.value s.value refl) in
      let added = held_at s (fragments code) seats in
      let same : seats_by (st.homes ++ added) s ≡ seats_by added s = map-agree (λ (f : Fragment). homes_of (st.homes ++ added) s f.value)
      (λ (f : Fragment). homes_of added s f.value) all_fragments
      (λ i d within. ap seat_in (homes-append st.homes added s (get_or all_fragments i d).value
      ∙ after-none (home_of st.homes s (get_or all_fragments i d).value) (home_of added s (get_or all_fragments i d).value)
      (no_home nodes st s (get_or all_fragments i d).value seated absent))) in
      ap (λ (b : Bool). shown b (seats_by (st.homes ++ added) s)) there ∙ ap Some
      (same ∙ all-added code s seats all)

  abbrev Shows : StripeNo → State → Type 0
  Shows r next = homes_shown next r ≡ homes_shown st r

  other-homes : (r : StripeNo) (seats : List Seat) → r ≢ s → Shows r (with_placed st code s seats)
  other-homes r seats other =
      let added = held_at s (fragments code) seats in
      let there : has_stripe (with_placed st code s seats) r ≡ has_stripe st r =
      list_any-append (same_stripe r) st.stripes (s ∷ [])
      ∙ rw (ne_eqb r.value s.value (λ same. other (equal_stripes r s same))) (or_none (has_stripe st r)) in
      let same : seats_by (st.homes ++ added) r ≡ seats_by st.homes r = map-agree (λ (f : Fragment). homes_of (st.homes ++ added) r f.value)
      (λ (f : Fragment). homes_of st.homes r f.value) all_fragments
      (λ i d within. ap seat_in (homes-append st.homes added r (get_or all_fragments i d).value
      ∙ before-none (home_of st.homes r (get_or all_fragments i d).value) (home_of added r (get_or all_fragments i d).value)
      (none-added s r (fragments code) seats (get_or all_fragments i d).value other))) in
      ap (λ (b : Bool). shown b (seats_by (st.homes ++ added) r)) there ∙ ap (shown (has_stripe st r)) same
    where
      or_none : (b : Bool) → (b || false) ≡ b
      or_none true = refl
      or_none false = refl

  shows-by : (r : StripeNo) (p : Result State Fragment) → placed nodes (with_stripe st code s) s ≡ p → r ≢ s → Shows r (place_answer st code p).1
  shows-by r (Err f) is other = refl
  shows-by r (Ok done) is other = let g = placed-grown nodes st code s done is in subst (Shows r) (sym g.is) (other-homes r g.seats other)

  -- every other stripe keeps its homes
  pub place-others : (r : StripeNo) → r ≢ s → Shows r (place_outcome nodes st code s).1
  unfolding place_outcome
  place-others r other =
      either-way (Shows r) (has_stripe st s) refusal.StripeExists st _ refl (λ absent. shows-by r (placed nodes (with_stripe st code s) s) refl other)

  -- the seats in the reply are the homes
  pub place-homes : (seats : List Seat) → AreSeated nodes st → (place_outcome nodes st code s).0 ≡ placed_reply code seats
      → homes_shown (place_outcome nodes st code s).1 s ≡ Some (shown_seats code seats)
  place-homes seats seated told =
      let parts = place-told nodes st code s seats told in
      ap (λ (next : State). homes_shown next s) (place-left nodes st code s seats told)
      ∙ placed-homes seats seated parts.absent (chosen-length nodes (with_stripe st code s) s (fragments code) seats parts.chosen_are)

module _ (nodes : List NodeInfo) (st : State) (s : StripeNo) (seats : List Seat) (seated : AreSeated nodes st) where
  -- the same for each code, in words
  pub told-wide : (place_outcome nodes st Wide s).0 ≡ Placed seats
      → homes_shown (place_outcome nodes st Wide s).1 s ≡ Some (map (λ (seat : Seat). Some seat) seats)
  told-wide told = place-homes nodes st Wide s seats seated told

  pub told-narrow : (place_outcome nodes st Narrow s).0 ≡ Placed6 seats
      → homes_shown (place_outcome nodes st Narrow s).1 s ≡ Some (map (λ (seat : Seat). Some seat) seats ++ replicate 6 None)
  told-narrow told = place-homes nodes st Narrow s seats seated told

-- ---- the homes of a stripe that was placed
