-- The seats of a stripe planned one after the other.
use Rattle.std.proofs.Common.{[], ◌++◌, ◌∷◌, inl, inr, ◌≡◌, ◌≢◌, false, ℕ, ◌+◌, ◌<◌, ◌≤◌, true, List, length, get_or, set, take, drop, Option, Some, None, IsSome, arith, refl, subst, sym, ap, ap₂, ◌∙◌, append_assoc, append-nil, length-take}
use Rattle.std.specs.List.{All}
use Rattle.std.proofs.lemmas.List.{drop_all, drop_more, take_more, take_more_set}
use Rattle.lrc_code.specs.declared.codes.Class.{Class}
use Rattle.lrc_code.specs.declared.codes.Code.{Code}
use Rattle.lrc_code.specs.declared.codes.Code.TheVariants.{Wide, Narrow}
use Rattle.lrc_code.specs.declared.numbers.StripeNo.{StripeNo}
use Rattle.lrc_code.specs.declared.numbers.Fragment.{Fragment}
use Rattle.lrc_code.specs.Codes.{fragments, fragment_count, class_of, all_fragments}
use Rattle.lrc_code.proofs.CodesLemmas.{known-class}
use Rattle.lrc_topology.specs.declared.NodeInfo.{NodeInfo}
use Rattle.lrc_topology.specs.declared.seat.Seat.{Seat}
use Rattle.lrc_topology.specs.declared.seat.Held.{Held}
use Rattle.lrc_terms.proofs.CodeListLemmas.{fragment-number_in, fragments-long}
use Rattle.lrc_rules.specs.Steps.{with_stripe}
use Rattle.lrc_rules.specs.Choices.{AreChosen, IsFirstWithout}
use Rattle.lrc_rules.specs.States.{State, has_stripe}
use Rattle.lrc_rules.specs.Placement.{chosen, with_home, is_beside}
use Rattle.lrc_rules.specs.Changes.{held_at}
use Rattle.lrc_bars.specs.Ties.{with_homes}
use Rattle.lrc_bars.specs.Planning.{AreBarsOf}
use Rattle.lrc_bars.specs.declared.class_bars.ClassBars.{ClassBars}
use Rattle.lrc_store.specs.declared.store.Store.{Store}
use Rattle.lrc_store.specs.Stores.{IsOf}
use Rattle.lrc_store.proofs.ListLemmas.{held_at-push}
use Rattle.lrc_bars.proofs.BarLemmas.{held_at-beside, earlier-fragments}

-- ---- chosen one after the other

module _ (nodes : List NodeInfo) (s : StripeNo) (fs : List Fragment) (i : ℕ) (d : Fragment) (within : i < length fs) (planned : List Held)
    (begun : State) where
  abbrev now : State
  now = with_homes begun planned

  -- the first fragment that finds no seat
  pub chosen-none : None ≡ chosen nodes now s (get_or fs i d) → ((g : Fragment) → IsFirstWithout nodes now s (drop i fs) g → IsFirstWithout nodes begun s fs g) → IsFirstWithout nodes begun s fs (get_or fs i d)
  chosen-none none so_far = so_far (get_or fs i d) (subst (λ gs. IsFirstWithout nodes now s gs (get_or fs i d)) (sym (drop_more fs i d within)) (inl (sym none, refl)))

  module _ (seat : Seat) (some : Some seat ≡ chosen nodes now s (get_or fs i d)) where
    abbrev home : Held
    home = record { stripe = s; fragment = get_or fs i d; seat = seat }

    next-is : with_home now s (get_or fs i d) seat ≡ with_homes begun (planned ++ home ∷ [])
    next-is = ap (λ hs. record begun { homes = hs }) (append_assoc begun.homes planned (home ∷ []))

    -- one more fragment finds one
    pub chosen-more : (seats : List Seat) → i < length seats → ((rest : List Seat) → AreChosen nodes now s (drop i fs) rest → AreChosen nodes begun s fs (take i seats ++ rest))
        → (rest : List Seat) → AreChosen nodes (with_homes begun (planned ++ home ∷ [])) s (drop (i + 1) fs) rest
        → AreChosen nodes begun s fs (take (i + 1) (set seats i seat) ++ rest)
    chosen-more seats room so_far rest more =
        subst (AreChosen nodes begun s fs) (sym (ap (λ xs. xs ++ rest) (take_more_set seats i seat room) ∙ append_assoc (take i seats) (seat ∷ []) rest))
        (so_far (seat ∷ rest) (subst (λ gs. AreChosen nodes now s gs (seat ∷ rest)) (sym (drop_more fs i d within)) (sym some, subst (λ x. AreChosen nodes x s (drop (i + 1) fs) rest) (sym next-is) more)))

    pub none-more : ((g : Fragment) → IsFirstWithout nodes now s (drop i fs) g → IsFirstWithout nodes begun s fs g)
        → (g : Fragment) → IsFirstWithout nodes (with_homes begun (planned ++ home ∷ [])) s (drop (i + 1) fs) g → IsFirstWithout nodes begun s fs g
    none-more so_far g later =
        so_far g (subst (λ gs. IsFirstWithout nodes now s gs g) (sym (drop_more fs i d within)) (inr (seat, sym some, subst (λ x. IsFirstWithout nodes x s (drop (i + 1) fs) g) (sym next-is) later)))

-- at last the seats so far are those that are chosen for all fragments
pub chosen-end : (nodes : List NodeInfo) (s : StripeNo) (fs : List Fragment) (i : ℕ) (planned : List Held) (seats : List Seat) (begun : State) → length fs ≤ i
    → ((rest : List Seat) → AreChosen nodes (with_homes begun planned) s (drop i fs) rest
    → AreChosen nodes begun s fs (take i seats ++ rest)) → AreChosen nodes begun s fs (take i seats)
chosen-end nodes s fs i planned seats begun past so_far =
    subst (AreChosen nodes begun s fs) (append-nil (take i seats))
    (so_far [] (subst (λ gs. AreChosen nodes (with_homes begun planned) s gs []) (sym (drop_all i fs past)) tt))

-- the homes that are planned for the first of these fragments
abbrev pub planned_to : StripeNo → List Fragment → List Seat → ℕ → List Held
planned_to s fs seats i = held_at s (take i fs) (take i seats)

-- one more home is planned
pub planned-more : (s : StripeNo) (seats : List Seat) (fs : List Fragment) (i : ℕ) (d : Fragment) (seat : Seat) → i < length fs → i < length seats
    → planned_to s fs seats i ++ record { stripe = s; fragment = get_or fs i d; seat = seat } ∷ [] ≡ planned_to s fs (set seats i seat) (i + 1)
planned-more s seats fs i d seat within room =
    let same : length (take i fs) ≡ length (take i seats) = let a = length-take i fs in let b = length-take i seats in omega (arith, a, b) in
    sym (ap₂ (λ gs xs. held_at s gs xs) (take_more fs i d within) (take_more_set seats i seat room)
    ∙ held_at-push s (take i fs) (take i seats) (get_or fs i d) seat same)

-- ---- the planned homes are those of other fragments

pub planned-beside : (code : Code) (s : StripeNo) (seats : List Seat) (fs : List Fragment) (i : ℕ) (d : Fragment) → fs ≡ fragments code → i < length fs
    → All (λ h. is_beside s (get_or fs i d) h ≡ true) (planned_to s fs seats i)
planned-beside code s seats fs i d all within =
    held_at-beside s (get_or fs i d) (take i fs) (take i seats)
    (subst (λ (gs : List Fragment). i < length gs → All (λ g. g ≢ get_or gs i d) (take i gs)) (sym all) (earlier-fragments code i d) within)

-- ---- the fragments of the code

-- the first of all fragments, so many as the code has
first-fragments : (code : Code) → take (fragment_count code) all_fragments ≡ fragments code
first-fragments Wide = refl
first-fragments Narrow = refl

pub code-items : (code : Code) (items : List Fragment) (n : ℕ) → items ≡ all_fragments → n ≡ fragment_count code → take n items ≡ fragments code
code-items code items n all many = ap₂ (λ (k : ℕ) (fs : List Fragment). take k fs) many all ∙ first-fragments code

-- each of them has a class
pub fragment-class : (code : Code) (fs : List Fragment) (i : ℕ) (d : Fragment) → fs ≡ fragments code → i < length fs → IsSome (class_of code (get_or fs i d).value)
fragment-class code fs i d all within =
    let long : length fs ≡ fragment_count code = ap (λ (gs : List Fragment). length gs) all ∙ fragments-long code in
    let low : i < fragment_count code = omega (arith, within, long) in
    let number = ap (λ (gs : List Fragment). (get_or gs i d).value) all ∙ fragment-number_in code i d low in
    (known-class code (get_or fs i d).value).1 (subst (λ (n : ℕ). n < fragment_count code) (sym number) low)

-- the seat that is found for the next fragment is the one that is chosen for it in the state with the stripe, beside those that are planned
pub planned-chosen : (k : Store) (code : Code) (s : StripeNo) (seats : List Seat) (fs : List Fragment) (i : ℕ) (d : Fragment) (class : Class) (bars : ClassBars)
    (o : Option Seat) → fs ≡ fragments code → i < length fs → class_of code (get_or fs i d).value ≡ Some class
    → ((st : State) (own : Code) (stripe : StripeNo) (fragment : Fragment) (planned : List Held) → IsOf st k → has_stripe st stripe ≡ false
    → class_of own fragment.value ≡ Some class → All (λ h. is_beside stripe fragment h ≡ true) planned
    → AreBarsOf k.topology own st.upgrading planned bars → o ≡ chosen k.topology (with_homes (with_stripe st own stripe) planned) stripe fragment)
    → (st : State) → AreBarsOf k.topology code st.upgrading (planned_to s fs seats i) bars → IsOf st k → has_stripe st s ≡ false
    → o ≡ chosen k.topology (with_homes (with_stripe st code s) (planned_to s fs seats i)) s (get_or fs i d)
planned-chosen k code s seats fs i d class bars o all within of_class found st barred kept absent =
    found st code s (get_or fs i d) (planned_to s fs seats i) kept absent of_class (planned-beside code s seats fs i d all within) barred
