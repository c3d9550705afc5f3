-- Steps of the loops over nodes and fragments.
use Rattle.std.proofs.Common.{◌≡◌, ℕ, ◌+◌, ◌<◌, zero, suc, Bool, true, false, ◌&&◌, cond, List, [], ◌∷◌, length, take, get_or, filter, fold, Option, Some, None, arith, refl, sym, ap, ap₂, ◌∙◌, inl, inr}
use Rattle.std.specs.Option.{option_map_or}
use Rattle.std.proofs.lemmas.Bool.{cases_Bool}
use Rattle.std.proofs.lemmas.List.{take_more}
use Rattle.std.proofs.lemmas.List.Elements.{filter_more}
use Rattle.std.proofs.lemmas.List.Sums.{fold-append}
use Rattle.lrc_code.specs.declared.codes.Code.{Code}
use Rattle.lrc_code.specs.declared.codes.Code.TheVariants.{Wide, Narrow}
use Rattle.lrc_code.specs.declared.numbers.Fragment.{Fragment}
use Rattle.lrc_code.specs.Codes.{fragments, fragment_count, all_fragments}
use Rattle.lrc_code.specs.Order.{better, least}
use Rattle.lrc_capacity.specs.declared.room.NodeRoom.{NodeRoom}
use Rattle.lrc_capacity.specs.declared.room.Placed.{Placed}
use Rattle.lrc_capacity.specs.declared.capacity.Capacity.{Capacity}
use Rattle.lrc_capacity.specs.Trials.{is_lighter_room, may_go, chosen_room, Trial, try_next, trial_of, trial, shortage_in, free_in, filled_by, filled}

-- ---- the best of the nodes so far

module _ (code : Code) (f : Fragment) (beside : List Placed) (rooms : List NodeRoom) (i : ℕ) (d : NodeRoom) (within : i < length rooms) where
  abbrev next : NodeRoom
  next = get_or rooms i d

  one-more : chosen_room code f beside (take (i + 1) rooms)
      ≡ fold (better is_lighter_room) (chosen_room code f beside (take i rooms)) (cond (may_go code f beside next) (next ∷ []) [])
  one-more = ap (least is_lighter_room) (filter_more (may_go code f beside) rooms i d within)
      ∙ fold-append (better is_lighter_room) None (filter (may_go code f beside) (take i rooms)) (cond (may_go code f beside next) (next ∷ []) [])

  taken : (best : Option NodeRoom) → option_map_or (λ b. is_lighter_room next b) best true ≡ true → better is_lighter_room best next ≡ Some next
  taken None first = refl
  taken (Some b) first = rw first refl

  left : (best : Option NodeRoom) (may : Bool) → (option_map_or (λ b. is_lighter_room next b) best true && may) ≡ false
      → fold (better is_lighter_room) best (cond may (next ∷ []) []) ≡ best
  left best false miss = refl
  left None true miss = absurd (cc)
  left (Some b) true miss = elim (cases_Bool (is_lighter_room next b)) [
    | inl first ↦ absurd (let e : true ≡ false = rw first at miss in cc)
    | inr later ↦ rw later refl
  ]

  -- a node that is better and may be chosen
  pub best-hit : (best : Option NodeRoom) → best ≡ chosen_room code f beside (take i rooms) → option_map_or (λ b. is_lighter_room next b) best true ≡ true
      → may_go code f beside next ≡ true → Some next ≡ chosen_room code f beside (take (i + 1) rooms)
  best-hit best so_far first may =
      sym (one-more ∙ ap (λ o. fold (better is_lighter_room) o (cond (may_go code f beside next) (next ∷ []) [])) (sym so_far)
      ∙ ap (λ b. fold (better is_lighter_room) best (cond b (next ∷ []) [])) may ∙ taken best first)

  -- and one that is not
  pub best-miss : (best : Option NodeRoom) → best ≡ chosen_room code f beside (take i rooms)
      → (option_map_or (λ b. is_lighter_room next b) best true && may_go code f beside next) ≡ false → best ≡ chosen_room code f beside (take (i + 1) rooms)
  best-miss best so_far miss =
      sym (one-more ∙ ap (λ o. fold (better is_lighter_room) o (cond (may_go code f beside next) (next ∷ []) [])) (sym so_far)
      ∙ left best (may_go code f beside next) miss)

-- ---- the fragments so far

-- the first of all fragments, so many as the code has
pub first-fragments : (code : Code) → take (fragment_count code) all_fragments ≡ fragments code
first-fragments Wide = refl
first-fragments Narrow = refl

pub code-items : (code : Code) (items : List Fragment) (n : ℕ) → items ≡ all_fragments → n ≡ fragment_count code → take n items ≡ fragments code
code-items code items n all many = ap₂ (λ (k : ℕ) (fs : List Fragment). take k fs) many all ∙ first-fragments code

-- one more fragment is tried
pub trial-more : (code : Code) (begun now then : Trial) (fs : List Fragment) (i : ℕ) (d : Fragment) → i < length fs → now ≡ trial_of code begun (take i fs)
    → then ≡ try_next code now (get_or fs i d) → then ≡ trial_of code begun (take (i + 1) fs)
trial-more code begun now then fs i d within so_far more =
    more ∙ ap (λ t. try_next code t (get_or fs i d)) so_far
    ∙ sym (ap (trial_of code begun) (take_more fs i d within) ∙ fold-append (try_next code) begun (take i fs) (get_or fs i d ∷ []))

-- ---- elements

-- within a list the default does not matter
pub same-default : {X : Type 0} (xs : List X) (i : ℕ) (d e : X) → i < length xs → get_or xs i d ≡ get_or xs i e
same-default [] i d e within = absurd (omega (arith, within))
same-default (x ∷ xs) zero d e within = refl
same-default (x ∷ xs) (suc i) d e within = same-default xs i d e (omega (arith, within))

-- ---- stripes

module _ (code : Code) (count : ℕ) (rooms : List NodeRoom) (left n : ℕ) (t : Trial) (is : n ≡ suc left) (told : t ≡ trial code rooms) where
  abbrev more : List NodeRoom → Capacity
  more after = filled code (count + 1) after left

  by-trial : filled code count rooms n ≡ filled_by code count rooms t t.refused more
  by-trial = ap (filled code count rooms) is ∙ ap (λ (u : Trial). filled_by code count rooms u u.refused more) (sym told)

  -- the next stripe is refused
  pub fill-refused : (f : Fragment) → t.refused ≡ Some f
      → filled code count rooms n ≡ record { stripes = count; shortage = Some (shortage_in code f t.beside t.rooms); free_slots = free_in rooms }
  fill-refused f refused = by-trial ∙ ap (λ o. filled_by code count rooms t o more) refused

  -- it is placed
  pub fill-more : t.refused ≡ None → filled code count rooms n ≡ filled code (count + 1) t.rooms left
  fill-more placed = by-trial ∙ ap (λ o. filled_by code count rooms t o more) placed
