-- Rows whose masks of missing fragments are as their homes are.
use Rattle.std.proofs.Common.{◌≡◌, ◌≢◌, ℕ, zero, suc, ◌<◌, ◌^◌, inl, inr, Bool, true, false, not, length, arith, lit<, ◌&&◌, ◌||◌, nat_eq, List, [], ◌∷◌, map, get_or, Option, Some, None, option_map, option_and_then, refl, sym, ap, ◌∙◌, subst}
use Rattle.std.proofs.Math.Path.{fun_ext}
use Rattle.std.specs.Int.{bit_at}
use Rattle.std.specs.List.{list_any}
use Rattle.std.proofs.lemmas.Bool.{cases_Bool, cases_lt, le-ltb, eq-eqb, eqb-true, ltb-true}
use Rattle.std.proofs.lemmas.List.Folds.{list_any_at}
use Rattle.std.proofs.lemmas.Nat.Bits.{bit_at_above, bit_at-zero}
use Rattle.std.proofs.lemmas.Option.{same_Some}
use Rattle.lrc_code.specs.declared.codes.Code.{Code}
use Rattle.lrc_code.specs.declared.codes.Code.TheVariants.{Wide, Narrow}
use Rattle.lrc_code.specs.declared.losses.LossMask.{LossMask}
use Rattle.lrc_code.specs.declared.numbers.StripeNo.{StripeNo}
use Rattle.lrc_code.specs.declared.numbers.NodeNo.{NodeNo}
use Rattle.lrc_code.specs.Codes.{fragment_count, has_fragment}
use Rattle.lrc_code.specs.Losses.{bits_set, bits_of}
use Rattle.lrc_code.proofs.BitsLemmas.{bits_set-bits_of, bits_of-bits_set, bits_of-below, fits-within}
use Rattle.lrc_topology.specs.declared.seat.Seat.{Seat}
use Rattle.lrc_rows.specs.declared.row.Row.{Row}
use Rattle.lrc_homes.specs.declared.losses.Losses.{Losses}
use Rattle.lrc_rows.specs.NodeStates.{NodeStates}
use Rattle.lrc_rows.specs.Listed.{rows_in}
use Rattle.lrc_rows.specs.Kept.{row_has_work, IsKept, is_row_on, fresh, freshened, queued}
use Rattle.lrc_homes.specs.Homes.{sits_on, is_missing, is_to_move}
use Rattle.lrc_homes.specs.Masks.{IsMaskOf, AreLosses, AreKept, missing_of, renewed, risk_rank}
use Rattle.lrc_ranks.specs.Ranks.{is_at}
use Rattle.lrc_homes.proofs.MaskLemmas.{has-low}

-- each stripe of the queue is in the set
abbrev pub Covers : (StripeNo → Bool) → (ℕ → StripeNo → Bool) → Type 0
Covers set queue = (k : ℕ) (s : StripeNo) → set s ≡ false → queue k s ≡ false

-- the mask of the missing fragments has them
pub mask-is : (code : Code) (online : NodeNo → Bool) (homes : List (Option Seat)) (f : ℕ) → bits_set (bits_of code (missing_of code online homes)) f ≡ (has_fragment code f && is_missing online (get_or homes f None))
mask-is code online homes f = elim (cases_lt f (fragment_count code)) [
  | inl within ↦ bits_set-bits_of code (missing_of code online homes) f within
  | inr past ↦
      let none : bit_at (bits_of code (missing_of code online homes)) f ≡ 0 = bit_at_above (bits_of code (missing_of code online homes)) (fragment_count code) f (bits_of-below code (missing_of code online homes)) past in
      rw (le-ltb f (fragment_count code) past, none) refl
]

-- a mask of fragments of the code fits it
pub mask-fits : (code : Code) (test : Option Seat → Bool) (homes : List (Option Seat)) (mask : LossMask) → IsMaskOf code test homes mask → mask.bits < 2 ^ fragment_count code
mask-fits code test homes mask is =
    ltb-true _ _ ((fits-within code mask.bits).1 (λ f above. is f ∙ ap (λ b. b && test (get_or homes f None)) (le-ltb f (fragment_count code) above)))

-- what is kept of a row is exact where the missing ones are
pub loosened : (online draining : NodeNo → Bool) (homes : List (Option Seat)) (l : Losses) → AreLosses l.code online draining homes l → AreKept online draining homes l
loosened online draining homes l are = record { within = are.within; homeless = are.homeless; missing = λ some. are.missing; needs = are.needs }

pub renewed-exact : (up online draining : NodeNo → Bool) (homes : List (Option Seat)) (l : Losses) → AreKept up draining homes l → AreLosses l.code online draining homes (renewed online homes l)
renewed-exact up online draining homes l are = record { within = are.within; homeless = are.homeless; missing = mask-is l.code online homes; needs = are.needs }

-- a mask that is as the homes are is the one that is recomputed
pub mask-renewed : (code : Code) (online : NodeNo → Bool) (homes : List (Option Seat)) (mask : LossMask) → IsMaskOf code (is_missing online) homes mask → mask.bits ≡ bits_of code (missing_of code online homes)
mask-renewed code online homes mask is = sym (bits_of-bits_set code mask.bits (mask-fits code (is_missing online) homes mask is)) ∙ ap (bits_of code) (fun_ext (λ f. is f))

-- where a fragment needs a lease, the mask that is kept is as the homes are
pub renewed-kept : (online draining : NodeNo → Bool) (homes : List (Option Seat)) (l : Losses) → AreKept online draining homes l → l.needs.bits ≢ 0 → l ≡ renewed online homes l
renewed-kept online draining homes l are some = ap (λ (b : ℕ). record l { missing = record { bits = b } }) (mask-renewed l.code online homes l.missing (are.missing some))

zero-fits : (code : Code) → 0 < 2 ^ fragment_count code
zero-fits Wide = lit< tt
zero-fits Narrow = lit< tt

-- a row that needs no lease, and whose homes are all on nodes that are online, misses none
module _ (online draining : NodeNo → Bool) (q : Row) (needs : IsMaskOf q.losses.code (is_to_move draining) q.homes q.losses.needs) (bare : q.losses.needs.bits ≡ 0)
    (stands : (n : NodeNo) → online n ≡ false → list_any (sits_on n) q.homes ≡ true → ⊥) where
  home-stands : (f : ℕ) → has_fragment q.losses.code f ≡ true → (home : Option Seat) → get_or q.homes f None ≡ home → is_missing online home ≡ false
  home-stands f low None e =
      let none : bits_set q.losses.needs.bits f ≡ false = rw (bare, bit_at-zero f) refl in
      let need : bits_set q.losses.needs.bits f ≡ true = needs f ∙ rw (low, e) refl in
      absurd (let clash : true ≡ false = sym need ∙ none in cc)
  home-stands f low (Some seat) e = elim (cases_Bool (online seat.node)) [
    | inl on ↦ rw on refl
    | inr off ↦
        let within : f < length q.homes = let few = has-low q.losses.code f low in let long = q.sixteen in omega (arith, few, long) in
        let sits : sits_on seat.node (get_or q.homes f None) ≡ true = ap (sits_on seat.node) e ∙ eq-eqb seat.node.value seat.node.value refl in
        absurd (stands seat.node off (list_any_at (sits_on seat.node) q.homes f None within sits))
  ]

  pub none-missing : bits_of q.losses.code (missing_of q.losses.code online q.homes) ≡ 0
  none-missing = ap (bits_of q.losses.code) (fun_ext (λ f. each f (has_fragment q.losses.code f) refl ∙ sym (zero-bit f))) ∙ bits_of-bits_set q.losses.code 0 (zero-fits q.losses.code) where
    zero-bit : (f : ℕ) → bits_set 0 f ≡ false
    zero-bit f = rw (bit_at-zero f) refl

    each : (f : ℕ) (b : Bool) → has_fragment q.losses.code f ≡ b → missing_of q.losses.code online q.homes f ≡ false
    each f true low = rw low (home-stands f low (get_or q.homes f None) refl)
    each f false high = rw high refl

-- ---- the rows

get_or-mapped : (f : Option Row → Option Row) → f None ≡ None → (xs : List (Option Row)) (i : ℕ) → get_or (map f xs) i None ≡ f (get_or xs i None)
get_or-mapped f none [] i = sym none
get_or-mapped f none (x ∷ xs) zero = refl
get_or-mapped f none (x ∷ xs) (suc i) = get_or-mapped f none xs i

pub freshened-at : (online : NodeNo → Bool) (list : List (Option Row)) (s : StripeNo) → rows_in (freshened online list) s ≡ option_map (fresh online) (rows_in list s)
freshened-at online list s = get_or-mapped (option_map (fresh online)) refl list s.value

pub freshened-there : (online : NodeNo → Bool) (list : List (Option Row)) (s : StripeNo) (r : Row) → rows_in list s ≡ Some r → rows_in (freshened online list) s ≡ Some (fresh online r)
freshened-there online list s r found = freshened-at online list s ∙ ap (option_map (fresh online)) found

pub freshened-absent : (online : NodeNo → Bool) (list : List (Option Row)) (s : StripeNo) → rows_in list s ≡ None → rows_in (freshened online list) s ≡ None
freshened-absent online list s none = freshened-at online list s ∙ ap (option_map (fresh online)) none

module _ (states : NodeStates) (list : List (Option Row)) (kept : IsKept states (rows_in list)) where
  pub fresh-losses : (s : StripeNo) (r : Row) → rows_in (freshened states.online list) s ≡ Some r → AreLosses r.losses.code states.online states.draining r.homes r.losses
  fresh-losses s r found = by (rows_in list s) refl where
    by : (o : Option Row) → rows_in list s ≡ o → AreLosses r.losses.code states.online states.draining r.homes r.losses
    by None none = absurd (let clash : None ≡ Some r = sym (freshened-absent states.online list s none) ∙ found in cc)
    by (Some q) there =
        subst (λ (x : Row). AreLosses x.losses.code states.online states.draining x.homes x.losses) (same_Some (fresh states.online q) r (sym (freshened-there states.online list s q there) ∙ found))
        (renewed-exact states.up states.online states.draining q.homes q.losses (kept.losses s q there))

  -- a stripe that needs no lease is not at risk where all nodes of its homes are online
  module _ (s : StripeNo) (idle : row_has_work (rows_in list s) ≡ false) (stands : (n : NodeNo) → states.online n ≡ false → states.on n s ≡ true → ⊥) where
    -- such a stripe misses nothing
    bare : (q : Row) → rows_in list s ≡ Some q → q.losses.needs.bits ≡ 0
    bare q there = eqb-true _ _ (turned (nat_eq q.losses.needs.bits 0) (sym (ap row_has_work there) ∙ idle)) where
      turned : (b : Bool) → not b ≡ false → b ≡ true
      turned true e = refl
      turned false e = sym e

    misses-none : (q : Row) → rows_in list s ≡ Some q → bits_of q.losses.code (missing_of q.losses.code states.online q.homes) ≡ 0
    misses-none q there = none-missing states.online states.draining q (kept.losses s q there).needs (bare q there)
        (λ n off any. stands n off (kept.listed n s ∙ (ap (is_row_on n) there ∙ any)))

    pub whole-is : (k : ℕ) → queued risk_rank (rows_in (freshened states.online list)) k s ≡ false
    whole-is k = by (rows_in list s) refl where
      ranked : Option Row → Bool
      ranked o = is_at k (option_and_then (λ r. risk_rank r.losses) o)

      by : (o : Option Row) → rows_in list s ≡ o → queued risk_rank (rows_in (freshened states.online list)) k s ≡ false
      by None none = ap ranked (freshened-absent states.online list s none)
      by (Some q) there = ap ranked (freshened-there states.online list s q there) ∙ rw (misses-none q there) refl

  -- all stripes at risk are among those that are on such a node, or have work
  pub at_risk-among : (found now : StripeNo → Bool) → ((n : NodeNo) (s : StripeNo) → states.online n ≡ false → states.on n s ≡ true → found s ≡ true)
      → now ≡ (λ s. found s || row_has_work (rows_in list s)) → Covers now (queued risk_rank (rows_in (freshened states.online list)))
  at_risk-among found now off joined k s miss =
      let both : (found s || row_has_work (rows_in list s)) ≡ false = ap (λ (f : StripeNo → Bool). f s) (sym joined) ∙ miss in
      whole-is s (second (found s) (row_has_work (rows_in list s)) both)
      (λ n down on. let clash : true ≡ false = sym (off n s down on) ∙ first (found s) (row_has_work (rows_in list s)) both in cc) k where
        first : (a b : Bool) → (a || b) ≡ false → a ≡ false
        first true b e = e
        first false b e = refl

        second : (a b : Bool) → (a || b) ≡ false → b ≡ false
        second true b e = absurd (cc)
        second false b e = e
