-- A stripe that is added with homes: its nodes, its masks, and the store with it.
use Rattle.std.proofs.Common.{◌≡◌, ℕ, ◌+◌, ◌<◌, Bool, true, false, not, ◌&&◌, ◌||◌, eqb, ltb, List, length, get_or, Option, Some, None, arith, refl, sym, ap, ◌∙◌}
use Rattle.std.proofs.Math.Path.{fun_ext}
use Rattle.std.proofs.lemmas.Bool.{ltb-true, ltb-false, le-ltb}
use Rattle.std.proofs.lemmas.Nat.Bits.{bit_at-zero}
use Rattle.lrc_code.specs.declared.codes.Code.{Code}
use Rattle.lrc_code.specs.Codes.{fragment_count, has_fragment}
use Rattle.lrc_code.specs.Losses.{bits_set}
use Rattle.lrc_code.specs.Numbers.{same_node, same_stripe}
use Rattle.lrc_code.specs.declared.numbers.NodeNo.{NodeNo}
use Rattle.lrc_code.specs.declared.numbers.StripeNo.{StripeNo}
use Rattle.lrc_topology.specs.declared.seat.Seat.{Seat}
use Rattle.lrc_code.specs.declared.losses.LossMask.{LossMask}
use Rattle.lrc_homes.specs.Homes.{seated_homes, is_missing, is_to_move}
use Rattle.lrc_homes.specs.Masks.{IsMaskOf, AreWithin}
use Rattle.lrc_rows.specs.NodeStates.{NodeStates}
use Rattle.lrc_homes.proofs.HomesLemmas.{seated-there, seated-past}
use Rattle.lrc_homes.proofs.MaskLemmas.{mask-next_true, mask-next_false}
use Rattle.lrc_rows.proofs.NodeStateLemmas.{same-turned}

and-true : (b : Bool) → b ≡ (b && true)
and-true true = refl
and-true false = refl

and-false : (b : Bool) → (b && false) ≡ false
and-false true = refl
and-false false = refl

-- ---- homes on seats

module _ (code : Code) (seats : List Seat) (all : length seats ≡ fragment_count code) where
  -- the home of a fragment
  pub home-at : (d : Seat) (i : ℕ) → i < fragment_count code → get_or (seated_homes seats) i None ≡ Some (get_or seats i d)
  home-at d i below = seated-there seats d i (omega (arith, below, all))

  -- what the node of the seat says of the fragment
  pub missing-at : (online : NodeNo → Bool) (d : Seat) (i : ℕ) (on : Bool) → i < fragment_count code → on ≡ online (get_or seats i d).node → is_missing online (get_or (seated_homes seats) i None) ≡ not on
  missing-at online d i on below is = ap (is_missing online) (home-at d i below) ∙ ap not (sym is)

  pub to_move-at : (draining : NodeNo → Bool) (d : Seat) (i : ℕ) (drains : Bool) → i < fragment_count code → drains ≡ draining (get_or seats i d).node
      → is_to_move draining (get_or (seated_homes seats) i None) ≡ drains
  to_move-at draining d i drains below is = ap (is_to_move draining) (home-at d i below) ∙ sym is

  -- no fragment that the code lacks has one
  pub within-seated : AreWithin code (seated_homes seats)
  within-seated f lacks = seated-past seats f (omega (arith, all, ltb-false f (fragment_count code) lacks))

  -- no home passes the test
  pub mask-empty : (test : Option Seat → Bool) (d : Seat) (mask : LossMask) → mask.bits ≡ 0 → ((f : ℕ) → f < fragment_count code → test (Some (get_or seats f d)) ≡ false)
      → IsMaskOf code test (seated_homes seats) mask
  mask-empty test d mask empty fails f = none ∙ sym (by (has_fragment code f) refl) where
    none : bits_set mask.bits f ≡ false
    none = rw (empty, bit_at-zero f) refl

    by : (b : Bool) → has_fragment code f ≡ b → (has_fragment code f && test (get_or (seated_homes seats) f None)) ≡ false
    by true low = rw low (ap test (home-at d f (ltb-true f (fragment_count code) low)) ∙ fails f (ltb-true f (fragment_count code) low))
    by false high = rw high refl

-- ---- the masks, fragment by fragment

-- no fragment yet
pub mask-first : (m : ℕ → Bool) (bits : ℕ) → bits ≡ 0 → (f : ℕ) → bits_set bits f ≡ (ltb f 0 && m f)
mask-first m bits empty f = rw (empty, bit_at-zero f, le-ltb f 0 (omega arith)) refl

-- with the next fragment, where it is in the set
pub mask-next : (m : ℕ → Bool) (i bits next : ℕ) (b : Bool) → m i ≡ b → ((f : ℕ) → bits_set bits f ≡ (ltb f i && m f))
    → ((f : ℕ) → bits_set next f ≡ ((eqb f i && b) || bits_set bits f)) → (f : ℕ) → bits_set next f ≡ (ltb f (i + 1) && m f)
mask-next m i bits next true hit before after f = mask-next_true m i bits next i refl hit before (λ g. after g ∙ ap (λ b. b || bits_set bits g) (sym (and-true (eqb g i)))) f
mask-next m i bits next false miss before after f = after f ∙ ap (λ b. b || bits_set bits f) (and-false (eqb f i)) ∙ mask-next_false m i bits miss before f

-- ---- the nodes of the stripe

-- on the homes so far, and one more
entered-more_at : (own here before on : Bool) → ((here && own) || ((own && before) || on)) ≡ ((own && (before || here)) || on)
entered-more_at true true true on = refl
entered-more_at true true false on = refl
entered-more_at true false true on = refl
entered-more_at true false false on = refl
entered-more_at false true before on = refl
entered-more_at false false before on = refl

module _ (first : NodeStates) (stripe : StripeNo) where
  -- the nodes where the stripe is on those that the test names
  abbrev pub entered : (NodeNo → Bool) → NodeStates
  entered test = record first { on = λ n s. (same_stripe stripe s && test n) || first.on n s }

  pub entered-none : first ≡ entered (λ n. false)
  entered-none = ap (λ (o : NodeNo → StripeNo → Bool). record first { on = o }) (fun_ext (λ n. fun_ext (λ s. ap (λ b. b || first.on n s) (sym (and-false (same_stripe stripe s))))))

  -- with one more home
  pub entered-more : (now : NodeStates) (before after : NodeNo → Bool) (seat : Seat) → now ≡ entered before → ((n : NodeNo) → after n ≡ (before n || same_node n seat.node))
      → record now { on = λ n s. (same_node seat.node n && same_stripe stripe s) || now.on n s } ≡ entered after
  entered-more now before after seat is more =
      ap (λ (z : NodeStates). record z { on = λ n s. (same_node seat.node n && same_stripe stripe s) || z.on n s }) is
      ∙ ap (λ (o : NodeNo → StripeNo → Bool). record first { on = o }) (fun_ext (λ n. fun_ext (λ s.
      rw (more n, same-turned seat.node.value n.value) (entered-more_at (same_stripe stripe s) (same_node n seat.node) (before n) (first.on n s)))))

  pub entered-same : (before after : NodeNo → Bool) → ((n : NodeNo) → after n ≡ before n) → entered before ≡ entered after
  entered-same before after same = ap (λ (test : NodeNo → Bool). entered test) (fun_ext (λ n. sym (same n)))
