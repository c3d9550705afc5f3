-- The stripes that are counted by what is read of the nodes are those that the rules place.
use Rattle.std.proofs.Common.{◌≡◌, ◌≢◌, ℕ, ◌+◌, Bool, false, not, ◌&&◌, List, [], ◌∷◌, ◌++◌, length, map, fold, Some, None, Result, Ok, Err, refl, sym, ap, ◌∙◌, subst}
use Rattle.std.proofs.Math.Path.{fun_ext}
use Rattle.std.specs.Prelude.{sum_by}
use Rattle.std.specs.List.{list_any, count_by}
use Rattle.std.proofs.lemmas.Bool.{ne_eqb, or_from}
use Rattle.std.proofs.lemmas.List.Elements.{All-head, All-tail, All-weaker}
use Rattle.std.proofs.lemmas.List.Folds.{fold-map, fold_stays, list_any-append}
use Rattle.lrc_code.specs.declared.codes.Code.{Code}
use Rattle.lrc_code.specs.declared.codes.Code.TheVariants.{Wide, Narrow}
use Rattle.lrc_code.specs.declared.numbers.StripeNo.{StripeNo}
use Rattle.lrc_code.specs.declared.numbers.Fragment.{Fragment}
use Rattle.lrc_code.specs.Numbers.{same_fault}
use Rattle.lrc_code.specs.Numbers as numbers
use Rattle.lrc_code.specs.Codes.{fragments}
use Rattle.lrc_topology.specs.declared.NodeInfo.{NodeInfo}
use Rattle.lrc_topology.specs.declared.seat.Seat.{Seat}
use Rattle.lrc_topology.specs.Nodes.{AreNodes}
use Rattle.lrc_rules.specs.declared.refusal.Refusal.TheVariants as refusal
use Rattle.lrc_rules.specs.Outcomes.{Outcome, refuse_if}
use Rattle.lrc_rules.specs.States.{State, has_stripe, code_of, seats_of}
use Rattle.lrc_rules.specs.Placement.{bars, place_next, placed}
use Rattle.lrc_rules.specs.Goodness.{AreSeated}
use Rattle.lrc_rules.specs.Steps.{with_stripe, placed_reply, place_answer, place_outcome}
use Rattle.lrc_rules.proofs.CodedLemmas.{code-own}
use Rattle.lrc_rules.proofs.SeatedLemmas.{stripe-placing}
use Rattle.lrc_rules.proofs.SeatingLists.{All-both}
use Rattle.lrc_rules.proofs.ChoiceLemmas.{same_stripe}
use Rattle.lrc_rules.proofs.MemberLemmas.{AllPairs-head, AllPairs-tail}
use Rattle.lrc_capacity.specs.declared.room.NodeRoom.{NodeRoom}
use Rattle.lrc_capacity.specs.declared.room.Placed.{Placed}
use Rattle.lrc_capacity.specs.declared.shortage.Shortage.{Shortage}
use Rattle.lrc_capacity.specs.Capacities.{room_of, AreUnused, Filling, after_reply, place_more, has_room, is_fault_taken, shortage, shortage_at, placed_until, free_slots, capacity_after}
use Rattle.lrc_capacity.specs.Trials.{Trial, trial, is_beside_in, rules_out, shortage_in, free_on, free_in, filled_by, filled}
use Rattle.lrc_capacity.proofs.RoomLemmas.{IsBeside, bars-put}
use Rattle.lrc_capacity.proofs.PlacedLemmas.{err_of, Shows, none-beside, shows}

-- ---- counts

count-mapped : {X Y : Type 0} (test : Y → Bool) (g : X → Y) (xs : List X) → count_by test (map g xs) ≡ count_by (λ x. test (g x)) xs
count-mapped test g xs = simp fold-map

sum-mapped : {X Y : Type 0} (of : Y → ℕ) (g : X → Y) (xs : List X) → sum_by of (map g xs) ≡ sum_by (λ x. of (g x)) xs
sum-mapped of g xs = simp fold-map

abbrev counted : Fragment → ℕ → ℕ → ℕ → ℕ → ℕ → Shortage
counted f a b c d e = record { fragment = f; not_active = a; offline = b; full = c; fault_domain = d; upgrade_domain = e }

same-counts : (f : Fragment) (a b c d e v w x y z : ℕ) → a ≡ v → b ≡ w → c ≡ x → d ≡ y → e ≡ z → counted f a b c d e ≡ counted f v w x y z
same-counts f a b c d e v w x y z p q r t u =
    ap (λ k. counted f k b c d e) p ∙ ap (λ k. counted f v k c d e) q ∙ ap (λ k. counted f v w k d e) r ∙ ap (λ k. counted f v w x k e) t ∙ ap (λ k. counted f v w x y k) u

module _ (nodes : List NodeInfo) (st : State) where
  free-shown : free_in (map (room_of st) nodes) ≡ free_slots nodes st
  free-shown = sum-mapped (λ (r : NodeRoom). free_on r) (room_of st) nodes

  module _ (known : AreNodes nodes) (seated : AreSeated nodes st) (code : Code) (s : StripeNo) (f : Fragment) (beside : List Placed) (coded : code_of st s ≡ code) (put : IsBeside nodes s st beside) where
    fault-put : (n : NodeInfo) → list_any (is_beside_in f n) beside ≡ is_fault_taken nodes st s f n
    fault-put n = sym (put f (λ g m. same_fault n.fault m.fault))

    by-fault : (n : NodeInfo) → (has_room st n && list_any (is_beside_in f n) beside) ≡ (has_room st n && is_fault_taken nodes st s f n)
    by-fault n = ap (λ b. has_room st n && b) (fault-put n)

    by-upgrade : (n : NodeInfo) → ((has_room st n && not (list_any (is_beside_in f n) beside)) && list_any (rules_out code f n) beside)
        ≡ ((has_room st n && not (is_fault_taken nodes st s f n)) && list_any (bars nodes st s f n) (seats_of st))
    by-upgrade n =
        ap (λ b. (has_room st n && not b) && list_any (rules_out code f n) beside) (fault-put n)
        ∙ ap (λ b. (has_room st n && not (is_fault_taken nodes st s f n)) && b) (sym (bars-put nodes known st seated code s f beside coded put n))

    shortage-shown : shortage_in code f beside (map (room_of st) nodes) ≡ shortage nodes st s f
    shortage-shown =
        same-counts f _ _ _ _ _ _ _ _ _ _ (count-mapped _ (room_of st) nodes) (count-mapped _ (room_of st) nodes) (count-mapped _ (room_of st) nodes)
        (count-mapped _ (room_of st) nodes ∙ ap (λ (test : NodeInfo → Bool). count_by test nodes) (fun_ext by-fault))
        (count-mapped _ (room_of st) nodes ∙ ap (λ (test : NodeInfo → Bool). count_by test nodes) (fun_ext by-upgrade))

-- ---- stripes

-- one more stripe is placed
after_reply-placed : (x : Filling) (s : StripeNo) (code : Code) (seats : List Seat) (done : State)
    → after_reply x s (placed_reply code seats, done) ≡ record { count = x.count + 1; state = done; refused = None }
after_reply-placed x s Wide seats done = refl
after_reply-placed x s Narrow seats done = refl

module _ (nodes : List NodeInfo) (known : AreNodes nodes) (code : Code) where
  module _ (st : State) (s : StripeNo) (ss : List StripeNo) (unused : AreUnused st (s ∷ ss)) where
    abbrev absent : has_stripe st s ≡ false
    absent = All-head (λ r. has_stripe st r ≡ false) s ss unused.absent

    -- the numbers that are left are unused after it
    left-unused : (done : State) → done.stripes ≡ st.stripes ++ s ∷ [] → AreUnused done ss
    left-unused done is = record {
      absent = All-weaker (λ r. (has_stripe st r ≡ false) × (s ≢ r)) (λ r. has_stripe done r ≡ false)
          (λ r both. ap (λ (l : List StripeNo). list_any (numbers.same_stripe r) l) is ∙ list_any-append (numbers.same_stripe r) st.stripes (s ∷ [])
          ∙ or_from (has_stripe st r) _ both.0 (or_from _ false (ne_eqb r.value s.value (λ e. both.1 (same_stripe s r (sym e)))) refl)) ss
          (All-both (λ r. has_stripe st r ≡ false) (λ r. s ≢ r) ss (All-tail (λ r. has_stripe st r ≡ false) s ss unused.absent) (AllPairs-head (λ s t. s ≢ t) s ss unused.distinct));
      distinct = AllPairs-tail (λ s t. s ≢ t) s ss unused.distinct;
    }

    abbrev begun : State
    begun = with_stripe st code s

    -- the outcome of the command, by the fragments that are placed
    outcome-is : place_outcome nodes st code s ≡ place_answer st code (fold (place_next nodes s) (Ok begun) (fragments code))
    unfolding place_outcome placed
    outcome-is =
        ap (λ b. refuse_if b refusal.StripeExists st (place_answer st code (placed nodes begun s))) absent
        ∙ ap (λ (c : Code). place_answer st code (fold (place_next nodes s) (Ok begun) (fragments c))) (code-own st code s)

  abbrev now : ℕ → State → Filling
  now count st = record { count = count; state = st; refused = None }

  -- one stripe more, or the refusal
  fill-next : (count : ℕ) (st : State) (s : StripeNo) (ss : List StripeNo) (t : Trial) (seated : AreSeated nodes st) (unused : AreUnused st (s ∷ ss))
      → Shows nodes s (with_stripe st code s) (fragments code) t
      → ((done : State) → AreSeated nodes done → AreUnused done ss
      → filled code (count + 1) (map (room_of done) nodes) (length ss) ≡ capacity_after nodes code (fold (place_more nodes code) (now (count + 1) done) ss))
      → (r : Result State Fragment) → fold (place_next nodes s) (Ok (with_stripe st code s)) (fragments code) ≡ r
      → filled_by code count (map (room_of st) nodes) t t.refused (λ after. filled code (count + 1) after (length ss))
      ≡ capacity_after nodes code (fold (place_more nodes code) (after_reply (now count st) s (place_answer st code r)) ss)
  fill-next count st s ss t seated unused shown again (Ok done) e =
      let at = shown.done done e in
      let more = λ (after : List NodeRoom). filled code (count + 1) after (length ss) in
      ap (λ o. filled_by code count (map (room_of st) nodes) t o more) (shown.refused ∙ ap err_of e)
      ∙ ap more (shown.rooms ∙ ap (λ (x : State). map (room_of x) nodes) at)
      ∙ again done (subst (AreSeated nodes) at shown.seated) (left-unused st s ss unused done (ap (λ (x : State). x.stripes) (sym at) ∙ shown.stripes))
      ∙ ap (λ (x : Filling). capacity_after nodes code (fold (place_more nodes code) x ss)) (sym (after_reply-placed (now count st) s code _ done))
  fill-next count st s ss t seated unused shown again (Err f) e =
      let until = placed_until nodes s (with_stripe st code s) (fragments code) in
      let refused : Filling = record { count = count; state = st; refused = Some (s, f) } in
      let more = λ (after : List NodeRoom). filled code (count + 1) after (length ss) in
      let why : shortage_in code f t.beside t.rooms ≡ shortage_at nodes st code s f =
      ap (shortage_in code f t.beside) shown.rooms
      ∙ shortage-shown nodes until known shown.seated code s f t.beside (shown.coded ∙ code-own st code s) shown.beside in
      ap (λ o. filled_by code count (map (room_of st) nodes) t o more) (shown.refused ∙ ap err_of e)
      ∙ ap (λ k. record { stripes = count; shortage = Some k; free_slots = free_in (map (room_of st) nodes) }) why
      ∙ ap (λ k. record { stripes = count; shortage = Some (shortage_at nodes st code s f); free_slots = k }) (free-shown nodes st)
      ∙ ap (capacity_after nodes code) (sym (fold_stays (place_more nodes code) refused (λ x. refl) ss))

  pub fills : (numbers : List StripeNo) (count : ℕ) (st : State) → AreSeated nodes st → AreUnused st numbers
      → filled code count (map (room_of st) nodes) (length numbers) ≡ capacity_after nodes code (fold (place_more nodes code) (now count st) numbers)
  unfolding trial
  fills [] count st seated unused = ap (λ k. record { stripes = count; shortage = None; free_slots = k }) (free-shown nodes st)
  fills (s ∷ ss) count st seated unused =
      let gone = absent st s ss unused in
      let shown = shows nodes known s code (with_stripe st code s) (fragments code) [] (stripe-placing nodes known st s code seated gone) (code-own st code s)
      (none-beside nodes st code s seated gone) in
      fill-next count st s ss (trial code (map (room_of st) nodes)) seated unused shown (λ done good left. fills ss (count + 1) done good left)
      (fold (place_next nodes s) (Ok (with_stripe st code s)) (fragments code)) refl
      ∙ ap (λ (o : Outcome). capacity_after nodes code (fold (place_more nodes code) (after_reply (now count st) s o) ss)) (sym (outcome-is st s ss unused))
