-- What a book shows besides what commands need, read off what it keeps.
use Rattle.std.proofs.Common.{[], ◌∷◌, ◌≡◌, ◌≢◌, ℕ, ◌<◌, ◌≤◌, Bool, true, false, not, ◌&&◌, if◌then◌else◌, List, map, filter, length, get_or, Option, Some, None, is_some, unwrap_or, option_map, refl, sym, ap, ap₂, ◌∙◌, subst, arith, zero-add}
use Rattle.std.specs.List.{AllPairs, Contains, range_with_len, slice_get}
use Rattle.std.specs.Iterator.{YieldsFirst}
use Rattle.std.proofs.Math.Nat.{mod-eq_of_lt}
use Rattle.std.proofs.lemmas.Bool.{and_parts, lt-ltb}
use Rattle.std.proofs.lemmas.List.{length-map, get_or-map}
use Rattle.std.proofs.lemmas.List.FromFn.{length-range_with_len, get_or-range_with_len}
use Rattle.std.proofs.lemmas.List.Kept.{AllPairs-filter}
use Rattle.lrc_code.specs.declared.losses.LossMask.{LossMask}
use Rattle.lrc_code.specs.declared.numbers.StripeNo.{StripeNo}
use Rattle.lrc_code.specs.declared.numbers.NodeNo.{NodeNo}
use Rattle.lrc_code.specs.declared.numbers.Fragment.{Fragment}
use Rattle.lrc_code.specs.Codes.{fragments, fragment_count}
use Rattle.lrc_code.specs.Losses.{bits_set, bits_of}
use Rattle.lrc_topology.specs.declared.NodeInfo.{NodeInfo}
use Rattle.lrc_topology.specs.Nodes.{node_at}
use Rattle.lrc_slots.specs.Slots.{Slots, load_at}
use Rattle.lrc_slots.specs.Tables.{slots_of}
use Rattle.lrc_terms.specs.Levels.{homes_of, needs_in, needs_if, has_some, comes_first}
use Rattle.lrc_terms.specs.Stripes.{StripeFragment, StripeLevel, stripe_at}
use Rattle.lrc_terms.proofs.LevelLemmas.{has_some-true}
use Rattle.lrc_terms.proofs.CodeListLemmas.{code-fragments, few-fragments}
use Rattle.lrc_nodes.specs.States.{down_in}
use Rattle.lrc_rules.specs.declared.kind.Kind.{Kind}
use Rattle.lrc_rules.specs.declared.kind.Kind.TheVariants.{Local, Local3, Global, Move}
use Rattle.lrc_rules.specs.States.{State, load, opening, has_stripe, code_of, is_down, drains_at, rank}
use Rattle.lrc_rules.specs.Repairs.{needs, kind, is_global, is_safe}
use Rattle.lrc_rules.specs.Urgency.{has_work, work, is_grantable, is_repaired_before}
use Rattle.lrc_rules.proofs.NodeLemmas.{member-node_at, node_at-member}
use Rattle.lrc_rules.proofs.LookUpLemmas.{stripe-there}
use Rattle.lrc_rules.proofs.MemberLemmas.{filter-member, member-filter, list_any-member, Contains-here, Contains-later}
use Rattle.lrc_rules.proofs.RisingLemmas.{IsStrict, strict-same, strict-in_order}
use Rattle.lrc_rules.proofs.UrgencyLemmas.{stripe-order, stripe-ties, fragment-order, fragment-ties, fragments-from}
use Rattle.lrc_stripes.specs.Stored.{Stored, needs_shown, AreWork, AreHomesOn}
use Rattle.lrc_stripes.specs.Tables.{stored_in}
use Rattle.lrc_store.specs.declared.store.Store.{Store}
use Rattle.lrc_store.specs.Stores.{IsOf, node_state, stored_of, repair_of}
use Rattle.lrc_store.proofs.NodeStateLemmas.{down-known, rank-kept, needs-kept, work-kept}
use Rattle.lrc_store.proofs.RepairLemmas.{needs-set}
use Rattle.lrc_store.proofs.ShownLemmas.{load-kept}
use Rattle.lrc_store.proofs.WorkLemmas.{has-work, fragments-strict}
use Rattle.lrc_book.proofs.StripeLemmas.{every-number}
use Rattle.lrc_book.specs.Looks.{down_shown, kind_shown, is_granted_now, stripe_numbers, places, is_home_on, homes_on}

-- ---- nodes

-- whether a node of the store is down
pub down-shown : (nodes : List NodeInfo) (st : State) (n : NodeNo) (m : NodeInfo) → node_at nodes n ≡ Some m
    → Some (down_in (map (node_state st) nodes) n) ≡ down_shown nodes st n
down-shown nodes st n m found =
    ap Some (down-known nodes st n (ap is_some found))
    ∙ ap (λ (k : NodeNo). Some (is_down st k)) (member-node_at nodes n m found).1
    ∙ sym (ap (option_map (λ (x : NodeInfo). is_down st x.number)) found)

module _ (st : State) (k : Store) (kept : IsOf st k) where
  loads-among : (some : List NodeInfo) → ((m : NodeInfo) → Contains some m → Contains k.topology m)
      → map (λ m. load_at (slots_of k.table) m.number) some ≡ map (λ m. load st m.number) some
  loads-among [] among = refl
  loads-among (m ∷ ms) among =
      let there = ap is_some (node_at-member k.topology kept.known m (among m (Contains-here m ms))) in
      ap₂ (λ (load : ℕ) (loads : List ℕ). load ∷ loads) (load-kept st k kept m.number there)
      (loads-among ms (λ x here. among x (Contains-later m x ms here)))

  -- the loads that the slot table lists are those of the nodes
  pub loads-kept : map (λ n. load_at (slots_of k.table) n.number) (slots_of k.table).nodes ≡ map (λ m. load st m.number) k.topology
  loads-kept = ap (map (λ (n : NodeInfo). load_at (slots_of k.table) n.number)) (ap (λ (t : Slots). t.nodes) kept.table_is)
      ∙ loads-among k.topology (λ m here. here)

-- ---- the repair of a fragment

-- the mask of the fragments of a stripe that need a lease, as a store has it
module _ (st : State) (k : Store) (kept : IsOf st k) (s : StripeNo) where
  masked : Bool → Option LossMask
  masked there = if there then Some (record { bits = bits_of (code_of st s) (needs_in (code_of st s) (drains_at k.topology st) (homes_of st.homes s)) }) else None

  there-by : (there : Bool) (mask : LossMask) → Some mask ≡ masked there → there ≡ true
  unfolding masked
  there-by true mask is = refl
  there-by false mask is = absurd (let never : Some mask ≡ None = is in cc)

  absent-by : (there : Bool) → None ≡ masked there → there ≡ false
  unfolding masked
  absent-by false is = refl
  absent-by true is = absurd (cc)

  mask-kept : needs_shown (stored_in k.stripes) s ≡ needs_if (has_stripe st s) (code_of st s) (drains_at k.topology st) (homes_of st.homes s)
  mask-kept = ap (λ (t : Stored). needs_shown t s) kept.stripes_is ∙ needs-kept k.topology st s

  pub mask-absent : None ≡ needs_shown (stored_in k.stripes) s → has_stripe st s ≡ false
  unfolding needs_if masked
  mask-absent is = absent-by (has_stripe st s) (is ∙ mask-kept)

  module _ (mask : LossMask) (is : Some mask ≡ needs_shown (stored_in k.stripes) s) where
    pub mask-there : has_stripe st s ≡ true
    unfolding needs_if masked
    mask-there = there-by (has_stripe st s) mask (is ∙ mask-kept)

    pub mask-stored : (stored_in k.stripes).stripes s ≡ true
    mask-stored = ap (λ (t : Stored). t.stripes s) kept.stripes_is ∙ mask-there

    pub mask-needs : (f : Fragment) → bits_set mask.bits f.value ≡ needs k.topology st s f
    mask-needs f = needs-set k.topology st s mask-there mask (is ∙ mask-kept) f

module _ (nodes : List NodeInfo) (st : State) (s : StripeNo) (f : Fragment) where
  abbrev kind-by : Bool → Bool → Option Kind
  kind-by there needed = if there && needed then Some (kind nodes st s f) else None

  pub kind-absent : has_stripe st s ≡ false → None ≡ kind_shown nodes st s f
  kind-absent none = sym (ap (λ b. kind-by b (needs nodes st s f)) none)

  pub kind-unneeded : has_stripe st s ≡ true → needs nodes st s f ≡ false → None ≡ kind_shown nodes st s f
  kind-unneeded there idle = sym (ap₂ kind-by there idle)

  -- what is beyond repair is rebuilt from the whole stripe
  kind-told : (safe : Bool) (k : Kind) → unwrap_or (if (not safe && is_global k) then None else Some k) Global ≡ k
  kind-told true k = refl
  kind-told false (Local sources) = refl
  kind-told false (Local3 sources) = refl
  kind-told false Global = refl
  kind-told false Move = refl

  pub kind-needed : has_stripe st s ≡ true → needs nodes st s f ≡ true → Some (unwrap_or (repair_of nodes st s f) Global) ≡ kind_shown nodes st s f
  kind-needed there needed = ap Some (kind-told (is_safe nodes st s) (kind nodes st s f)) ∙ sym (ap₂ kind-by there needed)

  -- whether its lease would be granted

  pub granted-absent : has_stripe st s ≡ false → false ≡ is_granted_now nodes st s f
  granted-absent none = sym (ap (λ b. b && is_grantable nodes st (s, f)) none)

  pub granted-there : has_stripe st s ≡ true → is_grantable nodes st (s, f) ≡ is_granted_now nodes st s f
  granted-there there = sym (ap (λ b. b && is_grantable nodes st (s, f)) there)

-- ---- the work list

module _ (nodes : List NodeInfo) (st : State) (stripes : List StripeNo) (are : AreWork (stored_of nodes st) stripes) where
  works-from : (s : StripeNo) → has_some (code_of st s) (needs_in (code_of st s) (drains_at nodes st) (homes_of st.homes s)) ≡ true → has_work nodes st s ≡ true
  works-from s some =
      let code = code_of st s in
      let (f, within, hit) = has_some-true code (needs_in code (drains_at nodes st) (homes_of st.homes s)) some in
      let d : Fragment = record { value = f; in_range = omega (arith, within, few-fragments code) } in
      list_any-member (needs nodes st s) (fragments code) d (code-fragments code d (lt-ltb f (fragment_count code) within)) hit

  -- what is kept lists the stripes with work as the state does
  pub work-is : AllPairs (λ s t. s ≢ t) st.stripes → stripes ≡ work nodes st
  unfolding work
  work-is distinct =
      let ranks = rank nodes st in
      let test = has_work nodes st in
      strict-in_order (comes_first ranks) (stripe-order ranks) (stripe-ties ranks) (filter test st.stripes) stripes
      (AllPairs-filter (λ s t. s ≢ t) test st.stripes distinct)
      (subst (λ (by : StripeNo → ℕ). AllPairs (λ r t. comes_first by r t ≡ true) stripes) (rank-kept nodes st) are.rising)
      (λ s here. let at = filter-member test st.stripes s here in (are.each s).1 (has-work nodes st s at.0 at.1))
      (λ s here.
      let parts = and_parts (has_stripe st s) _ (sym (work-kept nodes st s) ∙ (are.each s).0 here) in
      member-filter test st.stripes s (stripe-there st s parts.0) (works-from s parts.1))

-- ---- the homes on a node

-- the order of repair of stripes that have one rank: by number
abbrev one_rank : StripeNo → ℕ
one_rank s = 0

module _ (n : ℕ) (few : n ≤ 4096) where
  abbrev numbered : List StripeNo
  numbered = map stripe_at (range_with_len 0 n)

  numbered-long : length numbered ≡ n
  numbered-long = length-map (range_with_len 0 n) stripe_at ∙ length-range_with_len 0 n

  numbered-at : (i : ℕ) (d : StripeNo) → i < n → (get_or numbered i d).value ≡ i
  numbered-at i d within =
      ap (λ (s : StripeNo). s.value) (get_or-map stripe_at (range_with_len 0 n) i 0 d (omega (arith, within, length-range_with_len 0 n)))
      ∙ (ap (λ k. (stripe_at k).value) (get_or-range_with_len 0 n i 0 within ∙ zero-add i) ∙ mod-eq_of_lt (omega (arith, within, few)))

  numbered-strict : IsStrict (comes_first one_rank) numbered
  numbered-strict i j d below within =
      let low : i < n = omega (arith, below, within, numbered-long) in
      let high : j < n = omega (arith, within, numbered-long) in
      let first = numbered-at i d low in
      let second = numbered-at j d high in
      lt-ltb _ _ (omega (arith, first, second, below))

-- all places are those of the fragments of the code Wide, which each stripe number has in the empty store
places-strict : IsStrict (is_repaired_before one_rank) places
places-strict = fragments-strict opening one_rank stripe_numbers (numbered-strict 4096 (omega arith))

places-all : (p : StripeFragment) → Contains places p
places-all p = fragments-from opening stripe_numbers p (lt-ltb p.1.value 16 p.1.in_range) (every-number p.0)

-- what is kept lists the homes on a node as the state does
pub homes-is : (nodes : List NodeInfo) (st : State) (n : NodeNo) (listed : List StripeFragment) → AreHomesOn (stored_of nodes st) n listed
    → listed ≡ homes_on st n
unfolding homes_on
homes-is nodes st n listed are =
    let test = is_home_on st n in
    strict-same (is_repaired_before one_rank) (fragment-order one_rank) (fragment-ties one_rank) listed (filter test places) are.rising
    (AllPairs-filter (λ p q. is_repaired_before one_rank p q ≡ true) test places places-strict)
    (λ p here. member-filter test places p (places-all p) ((are.each p).0 here))
    (λ p here. (are.each p).1 (filter-member test places p here).1)

-- ---- the stripe that is repaired first

-- what an iterator yields first is the first of what is left
pub first-left : (left rest : List StripeLevel) (r : Option StripeLevel) → YieldsFirst (λ (l : List StripeLevel). l) left r rest → r ≡ slice_get left 0
first-left left rest None yields = sym (ap (λ (l : List StripeLevel). slice_get l 0) yields.0)
first-left left rest (Some row) yields = sym (ap (λ (l : List StripeLevel). slice_get l 0) yields)
