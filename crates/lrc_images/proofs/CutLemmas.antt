-- The first cause of an image of which the last rows are cut off.
use Rattle.std.proofs.Common.{◌≡◌, ℕ, ◌+◌, ◌-◌, ◌<◌, ◌≤◌, inl, inr, false, not, ◌&&◌, nat_lt, nat_le, nat_eq, List, [], ◌∷◌, ◌++◌, length, take, map, filter, flat_map, Option, Some, None, option_map, refl, sym, ap, ◌∙◌, subst, arith}
use Rattle.std.specs.Option.{option_or, option_map_or}
use Rattle.std.specs.Global.{Vec}
use Rattle.std.proofs.lemmas.List.{take_all, length-take}
use Rattle.std.proofs.lemmas.Bool.Decides.{leb_tells}
use Rattle.lrc_code.specs.declared.numbers.UpgradeNo.{UpgradeNo}
use Rattle.lrc_topology.specs.declared.NodeInfo.{NodeInfo}
use Rattle.lrc_topology.specs.Nodes.{has_domain}
use Rattle.lrc_terms.specs.Modes.{is_draining, is_gone}
use Rattle.lrc_rules.specs.States.{State, has_stripe, held_by}
use Rattle.lrc_rules.specs.Leases.{grants, term}
use Rattle.lrc_images.specs.declared.cause.Cause.{Cause}
use Rattle.lrc_images.specs.declared.cause.Cause.TheVariants as cause
use Rattle.lrc_images.specs.declared.image.NodeRow.{NodeRow}
use Rattle.lrc_images.specs.declared.image.StripeRow.{StripeRow}
use Rattle.lrc_images.specs.declared.image.GrantRow.{GrantRow}
use Rattle.lrc_images.specs.declared.image.LeaseRow.{LeaseRow}
use Rattle.lrc_images.specs.declared.image.Image.{Image}
use Rattle.lrc_images.specs.Images.{earlier, is_narrow, row_homes, row_lease, nodes_where}
use Rattle.lrc_images.specs.Causes.{most_entries, most_ticks, cause_if, first_answer, is_out_of_order, node_cause, seat_cause, grant_cause, first_cause}
use Rattle.lrc_images.specs.Rising.{stripe_first, lease_first}
use Rattle.lrc_images.specs.Cuts.{row_count, IsCut}
use Rattle.lrc_images.proofs.PlaceLemmas.{Answer, IsFrom, IsBelow, or-from, or-below, later-from, own-place, IsSplit, walk, walk-from, walk-below, walk-split, split-here, split-later, split-cut, cut-split, split-none}

-- ---- what an image says, as functions of its rows

module _ (nodes : List NodeInfo) (clock : ℕ) (upgrading : Option UpgradeNo) where
  abbrev pub head_by : ℕ → Option Cause
  head_by entries =
      cause_if (option_map_or (λ u. not (has_domain nodes u)) upgrading false) cause.UnknownDomain
      (cause_if (nat_lt most_entries entries) cause.TooManyEntries
      (cause_if (nat_lt most_ticks clock) cause.TooManyTicks None))

  -- the state of these rows
  abbrev pub state_by : List NodeRow → List StripeRow → List GrantRow → List LeaseRow → State
  state_by ns ss gs ls =
      record {
        stripes = map (λ r. r.stripe) ss;
        narrow = map (λ r. r.stripe) (filter (λ r. is_narrow r.code) ss);
        homes = flat_map row_homes ss;
        leases = map (row_lease (earlier gs)) ls;
        gone = nodes_where (λ r. is_gone r.mode) ns;
        draining = nodes_where (λ r. is_draining r.mode) ns;
        down = nodes_where (λ r. r.is_down) ns;
        upgrading = upgrading;
        clock = clock;
      }

  abbrev pub stripe_by : List NodeRow → List StripeRow → StripeRow → Option Cause
  stripe_by ns before r =
      cause_if (is_out_of_order stripe_first before r) cause.OutOfOrder
      (first_answer (λ homes h. seat_cause nodes (record (state_by ns (before ++ r ∷ []) [] []) { homes = flat_map row_homes before ++ homes }) h) [] (row_homes r))

  abbrev pub lease_by : List NodeRow → List StripeRow → List GrantRow → List LeaseRow → LeaseRow → Option Cause
  lease_by ns ss gs before r =
      cause_if (is_out_of_order lease_first before r) cause.OutOfOrder
      (cause_if (not (has_stripe (state_by ns ss gs []) r.stripe)) cause.UnknownStripe
      (cause_if (nat_eq (grants (earlier gs) r.stripe r.fragment) 0) cause.NeverGranted
      (cause_if (not (nat_lt clock r.expiry && nat_le r.expiry (clock + term))) cause.WrongExpiry
      (seat_cause nodes (state_by ns ss gs before) (held_by (row_lease (earlier gs) r))))))

  abbrev pub from_leases : ℕ → List NodeRow → List StripeRow → List GrantRow → List LeaseRow → Answer
  from_leases place ns ss gs ls = walk place (lease_by ns ss gs) [] ls

  abbrev pub from_grants : ℕ → List NodeRow → List StripeRow → List GrantRow → List LeaseRow → Answer
  from_grants place ns ss gs ls = option_or (walk place grant_cause [] gs) (from_leases (place + length gs) ns ss gs ls)

  abbrev pub from_stripes : ℕ → List NodeRow → List StripeRow → List GrantRow → List LeaseRow → Answer
  from_stripes place ns ss gs ls = option_or (walk place (stripe_by ns) [] ss) (from_grants (place + length ss) ns ss gs ls)

  abbrev pub from_nodes : List NodeRow → List StripeRow → List GrantRow → List LeaseRow → Answer
  from_nodes ns ss gs ls = option_or (walk 1 (node_cause nodes) [] ns) (from_stripes (1 + length ns) ns ss gs ls)

  abbrev pub cause_by : ℕ → List NodeRow → List StripeRow → List GrantRow → List LeaseRow → Answer
  cause_by entries ns ss gs ls = option_or (option_map (λ c. (0, c)) (head_by entries)) (from_nodes ns ss gs ls)

  -- ---- none of the later rows

  pub leases-from : (place : ℕ) (ns : List NodeRow) (ss : List StripeRow) (gs : List GrantRow) (ls : List LeaseRow) → IsFrom place (from_leases place ns ss gs ls)
  leases-from place ns ss gs ls p c is = let at = walk-from place (lease_by ns ss gs) [] ls p c is in omega (arith, at)

  pub grants-from : (place : ℕ) (ns : List NodeRow) (ss : List StripeRow) (gs : List GrantRow) (ls : List LeaseRow) → IsFrom place (from_grants place ns ss gs ls)
  grants-from place ns ss gs ls =
      or-from place (walk place grant_cause [] gs) (from_leases (place + length gs) ns ss gs ls)
      (λ p c is. let at = walk-from place grant_cause [] gs p c is in omega (arith, at))
      (later-from (place + length gs) place (from_leases (place + length gs) ns ss gs ls) (omega arith) (leases-from (place + length gs) ns ss gs ls))

  pub stripes-from : (place : ℕ) (ns : List NodeRow) (ss : List StripeRow) (gs : List GrantRow) (ls : List LeaseRow) → IsFrom place (from_stripes place ns ss gs ls)
  stripes-from place ns ss gs ls =
      or-from place (walk place (stripe_by ns) [] ss) (from_grants (place + length ss) ns ss gs ls)
      (λ p c is. let at = walk-from place (stripe_by ns) [] ss p c is in omega (arith, at))
      (later-from (place + length ss) place (from_grants (place + length ss) ns ss gs ls) (omega arith) (grants-from (place + length ss) ns ss gs ls))

  pub nodes-from : (ns : List NodeRow) (ss : List StripeRow) (gs : List GrantRow) (ls : List LeaseRow) → IsFrom 1 (from_nodes ns ss gs ls)
  nodes-from ns ss gs ls =
      or-from 1 (walk 1 (node_cause nodes) [] ns) (from_stripes (1 + length ns) ns ss gs ls)
      (λ p c is. let at = walk-from 1 (node_cause nodes) [] ns p c is in omega (arith, at))
      (later-from (1 + length ns) 1 (from_stripes (1 + length ns) ns ss gs ls) (omega arith) (stripes-from (1 + length ns) ns ss gs ls))

-- ---- a list that is cut, and what follows it

same-bound : (a b : ℕ) (whole cut : Answer) → a ≡ b → IsSplit a whole cut → IsSplit b whole cut
same-bound a b whole cut is split = subst (λ n. IsSplit n whole cut) is split

list-split : {X : Type 0} (place : ℕ) (ask : List X → X → Option Cause) (tail cut : List X → Answer) (xs : List X) (m : ℕ)
    → (m ≤ length xs → cut (take m xs) ≡ None) → IsFrom (place + length xs) (tail xs) → (length xs ≤ m → IsSplit (place + m) (tail xs) (cut xs))
    → IsSplit (place + m) (option_or (walk place ask [] xs) (tail xs)) (option_or (walk place ask [] (take m xs)) (cut (take m xs)))
list-split {X} place ask tail cut xs m none from later = elim (leb_tells m (length xs)) [
  | inl here ↦
      split-here (place + m) (walk place ask [] xs) (walk place ask [] (take m xs)) (tail xs) (cut (take m xs))
      (same-bound (place + 0 + m) (place + m) (walk place ask [] xs) (walk place ask [] (take m xs)) (omega arith) (walk-split place ask [] xs m))
      (later-from (place + length xs) (place + m) (tail xs) (omega (arith, here.1)) from) (none here.1)
  | inr there ↦
      subst (λ (ys : List X). IsSplit (place + m) (option_or (walk place ask [] xs) (tail xs)) (option_or (walk place ask [] ys) (cut ys))) (sym (take_all m xs (omega (arith, there.1))))
      (split-later (place + m) (walk place ask [] xs) (walk place ask [] xs) (tail xs) (cut xs) refl
      (λ p c is. let at = walk-below place ask [] xs p c is in omega (arith, at, there.1)) (later (omega (arith, there.1))))
]

module _ (nodes : List NodeInfo) (clock : ℕ) (upgrading : Option UpgradeNo) where
  leases-split : (place : ℕ) (ns : List NodeRow) (ss : List StripeRow) (gs : List GrantRow) (ls : List LeaseRow) (m : ℕ)
      → IsSplit (place + m) (from_leases nodes clock upgrading place ns ss gs ls) (from_leases nodes clock upgrading place ns ss gs (take m ls))
  leases-split place ns ss gs ls m =
      same-bound (place + 0 + m) (place + m) (from_leases nodes clock upgrading place ns ss gs ls) (from_leases nodes clock upgrading place ns ss gs (take m ls)) (omega arith)
      (walk-split place (lease_by nodes clock upgrading ns ss gs) [] ls m)

  grants-split : (place : ℕ) (ns : List NodeRow) (ss : List StripeRow) (gs : List GrantRow) (ls : List LeaseRow) (m : ℕ)
      → IsSplit (place + m) (from_grants nodes clock upgrading place ns ss gs ls)
      (from_grants nodes clock upgrading place ns ss (take m gs) (take (m - length gs) ls))
  grants-split place ns ss gs ls m =
      let cut = λ (n : ℕ) (ys : List GrantRow). from_leases nodes clock upgrading (place + length ys) ns ss ys (take n ls) in
      list-split place grant_cause (λ ys. from_leases nodes clock upgrading (place + length ys) ns ss ys ls) (cut (m - length gs)) gs m
      (λ here. let none : m - length gs ≡ 0 = omega (arith, here) in ap (λ (n : ℕ). cut n (take m gs)) none)
      (leases-from nodes clock upgrading (place + length gs) ns ss gs ls)
      (λ there. same-bound (place + length gs + (m - length gs)) (place + m) _ _ (omega (arith, there)) (leases-split (place + length gs) ns ss gs ls (m - length gs)))

  stripes-split : (place : ℕ) (ns : List NodeRow) (ss : List StripeRow) (gs : List GrantRow) (ls : List LeaseRow) (m : ℕ)
      → IsSplit (place + m) (from_stripes nodes clock upgrading place ns ss gs ls)
      (from_stripes nodes clock upgrading place ns (take m ss) (take (m - length ss) gs) (take (m - length ss - length gs) ls))
  stripes-split place ns ss gs ls m =
      let cut = λ (n o : ℕ) (ys : List StripeRow). from_grants nodes clock upgrading (place + length ys) ns ys (take n gs) (take o ls) in
      list-split place (stripe_by nodes clock upgrading ns) (λ ys. from_grants nodes clock upgrading (place + length ys) ns ys gs ls)
      (cut (m - length ss) (m - length ss - length gs)) ss m
      (λ here.
      let none : m - length ss ≡ 0 = omega (arith, here) in
      let less : m - length ss - length gs ≡ 0 = omega (arith, here) in (λ k. cut (none k) (less k) (take m ss)))
      (grants-from nodes clock upgrading (place + length ss) ns ss gs ls)
      (λ there. same-bound (place + length ss + (m - length ss)) (place + m) _ _ (omega (arith, there)) (grants-split (place + length ss) ns ss gs ls (m - length ss)))

  nodes-split : (ns : List NodeRow) (ss : List StripeRow) (gs : List GrantRow) (ls : List LeaseRow) (m : ℕ)
      → IsSplit (1 + m) (from_nodes nodes clock upgrading ns ss gs ls)
      (from_nodes nodes clock upgrading (take m ns) (take (m - length ns) ss) (take (m - length ns - length ss) gs) (take (m - length ns - length ss - length gs) ls))
  nodes-split ns ss gs ls m =
      let cut = λ (n o q : ℕ) (ys : List NodeRow). from_stripes nodes clock upgrading (1 + length ys) ys (take n ss) (take o gs) (take q ls) in
      list-split 1 (node_cause nodes) (λ ys. from_stripes nodes clock upgrading (1 + length ys) ys ss gs ls)
      (cut (m - length ns) (m - length ns - length ss) (m - length ns - length ss - length gs)) ns m
      (λ here.
      let none : m - length ns ≡ 0 = omega (arith, here) in
      let less : m - length ns - length ss ≡ 0 = omega (arith, here) in
      let least : m - length ns - length ss - length gs ≡ 0 = omega (arith, here) in (λ k. cut (none k) (less k) (least k) (take m ns)))
      (stripes-from nodes clock upgrading (1 + length ns) ns ss gs ls)
      (λ there. same-bound (1 + length ns + (m - length ns)) (1 + m) _ _ (omega (arith, there)) (stripes-split (1 + length ns) ns ss gs ls (m - length ns)))

  head-below : (entries m : ℕ) → IsBelow (1 + m) (option_map (λ c. (0, c)) (head_by nodes clock upgrading entries))
  head-below entries m p c is = let at = own-place 0 p (head_by nodes clock upgrading entries) c is in omega (arith, at)

  pub cause-split : (entries : ℕ) (ns : List NodeRow) (ss : List StripeRow) (gs : List GrantRow) (ls : List LeaseRow) (m : ℕ)
      → IsSplit (m + 1) (cause_by nodes clock upgrading entries ns ss gs ls)
      (cause_by nodes clock upgrading entries (take m ns) (take (m - length ns) ss) (take (m - length ns - length ss) gs) (take (m - length ns - length ss - length gs) ls))
  cause-split entries ns ss gs ls m =
      let head : Answer = option_map (λ c. (0, c)) (head_by nodes clock upgrading entries) in
      let same : 1 + m ≡ m + 1 = omega arith in
      same-bound (1 + m) (m + 1) _ _ same
      (split-later (1 + m) head head (from_nodes nodes clock upgrading ns ss gs ls) _ refl (head-below entries m) (nodes-split ns ss gs ls m))

-- ---- images

pub cause-is : (nodes : List NodeInfo) (i : Image) → first_cause nodes i ≡ cause_by nodes i.clock i.upgrading i.before i.nodes.items i.stripes.items i.grants.items i.leases.items
unfolding first_cause
cause-is nodes i = refl

module _ (nodes : List NodeInfo) (i j : Image) (count : ℕ) (cut : IsCut i count j) where
  image-split : IsSplit (count + 1) (first_cause nodes i) (first_cause nodes j)
  image-split =
      let parts = cause-split nodes i.clock i.upgrading i.before i.nodes.items i.stripes.items i.grants.items i.leases.items count in
      let cut_is : first_cause nodes j ≡ cause_by nodes i.clock i.upgrading i.before (take count i.nodes.items) (take (count - length i.nodes.items) i.stripes.items)
      (take (count - length i.nodes.items - length i.stripes.items) i.grants.items)
      (take (count - length i.nodes.items - length i.stripes.items - length i.grants.items) i.leases.items) =
      cause-is nodes j ∙ (λ k. cause_by nodes (cut.clock k) (cut.upgrading k) (cut.before k) (cut.nodes k) (cut.stripes k) (cut.grants k) (cut.leases k)) in
      subst (λ (o : Answer). IsSplit (count + 1) o (first_cause nodes j)) (sym (cause-is nodes i))
      (subst (λ (o : Answer). IsSplit (count + 1) (cause_by nodes i.clock i.upgrading i.before i.nodes.items i.stripes.items i.grants.items i.leases.items) o) (sym cut_is) parts)

  pub cut-before : (p : ℕ) (c : Cause) → first_cause nodes i ≡ Some (p, c) → count < p → first_cause nodes j ≡ None
  cut-before p c is above = split-none count (first_cause nodes i) (first_cause nodes j) image-split p c is above

  pub cut-after : (p : ℕ) (c : Cause) → first_cause nodes i ≡ Some (p, c) → p ≤ count → first_cause nodes j ≡ Some (p, c)
  cut-after p c is low = split-cut count (first_cause nodes i) (first_cause nodes j) image-split p c is low

  pub after-cut : (p : ℕ) (c : Cause) → first_cause nodes j ≡ Some (p, c) → (p ≤ count) × (first_cause nodes i ≡ Some (p, c))
  after-cut p c is =
      let below = image-split.below p c is in (omega (arith, below), cut-split count (first_cause nodes i) (first_cause nodes j) image-split p c is)

pub cut-only : (nodes : List NodeInfo) (i j l : Image) (p count : ℕ) (c : Cause) → IsCut i count j → first_cause nodes j ≡ None → IsCut i (count + 1) l
    → first_cause nodes l ≡ Some (p, c) → (p ≡ count + 1) × (first_cause nodes i ≡ Some (p, c))
cut-only nodes i j l p count c cut none more is =
    let whole = after-cut nodes i l (count + 1) more p c is in
    elim (leb_tells p count) [
      | inl low ↦ absurd (let hit = sym none ∙ cut-after nodes i j count cut p c whole.1 low.1 in (let never : ◌≡◌ {A = Answer} None (Some (p, c)) = hit in cc))
      | inr high ↦ (omega (arith, whole.0, high.1), whole.1)
    ]

-- the first cause is that of one of the rows, or has position 0
pub within_rows : (nodes : List NodeInfo) (i : Image) (p : ℕ) (c : Cause) → first_cause nodes i ≡ Some (p, c) → p ≤ row_count i
within_rows nodes i p c is =
    let ns = i.nodes.items in
    let ss = i.stripes.items in
    let gs = i.grants.items in
    let ls = i.leases.items in
    let high = row_count i + 1 in
    let from_s = 1 + length ns in
    let from_g = from_s + length ss in
    let from_l = from_g + length gs in
    let below = or-below high (option_map (λ c. (0, c)) (head_by nodes i.clock i.upgrading i.before)) (from_nodes nodes i.clock i.upgrading ns ss gs ls)
    (λ p c is. let at = own-place 0 p (head_by nodes i.clock i.upgrading i.before) c is in omega (arith, at))
    (or-below high (walk 1 (node_cause nodes) [] ns) (from_stripes nodes i.clock i.upgrading from_s ns ss gs ls)
    (λ p c is. let at = walk-below 1 (node_cause nodes) [] ns p c is in omega (arith, at))
    (or-below high (walk from_s (stripe_by nodes i.clock i.upgrading ns) [] ss) (from_grants nodes i.clock i.upgrading from_g ns ss gs ls)
    (λ p c is. let at = walk-below from_s (stripe_by nodes i.clock i.upgrading ns) [] ss p c is in omega (arith, at))
    (or-below high (walk from_g grant_cause [] gs) (from_leases nodes i.clock i.upgrading from_l ns ss gs ls)
    (λ p c is. let at = walk-below from_g grant_cause [] gs p c is in omega (arith, at))
    (λ p c is. let at = walk-below from_l (lease_by nodes i.clock i.upgrading ns ss gs) [] ls p c is in omega (arith, at))))) in
    let at = below p c (sym (cause-is nodes i) ∙ is) in omega (arith, at)

-- the first `count` elements of a vector, as a vector
abbrev cut_vec : {X : Type 0} → Vec X → ℕ → Vec X
cut_vec v count = record {
  ptr = v.ptr;
  len = length (take count v.items);
  cap = v.cap;
  alloc = v.alloc;
  items = take count v.items;
  ok = (refl, (let few = length-take count v.items in let all = v.ok.0 in let room = v.ok.1 in omega (arith, few, all, room)));
  small = v.small;
}

-- each image can be cut
pub cut-of : (i : Image) (count : ℕ) → (j : Image) × IsCut i count j
cut-of i count =
    let in_stripes = count - length i.nodes.items in
    let in_grants = in_stripes - length i.stripes.items in
    let in_leases = in_grants - length i.grants.items in (
      record i {
        nodes = cut_vec i.nodes count;
        stripes = cut_vec i.stripes in_stripes;
        grants = cut_vec i.grants in_grants;
        leases = cut_vec i.leases in_leases;
      },
      record { before = refl; clock = refl; upgrading = refl; nodes = refl; stripes = refl; grants = refl; leases = refl },
    )
