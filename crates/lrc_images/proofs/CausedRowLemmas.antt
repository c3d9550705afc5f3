-- The first cause of an image at the position of a row, after rows that are taken, is that of the row.
use Rattle.std.proofs.Common.{[], ◌≡◌, ◌↔◌, ◌+◌, ◌-◌, ℕ, List, ◌∷◌, ◌++◌, length, take, Some, None, option_map, refl, sym, ap, ◌∙◌, subst, arith}
use Rattle.std.specs.Option.{option_or}
use Rattle.std.proofs.Math.Seq.{take-append_seam}
use Rattle.std.proofs.lemmas.List.{take_all}
use Rattle.lrc_topology.specs.declared.NodeInfo.{NodeInfo}
use Rattle.lrc_images.specs.declared.cause.Cause.{Cause}
use Rattle.lrc_images.specs.declared.image.NodeRow.{NodeRow}
use Rattle.lrc_images.specs.declared.image.StripeRow.{StripeRow}
use Rattle.lrc_images.specs.declared.image.GrantRow.{GrantRow}
use Rattle.lrc_images.specs.declared.image.LeaseRow.{LeaseRow}
use Rattle.lrc_images.specs.declared.image.Image.{Image}
use Rattle.lrc_images.specs.Rising.{stripe_first, IsRising}
use Rattle.lrc_images.specs.Causes.{head_cause, node_cause, stripe_cause, grant_cause, lease_cause, first_cause}
use Rattle.lrc_images.specs.Cuts.{IsCut}
use Rattle.lrc_images.specs.Faults.{IsFirst, IsHeadFault, head_causes, IsNodeFault, node_causes, IsStripeCause, IsGrantFault, grant_causes, IsLeaseFault, lease_causes}
use Rattle.lrc_images.proofs.AnswerLemmas.{or-none}
use Rattle.lrc_images.proofs.LawfulLemmas.{cause-lawful, lawful-rising}
use Rattle.lrc_images.proofs.PlaceLemmas.{Answer, none-from, walk, both-ways, at-place, row-at}
use Rattle.lrc_images.proofs.CutLemmas.{head_by, stripe_by, lease_by, from_leases, from_grants, from_stripes, from_nodes, nodes-from, stripes-from, grants-from, leases-from, cause-is}
use Rattle.lrc_images.proofs.FaultLemmas.{head-first, node-first, stripe-first, grant-first, lease-first}

-- before a list that has no answer
no-lead : (lead rest : Answer) → lead ≡ None → option_or lead rest ≡ rest
no-lead lead rest none = ap (λ (o : Answer). option_or o rest) none

-- the rows before a place are those of the cut
cut-rows : {X : Type 0} (xs before later ys : List X) (x : X) (count : ℕ) → xs ≡ before ++ x ∷ later → count ≡ length before → ys ≡ take count xs → ys ≡ before
cut-rows xs before later ys x count split long is =
    is ∙ (λ k. take (long k) (split k)) ∙ take-append_seam before (x ∷ later)

-- ---- beside the rows

pub caused-head : (nodes : List NodeInfo) (i : Image) (c : Cause) → (first_cause nodes i ≡ Some (0, c)) ↔ IsFirst (IsHeadFault nodes i) head_causes c
caused-head nodes i c =
    both-ways
    (subst (λ (o : Answer). (o ≡ Some (0, c)) ↔ (head_cause nodes i ≡ Some c)) (sym (cause-is nodes i))
    (at-place 0 (head_cause nodes i) (from_nodes nodes i.clock i.upgrading i.nodes.items i.stripes.items i.grants.items i.leases.items) c
    (nodes-from nodes i.clock i.upgrading i.nodes.items i.stripes.items i.grants.items i.leases.items)))
    (head-first nodes i c)

-- ---- rows

module _ (nodes : List NodeInfo) (i j : Image) (count : ℕ) (cut : IsCut i count j) (none : first_cause nodes j ≡ None) where
  abbrev ns : List NodeRow
  ns = i.nodes.items

  abbrev ss : List StripeRow
  ss = i.stripes.items

  abbrev gs : List GrantRow
  gs = i.grants.items

  abbrev ls : List LeaseRow
  ls = i.leases.items

  abbrev head : Answer
  head = option_map (λ c. (0, c)) (head_cause nodes i)

  abbrev node_walk : List NodeRow → Answer
  node_walk rows = walk 1 (node_cause nodes) [] rows

  abbrev stripe_walk : List StripeRow → Answer
  stripe_walk rows = walk (1 + length ns) (stripe_by nodes i.clock i.upgrading ns) [] rows

  abbrev grant_walk : List GrantRow → Answer
  grant_walk rows = walk (1 + length ns + length ss) grant_cause [] rows

  abbrev lease_walk : List LeaseRow → Answer
  lease_walk rows = walk (1 + length ns + length ss + length gs) (lease_by nodes i.clock i.upgrading ns ss gs) [] rows

  -- the parts of the cut, of which none has an answer
  parts : (option_map {U = ℕ × Cause} (λ c. (0, c)) (head_by nodes j.clock j.upgrading j.before) ≡ None)
      × (from_nodes nodes j.clock j.upgrading j.nodes.items j.stripes.items j.grants.items j.leases.items ≡ None)
  parts = or-none _ _ (sym (cause-is nodes j) ∙ none)

  head-none : head ≡ None
  head-none = (λ k. option_map {U = ℕ × Cause} (λ c. (0, c)) (head_by nodes (sym cut.clock k) (sym cut.upgrading k) (sym cut.before k))) ∙ parts.0

  nodes-none : (rows : List NodeRow) → j.nodes.items ≡ rows
      → (node_walk rows ≡ None) × (from_stripes nodes i.clock i.upgrading (1 + length rows) rows j.stripes.items j.grants.items j.leases.items ≡ None)
  nodes-none rows is =
      or-none _ _ ((λ k. from_nodes nodes (sym cut.clock k) (sym cut.upgrading k) (sym is k) j.stripes.items j.grants.items j.leases.items) ∙ parts.1)

  module _ (all_nodes : j.nodes.items ≡ ns) where
    stripes-none : (rows : List StripeRow) → j.stripes.items ≡ rows
        → (stripe_walk rows ≡ None) × (from_grants nodes i.clock i.upgrading (1 + length ns + length rows) ns rows j.grants.items j.leases.items ≡ None)
    stripes-none rows is =
        or-none _ _ ((λ k. from_stripes nodes i.clock i.upgrading (1 + length ns) ns (sym is k) j.grants.items j.leases.items) ∙ (nodes-none ns all_nodes).1)

    module _ (all_stripes : j.stripes.items ≡ ss) where
      grants-none : (rows : List GrantRow) → j.grants.items ≡ rows
          → (grant_walk rows ≡ None) × (from_leases nodes i.clock i.upgrading (1 + length ns + length ss + length rows) ns ss rows j.leases.items ≡ None)
      grants-none rows is =
          or-none _ _ ((λ k. from_grants nodes i.clock i.upgrading (1 + length ns + length ss) ns ss (sym is k) j.leases.items) ∙ (stripes-none ss all_stripes).1)

      module _ (all_grants : j.grants.items ≡ gs) where
        leases-none : (rows : List LeaseRow) → j.leases.items ≡ rows → lease_walk rows ≡ None
        leases-none rows is =
            (λ k. from_leases nodes i.clock i.upgrading (1 + length ns + length ss + length gs) ns ss gs (sym is k)) ∙ (grants-none gs all_grants).1

  past-head : first_cause nodes i ≡ from_nodes nodes i.clock i.upgrading ns ss gs ls
  past-head = cause-is nodes i ∙ no-lead head (from_nodes nodes i.clock i.upgrading ns ss gs ls) head-none

  past-nodes : j.nodes.items ≡ ns → first_cause nodes i ≡ from_stripes nodes i.clock i.upgrading (1 + length ns) ns ss gs ls
  past-nodes all = past-head ∙ no-lead (node_walk ns) (from_stripes nodes i.clock i.upgrading (1 + length ns) ns ss gs ls) (nodes-none ns all).0

  past-stripes : j.nodes.items ≡ ns → j.stripes.items ≡ ss → first_cause nodes i ≡ from_grants nodes i.clock i.upgrading (1 + length ns + length ss) ns ss gs ls
  past-stripes all all' =
      past-nodes all ∙ no-lead (stripe_walk ss) (from_grants nodes i.clock i.upgrading (1 + length ns + length ss) ns ss gs ls) (stripes-none all ss all').0

  past-grants : j.nodes.items ≡ ns → j.stripes.items ≡ ss → j.grants.items ≡ gs
      → first_cause nodes i ≡ from_leases nodes i.clock i.upgrading (1 + length ns + length ss + length gs) ns ss gs ls
  past-grants all all' all'' =
      past-stripes all all'
      ∙ no-lead (grant_walk gs) (from_leases nodes i.clock i.upgrading (1 + length ns + length ss + length gs) ns ss gs ls) (grants-none all all' gs all'').0

pub caused-node : (nodes : List NodeInfo) (i j : Image) (before : List NodeRow) (r : NodeRow) (later : List NodeRow) (c : Cause)
    → i.nodes.items ≡ before ++ r ∷ later → IsCut i (length before) j → first_cause nodes j ≡ None
    → (first_cause nodes i ≡ Some (1 + length before, c)) ↔ IsFirst (IsNodeFault nodes before r) node_causes c
caused-node nodes i j before r later c split cut none =
    let ns = i.nodes.items in
    let tail = from_stripes nodes i.clock i.upgrading (1 + length ns) ns i.stripes.items i.grants.items i.leases.items in
    let rows = cut-rows ns before later j.nodes.items r (length before) split refl cut.nodes in
    both-ways
    (subst (λ (o : Answer). (o ≡ Some (1 + length before, c)) ↔ (node_cause nodes before r ≡ Some c)) (sym (past-head nodes i j (length before) cut none))
    (row-at 1 (node_cause nodes) before r later ns tail c split (nodes-none nodes i j (length before) cut none before rows).0
    (stripes-from nodes i.clock i.upgrading (1 + length ns) ns i.stripes.items i.grants.items i.leases.items)))
    (node-first nodes before r c)

pub caused-stripe : (nodes : List NodeInfo) (i j : Image) (before : List StripeRow) (r : StripeRow) (later : List StripeRow) (c : Cause)
    → i.stripes.items ≡ before ++ r ∷ later → IsCut i (length i.nodes.items + length before) j → first_cause nodes j ≡ None
    → (first_cause nodes i ≡ Some (1 + length i.nodes.items + length before, c)) ↔ IsStripeCause nodes i before r c
caused-stripe nodes i j before r later c split cut none =
    let ns = i.nodes.items in
    let ss = i.stripes.items in
    let count = length ns + length before in
    let place = 1 + length ns in
    let all = cut.nodes ∙ take_all count ns (omega arith) in
    let rows = cut-rows ss before later j.stripes.items r (count - length ns) split (omega arith) cut.stripes in
    let rising = subst (IsRising stripe_first) rows (lawful-rising nodes j (cause-lawful nodes j none)).stripes in
    both-ways
    (subst (λ (o : Answer). (o ≡ Some (place + length before, c)) ↔ (stripe_cause nodes i before r ≡ Some c)) (sym (past-nodes nodes i j count cut none all))
    (row-at place (stripe_by nodes i.clock i.upgrading ns) before r later ss
    (from_grants nodes i.clock i.upgrading (place + length ss) ns ss i.grants.items i.leases.items) c split
    (stripes-none nodes i j count cut none all before rows).0
    (grants-from nodes i.clock i.upgrading (place + length ss) ns ss i.grants.items i.leases.items)))
    (stripe-first nodes i before r rising c)

pub caused-grant : (nodes : List NodeInfo) (i j : Image) (before : List GrantRow) (r : GrantRow) (later : List GrantRow) (c : Cause)
    → i.grants.items ≡ before ++ r ∷ later → IsCut i (length i.nodes.items + length i.stripes.items + length before) j → first_cause nodes j ≡ None
    → (first_cause nodes i ≡ Some (1 + length i.nodes.items + length i.stripes.items + length before, c)) ↔ IsFirst (IsGrantFault before r) grant_causes c
caused-grant nodes i j before r later c split cut none =
    let ns = i.nodes.items in
    let ss = i.stripes.items in
    let gs = i.grants.items in
    let count = length ns + length ss + length before in
    let place = 1 + length ns + length ss in
    let all = cut.nodes ∙ take_all count ns (omega arith) in
    let all' = cut.stripes ∙ take_all (count - length ns) ss (omega arith) in
    let rows = cut-rows gs before later j.grants.items r (count - length ns - length ss) split (omega arith) cut.grants in
    both-ways
    (subst (λ (o : Answer). (o ≡ Some (place + length before, c)) ↔ (grant_cause before r ≡ Some c)) (sym (past-stripes nodes i j count cut none all all'))
    (row-at place grant_cause before r later gs (from_leases nodes i.clock i.upgrading (place + length gs) ns ss gs i.leases.items) c split
    (grants-none nodes i j count cut none all all' before rows).0
    (leases-from nodes i.clock i.upgrading (place + length gs) ns ss gs i.leases.items)))
    (grant-first before r c)

option-none : (o : Answer) → option_or o None ≡ o
option-none None = refl
option-none (Some r) = refl

pub caused-lease : (nodes : List NodeInfo) (i j : Image) (before : List LeaseRow) (r : LeaseRow) (later : List LeaseRow) (c : Cause)
    → i.leases.items ≡ before ++ r ∷ later → IsCut i (length i.nodes.items + length i.stripes.items + length i.grants.items + length before) j
    → first_cause nodes j ≡ None
    → (first_cause nodes i ≡ Some (1 + length i.nodes.items + length i.stripes.items + length i.grants.items + length before, c))
    ↔ IsFirst (IsLeaseFault nodes i before r) lease_causes c
caused-lease nodes i j before r later c split cut none =
    let ns = i.nodes.items in
    let ss = i.stripes.items in
    let gs = i.grants.items in
    let ls = i.leases.items in
    let count = length ns + length ss + length gs + length before in
    let place = 1 + length ns + length ss + length gs in
    let all = cut.nodes ∙ take_all count ns (omega arith) in
    let all' = cut.stripes ∙ take_all (count - length ns) ss (omega arith) in
    let all'' = cut.grants ∙ take_all (count - length ns - length ss) gs (omega arith) in
    let rows = cut-rows ls before later j.leases.items r (count - length ns - length ss - length gs) split (omega arith) cut.leases in
    let ask = lease_by nodes i.clock i.upgrading ns ss gs in
    let rising = subst (IsRising stripe_first) all' (lawful-rising nodes j (cause-lawful nodes j none)).stripes in
    both-ways
    (subst (λ (o : Answer). (o ≡ Some (place + length before, c)) ↔ (lease_cause nodes i before r ≡ Some c))
    (option-none (walk place ask [] ls) ∙ sym (past-grants nodes i j count cut none all all' all''))
    (row-at place ask before r later ls None c split (leases-none nodes i j count cut none all all' all'' before rows) (none-from (place + length ls))))
    (lease-first nodes i before r rising c)
