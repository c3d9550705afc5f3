-- What it says of an image that no row is wrong, row by row.
use Rattle.std.proofs.Common.{[], ◌≡◌, ◌≢◌, ◌+◌, ◌<◌, ◌≤◌, ℕ, Bool, true, false, not, ◌&&◌, nat_lt, nat_le, nat_eq, List, length, get_or, Option, Some, None, option_map, IfSome, IsSome, IsTrue, is_none, refl, sym, ap, ◌∙◌, subst, arith}
use Rattle.std.specs.List.{All, list_any}
use Rattle.std.specs.Option.{option_map_or}
use Rattle.std.proofs.lemmas.Bool.{ltb-true, ltb-false, leb-true, eqb-false, and_parts, and_from}
use Rattle.std.proofs.lemmas.List.Elements.{All-contains}
use Rattle.lrc_code.specs.declared.numbers.NodeNo.{NodeNo}
use Rattle.lrc_code.specs.declared.numbers.UpgradeNo.{UpgradeNo}
use Rattle.lrc_code.specs.declared.numbers.StripeNo.{StripeNo}
use Rattle.lrc_code.specs.declared.numbers.Fragment.{Fragment}
use Rattle.lrc_code.specs.Codes.{all_fragments}
use Rattle.lrc_topology.specs.declared.NodeInfo.{NodeInfo}
use Rattle.lrc_topology.specs.Nodes.{node_at, has_domain}
use Rattle.lrc_terms.specs.declared.mode.Mode.TheVariants.{Gone}
use Rattle.lrc_rules.specs.States.{has_stripe, has_number, held_by, mode_of}
use Rattle.lrc_terms.specs.Modes.{is_gone}
use Rattle.lrc_rules.specs.Leases.{grants, term}
use Rattle.lrc_rules.specs.Tidiness.{AreOfStore}
use Rattle.lrc_rules.proofs.MemberLemmas.{All-members, All-list_any}
use Rattle.lrc_rules.proofs.NodeWordsLemmas.{flips-false, gone-there}
use Rattle.lrc_images.specs.declared.cause.Cause.TheVariants as cause
use Rattle.lrc_images.specs.declared.image.NodeRow.{NodeRow}
use Rattle.lrc_images.specs.declared.image.GrantRow.{GrantRow}
use Rattle.lrc_images.specs.declared.image.LeaseRow.{LeaseRow}
use Rattle.lrc_images.specs.declared.image.Image.{Image}
use Rattle.lrc_images.specs.Images.{earlier, row_lease, nodes_where, image_state}
use Rattle.lrc_images.specs.Rising.{node_first, stripe_first, grant_first, lease_first, tells_node, tells_grants, AreRising}
use Rattle.lrc_images.specs.Causes.{most_grants, most_ticks, most_entries, first_answer, at_place, is_out_of_order, head_cause, node_cause, homes_cause, stripe_cause, grant_cause, seat_cause, with_leases, lease_cause, first_cause}
use Rattle.lrc_images.proofs.EarlierLemmas.{wide-fragment, grants-earlier, few-counted}
use Rattle.lrc_images.proofs.AnswerLemmas.{if-none, or-none, map-none, none-or, none-map, IsClear, none-clear, clear-none, clear-all, clear-pairs, place-clear, clear-place, comes-after}
use Rattle.lrc_images.proofs.RowLemmas.{pairs-none}
use Rattle.lrc_images.proofs.RisingLemmas.{node-row, number-row, one-node}

-- no row of the image is wrong
pub record IsLawful (nodes : List NodeInfo) (i : Image) : Type 0 where
  pub head : head_cause nodes i ≡ None
  pub node_rows : IsClear (node_cause nodes) [] i.nodes.items
  pub stripe_rows : IsClear (stripe_cause nodes i) [] i.stripes.items
  pub grant_rows : IsClear grant_cause [] i.grants.items
  pub lease_rows : IsClear (lease_cause nodes i) [] i.leases.items

module _ (nodes : List NodeInfo) (i : Image) where
  abbrev stripes_from : ℕ
  stripes_from = 1 + length i.nodes.items

  abbrev grants_from : ℕ
  grants_from = stripes_from + length i.stripes.items

  abbrev leases_from : ℕ
  leases_from = grants_from + length i.grants.items

  pub cause-lawful : first_cause nodes i ≡ None → IsLawful nodes i
  unfolding first_cause
  cause-lawful e =
      let head = or-none (option_map (λ c. (0, c)) (head_cause nodes i)) _ e in
      let node = or-none (first_answer (at_place 1 (node_cause nodes)) [] i.nodes.items) _ head.1 in
      let stripe = or-none (first_answer (at_place stripes_from (stripe_cause nodes i)) [] i.stripes.items) _ node.1 in
      let grant = or-none (first_answer (at_place grants_from grant_cause) [] i.grants.items) _ stripe.1 in
      record {
        head = map-none (λ c. (0, c)) (head_cause nodes i) head.0;
        node_rows = place-clear 1 (node_cause nodes) [] i.nodes.items (none-clear (at_place 1 (node_cause nodes)) [] i.nodes.items node.0);
        stripe_rows = place-clear stripes_from (stripe_cause nodes i) [] i.stripes.items
            (none-clear (at_place stripes_from (stripe_cause nodes i)) [] i.stripes.items stripe.0);
        grant_rows = place-clear grants_from grant_cause [] i.grants.items (none-clear (at_place grants_from grant_cause) [] i.grants.items grant.0);
        lease_rows = place-clear leases_from (lease_cause nodes i) [] i.leases.items
            (none-clear (at_place leases_from (lease_cause nodes i)) [] i.leases.items grant.1);
      }

  pub lawful-cause : IsLawful nodes i → first_cause nodes i ≡ None
  unfolding first_cause
  lawful-cause lawful =
      none-or (option_map (λ c. (0, c)) (head_cause nodes i)) _ (none-map (λ c. (0, c)) (head_cause nodes i) lawful.head)
      (none-or (first_answer (at_place 1 (node_cause nodes)) [] i.nodes.items) _
      (clear-none (at_place 1 (node_cause nodes)) [] i.nodes.items (clear-place 1 (node_cause nodes) [] i.nodes.items lawful.node_rows))
      (none-or (first_answer (at_place stripes_from (stripe_cause nodes i)) [] i.stripes.items) _
      (clear-none (at_place stripes_from (stripe_cause nodes i)) [] i.stripes.items (clear-place stripes_from (stripe_cause nodes i) [] i.stripes.items lawful.stripe_rows))
      (none-or (first_answer (at_place grants_from grant_cause) [] i.grants.items) _
      (clear-none (at_place grants_from grant_cause) [] i.grants.items (clear-place grants_from grant_cause [] i.grants.items lawful.grant_rows))
      (clear-none (at_place leases_from (lease_cause nodes i)) [] i.leases.items (clear-place leases_from (lease_cause nodes i) [] i.leases.items lawful.lease_rows)))))

-- ---- one row

some-of : {X : Type 0} (o : Option X) → is_none o ≡ false → IsSome o
some-of (Some x) e = refl
some-of None e = absurd (let never : true ≡ false = e in cc)

-- what is said of a node's row
pub record IsNodeRow (nodes : List NodeInfo) (before : List NodeRow) (r : NodeRow) : Type 0 where
  pub after : All (λ b. node_first b r ≡ true) before
  pub tells : tells_node r ≡ true
  pub found : IsSome (node_at nodes r.node)
  pub up : (is_gone r.mode && r.is_down) ≡ false

pub node-row_is : (nodes : List NodeInfo) (before : List NodeRow) (r : NodeRow) → node_cause nodes before r ≡ None → IsNodeRow nodes before r
node-row_is nodes before r none =
    let order = if-none (is_out_of_order node_first before r) cause.OutOfOrder _ none in
    let telling = if-none (not (tells_node r)) cause.SaysNothing _ order.1 in
    let known = if-none (is_none (node_at nodes r.node)) cause.UnknownNode _ telling.1 in
    record {
      after = comes-after node_first before r order.0;
      tells = flips-false (tells_node r) telling.0;
      found = some-of (node_at nodes r.node) known.0;
      up = (if-none (is_gone r.mode && r.is_down) cause.GoneAndDown None known.1).0;
    }

-- what is said of a row of grants
record IsGrantRow (before : List GrantRow) (r : GrantRow) : Type 0 where
  after : All (λ b. grant_first b r ≡ true) before
  tells : tells_grants r ≡ true
  few : (f : Fragment) → get_or r.granted f.value 0 ≤ most_grants

grant-row_is : (before : List GrantRow) (r : GrantRow) → grant_cause before r ≡ None → IsGrantRow before r
grant-row_is before r none =
    let many = λ (f : Fragment). nat_lt most_grants (get_or r.granted f.value 0) in
    let order = if-none (is_out_of_order grant_first before r) cause.OutOfOrder _ none in
    let telling = if-none (not (tells_grants r)) cause.SaysNothing _ order.1 in
    let few = if-none (list_any many all_fragments) cause.TooManyGrants None telling.1 in
    record {
      after = comes-after grant_first before r order.0;
      tells = flips-false (tells_grants r) telling.0;
      few = λ f. ltb-false most_grants (get_or r.granted f.value 0)
          (All-contains (λ f. many f ≡ false) all_fragments f (All-list_any many all_fragments few.0) (wide-fragment f));
    }

-- what is said of a lease's row
pub record IsLeaseRow (nodes : List NodeInfo) (i : Image) (before : List LeaseRow) (r : LeaseRow) : Type 0 where
  pub after : All (λ b. lease_first b r ≡ true) before
  pub there : has_stripe (image_state i) r.stripe ≡ true
  pub granted : 1 ≤ grants (earlier i.grants.items) r.stripe r.fragment
  pub running : i.clock < r.expiry
  pub termed : r.expiry ≤ i.clock + term
  pub seat : seat_cause nodes (with_leases i before) (held_by (row_lease (earlier i.grants.items) r)) ≡ None

pub lease-row : (nodes : List NodeInfo) (i : Image) (before : List LeaseRow) (r : LeaseRow) → lease_cause nodes i before r ≡ None → IsLeaseRow nodes i before r
lease-row nodes i before r none =
    let count = grants (earlier i.grants.items) r.stripe r.fragment in
    let order = if-none (is_out_of_order lease_first before r) cause.OutOfOrder _ none in
    let there = if-none (not (has_stripe (image_state i) r.stripe)) cause.UnknownStripe _ order.1 in
    let granted = if-none (nat_eq count 0) cause.NeverGranted _ there.1 in
    let term_is = if-none (not (nat_lt i.clock r.expiry && nat_le r.expiry (i.clock + term))) cause.WrongExpiry _ granted.1 in
    let within = and_parts (nat_lt i.clock r.expiry) (nat_le r.expiry (i.clock + term)) (flips-false _ term_is.0) in
    record {
      after = comes-after lease_first before r order.0;
      there = flips-false (has_stripe (image_state i) r.stripe) there.0;
      granted = let some = eqb-false count 0 granted.0 in omega (arith, some);
      running = ltb-true i.clock r.expiry within.0;
      termed = leb-true r.expiry (i.clock + term) within.1;
      seat = term_is.1;
    }

-- ---- the image

domain-by : (nodes : List NodeInfo) (o : Option UpgradeNo) → option_map_or (λ u. not (has_domain nodes u)) o false ≡ false → IfSome o (λ u. IsTrue (has_domain nodes u))
domain-by nodes None e = tt
domain-by nodes (Some u) e = flips-false (has_domain nodes u) e

-- what is said of the rest
record IsHead (nodes : List NodeInfo) (i : Image) : Type 0 where
  domain : IfSome i.upgrading (λ u. IsTrue (has_domain nodes u))
  entries : i.before ≤ most_entries
  ticks : i.clock ≤ most_ticks

head_is : (nodes : List NodeInfo) (i : Image) → head_cause nodes i ≡ None → IsHead nodes i
head_is nodes i none =
    let domain = if-none (option_map_or (λ u. not (has_domain nodes u)) i.upgrading false) cause.UnknownDomain _ none in
    let entries = if-none (nat_lt most_entries i.before) cause.TooManyEntries _ domain.1 in
    let ticks = if-none (nat_lt most_ticks i.clock) cause.TooManyTicks None entries.1 in
    record {
      domain = domain-by nodes i.upgrading domain.0;
      entries = ltb-false most_entries i.before entries.0;
      ticks = ltb-false most_ticks i.clock ticks.0;
    }

module _ (nodes : List NodeInfo) (i : Image) (lawful : IsLawful nodes i) where
  pub lawful-domain : IfSome i.upgrading (λ u. IsTrue (has_domain nodes u))
  lawful-domain = (head_is nodes i lawful.head).domain

  pub lawful-entries : i.before ≤ most_entries
  lawful-entries = (head_is nodes i lawful.head).entries

  pub lawful-ticks : i.clock ≤ most_ticks
  lawful-ticks = (head_is nodes i lawful.head).ticks

  pub lawful-rising : AreRising i
  lawful-rising = record {
    nodes = clear-pairs (node_cause nodes) (λ a b. node_first a b ≡ true) (λ before r e. (node-row_is nodes before r e).after) [] i.nodes.items
        (pairs-none (λ a b. node_first a b ≡ true)) lawful.node_rows;
    stripes = clear-pairs (stripe_cause nodes i) (λ a b. stripe_first a b ≡ true)
        (λ before r e. comes-after stripe_first before r (if-none (is_out_of_order stripe_first before r) cause.OutOfOrder (homes_cause nodes i before r) e).0)
        [] i.stripes.items (pairs-none (λ a b. stripe_first a b ≡ true)) lawful.stripe_rows;
    grants = clear-pairs grant_cause (λ a b. grant_first a b ≡ true) (λ before r e. (grant-row_is before r e).after) [] i.grants.items
        (pairs-none (λ a b. grant_first a b ≡ true)) lawful.grant_rows;
    leases = clear-pairs (lease_cause nodes i) (λ a b. lease_first a b ≡ true) (λ before r e. (lease-row nodes i before r e).after) [] i.leases.items
        (pairs-none (λ a b. lease_first a b ≡ true)) lawful.lease_rows;
    telling_nodes = clear-all (node_cause nodes) (λ r. tells_node r ≡ true) (λ before r e. (node-row_is nodes before r e).tells) [] i.nodes.items lawful.node_rows;
    telling_grants = clear-all grant_cause (λ r. tells_grants r ≡ true) (λ before r e. (grant-row_is before r e).tells) [] i.grants.items lawful.grant_rows;
  }

  -- the store has each node of a row
  pub lawful-nodes : (test : NodeRow → Bool) → AreOfStore nodes (nodes_where test i.nodes.items)
  lawful-nodes test = All-members (λ n. IsSome (node_at nodes n)) (nodes_where test i.nodes.items) (λ n here.
      let row = node-row test i.nodes.items n here in
      subst (λ (n : NodeNo). IsSome (node_at nodes n)) row.3
      (All-contains (λ (r : NodeRow). IsSome (node_at nodes r.node)) i.nodes.items row.0
      (clear-all (node_cause nodes) (λ r. IsSome (node_at nodes r.node)) (λ before r e. (node-row_is nodes before r e).found) [] i.nodes.items lawful.node_rows) row.1))

  -- no node that is down is gone
  pub lawful-down : All (λ n. mode_of (image_state i) n ≢ Gone) (image_state i).down
  lawful-down = All-members (λ n. mode_of (image_state i) n ≢ Gone) (image_state i).down (λ n here gone.
      let st = image_state i in
      let a = node-row (λ (r : NodeRow). r.is_down) i.nodes.items n here in
      let b = number-row (λ (r : NodeRow). is_gone r.mode) i.nodes.items n (gone-there (has_number st.gone n) (has_number st.draining n) gone) in
      let same = one-node i.nodes.items lawful-rising.nodes a.0 b.0 a.1 b.1 (a.3 ∙ sym b.3) in
      let up = All-contains (λ (r : NodeRow). (is_gone r.mode && r.is_down) ≡ false) i.nodes.items a.0
      (clear-all (node_cause nodes) (λ r. (is_gone r.mode && r.is_down) ≡ false) (λ before r e. (node-row_is nodes before r e).up) [] i.nodes.items lawful.node_rows) a.1 in
      (let both : true ≡ false = sym (and_from (is_gone a.0.mode) a.0.is_down (ap (λ (r : NodeRow). is_gone r.mode) same ∙ b.2) a.2) ∙ up in cc))

  pub lawful-counts : (s : StripeNo) (f : Fragment) → grants (earlier i.grants.items) s f ≤ most_grants
  lawful-counts s f =
      let sum = grants-earlier s f i.grants.items in
      let few = few-counted s f most_grants i.grants.items lawful-rising.grants
      (clear-all grant_cause (λ r. get_or r.granted f.value 0 ≤ most_grants) (λ before r e. (grant-row_is before r e).few f) [] i.grants.items lawful.grant_rows) in
      omega (arith, sum, few)
