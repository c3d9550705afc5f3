-- The rows of the image of a state rise.
use Rattle.std.proofs.Common.{[], ◌≡◌, ℕ, ◌<◌, inl, inr, Bool, true, ◌&&◌, nat_lt, nat_eq, List, Option, Some, None, option_map, is_some, refl, sym, ap, subst, ◌∙◌, arith}
use Rattle.std.specs.Prelude.{option_to_list}
use Rattle.std.specs.List.{All, AllPairs, Contains}
use Rattle.std.proofs.lemmas.Bool.{lt-ltb, eq-eqb, and_parts, and_from, or_left, or_right}
use Rattle.lrc_code.specs.declared.codes.Code.TheVariants.{Wide}
use Rattle.lrc_code.specs.declared.numbers.StripeNo.{StripeNo}
use Rattle.lrc_code.specs.declared.numbers.NodeNo.{NodeNo}
use Rattle.lrc_code.specs.declared.numbers.Fragment.{Fragment}
use Rattle.lrc_code.specs.Codes.{all_fragments}
use Rattle.lrc_topology.specs.declared.NodeInfo.{NodeInfo}
use Rattle.lrc_topology.specs.Nodes.{node_at}
use Rattle.lrc_terms.specs.Stripes.{stripe_at}
use Rattle.lrc_terms.specs.declared.lease.Lease.{Lease}
use Rattle.lrc_terms.proofs.CodeListLemmas.{code-rising}
use Rattle.lrc_terms.proofs.LeaseLemmas.{leases_in-own}
use Rattle.lrc_rules.specs.declared.entry.Entry.{Entry}
use Rattle.lrc_rules.specs.States.{State, has_stripe, lease_of}
use Rattle.lrc_rules.proofs.MemberLemmas.{All-members, Contains-cases, not-Contains-nil}
use Rattle.lrc_rules.proofs.AlikeListLemmas.{flat-member}
use Rattle.lrc_images.specs.declared.image.NodeRow.{NodeRow}
use Rattle.lrc_images.specs.declared.image.StripeRow.{StripeRow}
use Rattle.lrc_images.specs.declared.image.GrantRow.{GrantRow}
use Rattle.lrc_images.specs.declared.image.LeaseRow.{LeaseRow}
use Rattle.lrc_images.specs.declared.image.Image.{Image}
use Rattle.lrc_images.specs.Rising.{node_first, stripe_first, grant_first, lease_first, tells_node, tells_grants, IsRising, AreRising}
use Rattle.lrc_images.specs.Rows.{node_no, row_of_node, node_rows, row_of_stripe, stripe_rows, row_of_grants, grant_rows, lease_row, stripe_leases, lease_rows, IsImageOf}
use Rattle.lrc_images.proofs.RowLemmas.{pairs-flat, pairs-option, there-row, pairs-single, pairs-rows, stripes-rise}

-- ---- nodes

module _ (nodes : List NodeInfo) (st : State) where
  -- the image has a row of the node
  abbrev pub has_row : NodeNo → Bool
  has_row n = is_some (node_at nodes n) && tells_node (row_of_node st n)

  nodes-rise : IsRising node_first (node_rows nodes st)
  nodes-rise =
      pairs-single node_no (row_of_node st) has_row 65536 (λ a b. node_first a b ≡ true) (λ (n m : NodeNo). n.value < m.value) (λ i j below within. below)
      (λ n m less. lt-ltb n.value m.value less)

  nodes-tell : All (λ r. tells_node r ≡ true) (node_rows nodes st)
  nodes-tell = All-members (λ r. tells_node r ≡ true) (node_rows nodes st) (λ r here.
      let own = there-row node_no (row_of_node st) has_row 65536 r here in
      subst (λ (r : NodeRow). tells_node r ≡ true) own.2 (and_parts (is_some (node_at nodes own.0)) (tells_node (row_of_node st own.0)) own.1).1)

-- ---- stripes and grants

-- the stripe has the lower number
abbrev IsLower : StripeNo → StripeNo → Type 0
IsLower s t = s.value < t.value

rows-rise : (st : State) → IsRising stripe_first (stripe_rows st)
rows-rise st =
    pairs-single stripe_at (row_of_stripe st) (has_stripe st) 4096 (λ a b. stripe_first a b ≡ true) IsLower (stripes-rise 4096 (omega arith))
    (λ s t less. lt-ltb s.value t.value less)

module _ (past : List Entry) where
  pub grants-rise : IsRising grant_first (grant_rows past)
  grants-rise =
      pairs-single stripe_at (row_of_grants past) (λ s. tells_grants (row_of_grants past s)) 4096 (λ a b. grant_first a b ≡ true) IsLower
      (stripes-rise 4096 (omega arith)) (λ s t less. lt-ltb s.value t.value less)

  grants-tell : All (λ r. tells_grants r ≡ true) (grant_rows past)
  grants-tell = All-members (λ r. tells_grants r ≡ true) (grant_rows past) (λ r here.
      let own = there-row stripe_at (row_of_grants past) (λ s. tells_grants (row_of_grants past s)) 4096 r here in
      subst (λ (r : GrantRow). tells_grants r ≡ true) own.2 own.1)

-- ---- leases

module _ (st : State) where
  abbrev pub leases_at : StripeNo → Fragment → List LeaseRow
  leases_at s f = option_to_list (option_map lease_row (lease_of st s f))

  row-by : (o : Option Lease) (r : LeaseRow) → Contains (option_to_list (option_map lease_row o)) r → (l : Lease) × (o ≡ Some l) × (lease_row l ≡ r)
  row-by None r here = absurd (not-Contains-nil r here)
  row-by (Some l) r here = elim (Contains-cases (lease_row l) r [] here) [
    | inl same ↦ (l, refl, same)
    | inr later ↦ absurd (not-Contains-nil r later)
  ]

  -- a row of a fragment is that of its lease
  pub row-lease : (s : StripeNo) (f : Fragment) (r : LeaseRow) → Contains (leases_at s f) r → (l : Lease) × (lease_of st s f ≡ Some l) × (lease_row l ≡ r)
  row-lease s f r here = row-by (lease_of st s f) r here

  row-fragment : (s : StripeNo) (f : Fragment) (r : LeaseRow) → Contains (leases_at s f) r → (r.stripe ≡ s) × (r.fragment.value ≡ f.value)
  row-fragment s f r here =
      let m = row-lease s f r here in
      let own = leases_in-own st.leases s f.value m.0 m.1 in (
        sym (ap (λ (r : LeaseRow). r.stripe) m.2) ∙ own.0,
        sym (ap (λ (r : LeaseRow). r.fragment.value) m.2) ∙ own.1,
      )

  row-stripe : (s : StripeNo) (r : LeaseRow) → Contains (stripe_leases st s) r → r.stripe ≡ s
  row-stripe s r here = let m = flat-member (leases_at s) all_fragments r here in (row-fragment s m.0 r m.2).0

  abbrev IsAhead : LeaseRow → LeaseRow → Type 0
  IsAhead a b = lease_first a b ≡ true

  own-rise : (s : StripeNo) → AllPairs IsAhead (stripe_leases st s)
  own-rise s =
      pairs-flat IsAhead (λ (f g : Fragment). f.value < g.value) (leases_at s) (λ f. pairs-option IsAhead (option_map lease_row (lease_of st s f)))
      (λ f g a b less here there.
      let x = row-fragment s f a here in
      let y = row-fragment s g b there in
      let same : a.stripe.value ≡ b.stripe.value = ap (λ (t : StripeNo). t.value) (x.0 ∙ sym y.0) in
      let fragment = x.1 in
      let other = y.1 in
      or_right (nat_lt a.stripe.value b.stripe.value) (nat_eq a.stripe.value b.stripe.value && nat_lt a.fragment.value b.fragment.value)
      (and_from (nat_eq a.stripe.value b.stripe.value) (nat_lt a.fragment.value b.fragment.value) (eq-eqb a.stripe.value b.stripe.value same)
      (lt-ltb a.fragment.value b.fragment.value (omega (arith, less, fragment, other)))))
      all_fragments (code-rising Wide)

  leases-rise : IsRising lease_first (lease_rows st)
  leases-rise =
      pairs-rows stripe_at (stripe_leases st) IsAhead IsLower 4096 (stripes-rise 4096 (omega arith)) own-rise
      (λ s t a b less here there.
      let x : a.stripe.value ≡ s.value = ap (λ (t : StripeNo). t.value) (row-stripe s a here) in
      let y : b.stripe.value ≡ t.value = ap (λ (t : StripeNo). t.value) (row-stripe t b there) in
      or_left (nat_lt a.stripe.value b.stripe.value) (nat_eq a.stripe.value b.stripe.value && nat_lt a.fragment.value b.fragment.value)
      (lt-ltb a.stripe.value b.stripe.value (omega (arith, less, x, y))))

-- ---- the image

pub image-rising : (nodes : List NodeInfo) (past : List Entry) (st : State) (before : ℕ) (i : Image) → IsImageOf nodes past st before i → AreRising i
image-rising nodes past st before i is = record {
  nodes = subst (λ (rows : List NodeRow). IsRising node_first rows) (sym is.nodes_are) (nodes-rise nodes st);
  stripes = subst (λ (rows : List StripeRow). IsRising stripe_first rows) (sym is.stripes_are) (rows-rise st);
  grants = subst (λ (rows : List GrantRow). IsRising grant_first rows) (sym is.grants_are) (grants-rise past);
  leases = subst (λ (rows : List LeaseRow). IsRising lease_first rows) (sym is.leases_are) (leases-rise st);
  telling_nodes = subst (λ (rows : List NodeRow). All (λ r. tells_node r ≡ true) rows) (sym is.nodes_are) (nodes-tell nodes st);
  telling_grants = subst (λ (rows : List GrantRow). All (λ r. tells_grants r ≡ true) rows) (sym is.grants_are) (grants-tell past);
}
