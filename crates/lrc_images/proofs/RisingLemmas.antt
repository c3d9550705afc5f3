-- Images whose rows rise: no stripe is there twice, and each fragment has at most one home and one lease.
use Rattle.std.proofs.Common.{[], ◌≡◌, ◌≢◌, inl, inr, Bool, true, false, if◌then◌else◌, nat_lt, List, ◌∷◌, map, filter, flat_map, get_or, Option, Some, None, refl, sym, ap, ◌∙◌, subst, arith}
use Rattle.std.specs.List.{AllPairs, Contains, list_any}
use Rattle.std.proofs.lemmas.Bool.{cases_Bool, eqb-true, eq-eqb, ltb-true, or_cases, and_parts, false_from_ne_true}
use Rattle.std.proofs.lemmas.List.Elements.{All-contains}
use Rattle.lrc_code.specs.declared.codes.Code.{Code}
use Rattle.lrc_code.specs.declared.codes.Code.TheVariants.{Wide, Narrow}
use Rattle.lrc_code.specs.declared.numbers.StripeNo.{StripeNo}
use Rattle.lrc_code.specs.declared.numbers.NodeNo.{NodeNo}
use Rattle.lrc_code.specs.declared.numbers.Fragment.{Fragment}
use Rattle.lrc_code.specs.Numbers.{same_stripe, same_node}
use Rattle.lrc_code.specs.Codes.{all_fragments}
use Rattle.lrc_code.proofs.NumbersLemmas.{equal_nodes}
use Rattle.lrc_topology.specs.declared.seat.Seat.{Seat}
use Rattle.lrc_topology.specs.declared.seat.Held.{Held}
use Rattle.lrc_terms.specs.declared.lease.Lease.{Lease}
use Rattle.lrc_terms.specs.Leased.{AreOneEach}
use Rattle.lrc_rules.specs.declared.entry.Entry.{Entry}
use Rattle.lrc_terms.specs.declared.mode.Mode.{Mode}
use Rattle.lrc_terms.specs.declared.mode.Mode.TheVariants.{Active, Draining, Gone}
use Rattle.lrc_rules.specs.States.{State, code_of, has_number}
use Rattle.lrc_terms.specs.Modes.{is_gone, is_draining}
use Rattle.lrc_rules.specs.Alike.{AreDistinct}
use Rattle.lrc_rules.proofs.MemberLemmas.{AllPairs-head, AllPairs-tail, Contains-cases, not-Contains-nil, filter-member, member-filter, list_any-member, member-list_any, map-member}
use Rattle.lrc_rules.proofs.TakenLemmas.{member-map}
use Rattle.lrc_rules.proofs.SeatingLists.{pairs-map}
use Rattle.lrc_rules.proofs.SeatingLemmas.{fragments-distinct}
use Rattle.lrc_rules.proofs.AlikeListLemmas.{flat-member}
use Rattle.lrc_images.specs.declared.image.NodeRow.{NodeRow}
use Rattle.lrc_images.specs.declared.image.StripeRow.{StripeRow}
use Rattle.lrc_images.specs.declared.image.LeaseRow.{LeaseRow}
use Rattle.lrc_images.specs.declared.image.Image.{Image}
use Rattle.lrc_images.specs.Images.{is_narrow, home_list, row_homes, row_lease, nodes_where, image_state, image_world}
use Rattle.lrc_images.specs.Rising.{node_first, stripe_first, lease_first, IsRising, AreRising}
use Rattle.lrc_images.proofs.RowLemmas.{pairs-none, pairs-flat}

-- ---- rising lists

module _ {X : Type 0} (first : X → X → Bool) where
  -- two elements of which none comes first are one
  pub rising-one : (xs : List X) → IsRising first xs → (a b : X) → Contains xs a → Contains xs b → ¬ (first a b ≡ true) → ¬ (first b a ≡ true) → a ≡ b
  rising-one [] rising a b here there ahead behind = absurd (not-Contains-nil a here)
  rising-one (x ∷ xs) rising a b here there ahead behind =
      let later = AllPairs-head (λ a b. first a b ≡ true) x xs rising in
      elim (Contains-cases x a xs here) [
        | inl now ↦ elim (Contains-cases x b xs there) [
          | inl same ↦ sym now ∙ same
          | inr more ↦ absurd (ahead (subst (λ z. first z b ≡ true) now (All-contains (λ z. first x z ≡ true) xs b later more)))
        ]
        | inr more ↦ elim (Contains-cases x b xs there) [
          | inl now ↦ absurd (behind (subst (λ z. first z a ≡ true) now (All-contains (λ z. first x z ≡ true) xs a later more)))
          | inr both ↦ rising-one xs (AllPairs-tail (λ a b. first a b ≡ true) x xs rising) a b more both ahead behind
        ]
      ]

pairs-weaker : {X : Type 0} (R S : X → X → Type 0) → ((x y : X) → R x y → S x y) → (xs : List X) → AllPairs R xs → AllPairs S xs
pairs-weaker R S so xs pairs = λ i j d below within. so (get_or xs i d) (get_or xs j d) (pairs i j d below within)

-- ---- nodes

-- the rows of a node are one
pub one-node : (rows : List NodeRow) → IsRising node_first rows → (a b : NodeRow) → Contains rows a → Contains rows b → a.node ≡ b.node → a ≡ b
one-node rows rising a b here there same =
    let number : a.node.value ≡ b.node.value = ap (λ (n : NodeNo). n.value) same in
    rising-one node_first rows rising a b here there
    (λ ahead. let less = ltb-true a.node.value b.node.value ahead in omega (arith, number, less))
    (λ behind. let less = ltb-true b.node.value a.node.value behind in omega (arith, number, less))

-- a node that is listed has a row that passes
pub node-row : (test : NodeRow → Bool) (rows : List NodeRow) (n : NodeNo) → Contains (nodes_where test rows) n
    → (r : NodeRow) × Contains rows r × (test r ≡ true) × (r.node ≡ n)
node-row test rows n here =
    let m = member-map (λ (r : NodeRow). r.node) (filter test rows) n here in
    let k = filter-member test rows m.0 m.1 in (m.0, k.0, k.1, m.2)

pub number-row : (test : NodeRow → Bool) (rows : List NodeRow) (n : NodeNo) → has_number (nodes_where test rows) n ≡ true
    → (r : NodeRow) × Contains rows r × (test r ≡ true) × (r.node ≡ n)
number-row test rows n hit =
    let m = member-list_any (same_node n) (nodes_where test rows) hit in
    let row = node-row test rows m.0 m.1 in
    (row.0, row.1, row.2, row.3 ∙ sym (equal_nodes n m.0 (eqb-true n.value m.0.value m.2)))

pub row-node : (test : NodeRow → Bool) (rows : List NodeRow) (r : NodeRow) → Contains rows r → test r ≡ true → Contains (nodes_where test rows) r.node
row-node test rows r here hit = map-member (λ (r : NodeRow). r.node) (filter test rows) r (member-filter test rows r here hit)

pub row-number : (test : NodeRow → Bool) (rows : List NodeRow) (r : NodeRow) → Contains rows r → test r ≡ true
    → has_number (nodes_where test rows) r.node ≡ true
row-number test rows r here hit =
    list_any-member (same_node r.node) (nodes_where test rows) r.node (row-node test rows r here hit) (eq-eqb r.node.value r.node.value refl)

-- ---- stripes and their homes

pub other-stripe : (a b : StripeRow) → stripe_first a b ≡ true → a.stripe ≢ b.stripe
other-stripe a b first same =
    let less = ltb-true a.stripe.value b.stripe.value first in
    let number : a.stripe.value ≡ b.stripe.value = ap (λ (s : StripeNo). s.value) same in omega (arith, less, number)

stripes-distinct : (rows : List StripeRow) → IsRising stripe_first rows → AllPairs (λ s t. s ≢ t) (map (λ r. r.stripe) rows)
stripes-distinct rows rising =
    pairs-map (λ s t. s ≢ t) (λ (r : StripeRow). r.stripe) rows
    (pairs-weaker (λ a b. stripe_first a b ≡ true) (λ (a b : StripeRow). a.stripe ≢ b.stripe) other-stripe rows rising)

-- the homes of a list have at most one of each fragment
abbrev pub AreOneHome : Held → Held → Type 0
AreOneHome h g = h.stripe ≡ g.stripe → h.fragment ≢ g.fragment

-- what a list with the home of a fragment says of a home in it
pub home-own : (s : StripeNo) (f : Fragment) (o : Option Seat) (h : Held) → Contains (home_list s f o) h
    → (h.stripe ≡ s) × (h.fragment ≡ f) × (o ≡ Some h.seat)
home-own s f None h here = absurd (not-Contains-nil h here)
home-own s f (Some seat) h here = elim (Contains-cases (record { stripe = s; fragment = f; seat = seat }) h [] here) [
  | inl same ↦ (ap (λ (g : Held). g.stripe) (sym same), ap (λ (g : Held). g.fragment) (sym same), ap (λ (g : Held). Some g.seat) same)
  | inr more ↦ absurd (not-Contains-nil h more)
]

home-single : (R : Held → Held → Type 0) (s : StripeNo) (f : Fragment) (o : Option Seat) → AllPairs R (home_list s f o)
home-single R s f None = pairs-none R
home-single R s f (Some seat) = λ i j d below within. absurd (omega (arith, below, within))

module _ (r : StripeRow) where
  abbrev pub homes_at : Fragment → List Held
  homes_at f = home_list r.stripe f (get_or r.homes f.value None)

  -- each home of the row is of its stripe
  pub row-stripe : (h : Held) → Contains (row_homes r) h → h.stripe ≡ r.stripe
  row-stripe h here =
      let m = flat-member homes_at all_fragments h here in (home-own r.stripe m.0 (get_or r.homes m.0.value None) h m.2).0

  row-homes-single : AllPairs AreOneHome (row_homes r)
  row-homes-single =
      pairs-flat AreOneHome (λ f g. f ≢ g) homes_at (λ f. home-single AreOneHome r.stripe f (get_or r.homes f.value None))
      (λ f g h k other here there stripe fragment.
      other (sym (home-own r.stripe f (get_or r.homes f.value None) h here).1 ∙ fragment ∙ (home-own r.stripe g (get_or r.homes g.value None) k there).1))
      all_fragments (fragments-distinct Wide)

pub homes-single : (rows : List StripeRow) → IsRising stripe_first rows → AllPairs AreOneHome (flat_map row_homes rows)
homes-single rows rising =
    pairs-flat AreOneHome (λ a b. stripe_first a b ≡ true) row_homes row-homes-single
    (λ a b h g first here there same. absurd (other-stripe a b first (sym (row-stripe a h here) ∙ same ∙ row-stripe b g there))) rows rising

-- ---- codes

-- the code of a row's stripe is that of the row
narrow-row : (rows : List StripeRow) (r : StripeRow) → IsRising stripe_first rows → Contains rows r
    → list_any (same_stripe r.stripe) (map (λ r. r.stripe) (filter (λ r. is_narrow r.code) rows)) ≡ is_narrow r.code
narrow-row rows r rising here =
    let narrow = map (λ (r : StripeRow). r.stripe) (filter (λ r. is_narrow r.code) rows) in
    elim (cases_Bool (is_narrow r.code)) [
      | inl hit ↦
          list_any-member (same_stripe r.stripe) narrow r.stripe
          (map-member (λ (r : StripeRow). r.stripe) (filter (λ r. is_narrow r.code) rows) r (member-filter (λ (r : StripeRow). is_narrow r.code) rows r here hit))
          (eq-eqb r.stripe.value r.stripe.value refl)
          ∙ sym hit
      | inr miss ↦ false_from_ne_true (list_any (same_stripe r.stripe) narrow) (λ found.
          let m = member-list_any (same_stripe r.stripe) narrow found in
          let k = member-map (λ (r : StripeRow). r.stripe) (filter (λ r. is_narrow r.code) rows) m.0 m.1 in
          let row = filter-member (λ (r : StripeRow). is_narrow r.code) rows k.0 k.1 in
          let number : r.stripe.value ≡ k.0.stripe.value = eqb-true r.stripe.value m.0.value m.2 ∙ ap (λ (s : StripeNo). s.value) (sym k.2) in
          let same = rising-one stripe_first rows rising r k.0 here row.0
          (λ ahead. let less = ltb-true r.stripe.value k.0.stripe.value ahead in omega (arith, number, less))
          (λ behind. let less = ltb-true k.0.stripe.value r.stripe.value behind in omega (arith, number, less)) in
          (let both : true ≡ false = sym row.1 ∙ ap (λ (r : StripeRow). is_narrow r.code) (sym same) ∙ miss in cc)) ∙ sym miss
    ]

narrow-code : (code : Code) → (if is_narrow code then Narrow else Wide) ≡ code
narrow-code Wide = refl
narrow-code Narrow = refl

pub code-row : (st : State) (rows : List StripeRow) (r : StripeRow) → st.narrow ≡ map (λ r. r.stripe) (filter (λ r. is_narrow r.code) rows)
    → IsRising stripe_first rows → Contains rows r → code_of st r.stripe ≡ r.code
code-row st rows r are rising here =
    ap (λ (narrow : List StripeNo). if list_any (same_stripe r.stripe) narrow then Narrow else Wide) are
    ∙ ap (λ (b : Bool). if b then Narrow else Wide) (narrow-row rows r rising here)
    ∙ narrow-code r.code

-- ---- leases

pub other-lease : (a b : LeaseRow) → lease_first a b ≡ true → a.stripe ≡ b.stripe → a.fragment ≢ b.fragment
other-lease a b first stripe fragment =
    let s : a.stripe.value ≡ b.stripe.value = ap (λ (s : StripeNo). s.value) stripe in
    let f : a.fragment.value ≡ b.fragment.value = ap (λ (f : Fragment). f.value) fragment in
    elim (or_cases (nat_lt a.stripe.value b.stripe.value) _ first) [
      | inl sooner ↦ let less = ltb-true a.stripe.value b.stripe.value sooner in omega (arith, s, less)
      | inr same ↦ let less = ltb-true a.fragment.value b.fragment.value (and_parts (same_stripe a.stripe b.stripe) _ same).1 in omega (arith, f, less)
    ]

pub leases-single : (past : List Entry) (rows : List LeaseRow) → IsRising lease_first rows → AreOneEach (map (row_lease past) rows)
leases-single past rows rising =
    pairs-map (λ (k l : Lease). k.stripe ≡ l.stripe → k.fragment ≢ l.fragment) (row_lease past) rows
    (pairs-weaker (λ a b. lease_first a b ≡ true) (λ (a b : LeaseRow). a.stripe ≡ b.stripe → a.fragment ≢ b.fragment) other-lease rows rising)

-- ---- the state

module _ (i : Image) (rising : AreRising i) where
  pub rising-distinct : AreDistinct (image_state i)
  rising-distinct = record {
    stripes = stripes-distinct i.stripes.items rising.stripes;
    homes = pairs-weaker AreOneHome (λ h g. h ≢ g) (λ h g one same. one (ap (λ (h : Held). h.stripe) same) (ap (λ (h : Held). h.fragment) same))
        (image_state i).homes (homes-single i.stripes.items rising.stripes);
    leases = pairs-weaker (λ (k l : Lease). k.stripe ≡ l.stripe → k.fragment ≢ l.fragment) (λ k l. k ≢ l)
        (λ k l one same. one (ap (λ (l : Lease). l.stripe) same) (ap (λ (l : Lease). l.fragment) same))
        (image_state i).leases (leases-single (image_world i).past i.leases.items rising.leases);
  }

  -- no node is both gone and draining
  pub rising-apart : (n : NodeNo) → has_number (image_state i).gone n ≡ true → has_number (image_state i).draining n ≡ false
  rising-apart n gone = false_from_ne_true (has_number (image_state i).draining n) (λ draining.
      let a = number-row (λ (r : NodeRow). is_gone r.mode) i.nodes.items n gone in
      let b = number-row (λ (r : NodeRow). is_draining r.mode) i.nodes.items n draining in
      let same = one-node i.nodes.items rising.nodes a.0 b.0 a.1 b.1 (a.3 ∙ sym b.3) in
      never a.0.mode a.2 (ap (λ (r : NodeRow). is_draining r.mode) same ∙ b.2))
    where
      never : (m : Mode) → is_gone m ≡ true → is_draining m ≡ true → ⊥
      never Active x y = cc
      never Draining x y = cc
      never Gone x y = cc
