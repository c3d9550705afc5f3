-- What is left after a node failed.
use Rattle.std.proofs.Common.{◌≡◌, ◌≢◌, ◌↔◌, ◌&&◌, Bool, true, false, not, List, refl, sym, ap, ◌∙◌}
use Rattle.std.specs.List.{Contains, list_any}
use Rattle.std.proofs.lemmas.Bool.{not-true, and_parts, and_from, eqb-true, eqb-false, eq-eqb, ne_eqb}
use Rattle.lrc_code.specs.declared.numbers.StripeNo.{StripeNo}
use Rattle.lrc_code.specs.declared.numbers.NodeNo.{NodeNo}
use Rattle.lrc_code.specs.declared.numbers.Fragment.{Fragment}
use Rattle.lrc_code.specs.Numbers.{same_stripe, same_fragment}
use Rattle.lrc_code.proofs.NumbersLemmas.{equal_stripes, equal_fragments, equal_nodes}
use Rattle.lrc_topology.specs.declared.NodeInfo.{NodeInfo}
use Rattle.lrc_topology.specs.declared.seat.Held.{Held}
use Rattle.lrc_terms.specs.declared.lease.Lease.{Lease as LeaseRecord}
use Rattle.lrc_terms.specs.Leased.{is_target_on}
use Rattle.lrc_rules.specs.declared.node_command.NodeCommand.TheVariants.{Fail}
use Rattle.lrc_rules.specs.declared.reply.Reply.TheVariants.{Changed}
use Rattle.lrc_rules.specs.States.{State, is_home_of}
use Rattle.lrc_rules.specs.Steps.{stands_on, hangs_on, emptied, node_outcome}
use Rattle.lrc_rules.proofs.MemberLemmas.{filter-member, member-filter, list_any-member, member-list_any}
use Rattle.lrc_rules.proofs.NodeCommandLemmas.{after-node}
use Rattle.lrc_rules.proofs.NodeWordsLemmas.{none-is, is-none}

module _ (st : State) (n : NodeNo) where
  -- ---- homes

  stands-on : (h : Held) → h.seat.node ≡ n → stands_on n h ≡ true
  stands-on h same = eq-eqb n.value h.seat.node.value (ap (λ (m : NodeNo). m.value) (sym same))

  stands-off : (h : Held) → h.seat.node ≢ n → stands_on n h ≡ false
  stands-off h other = ne_eqb n.value h.seat.node.value (λ same. other (sym (equal_nodes n h.seat.node same)))

  stands-apart : (h : Held) → stands_on n h ≡ false → h.seat.node ≢ n
  stands-apart h miss same = (let both : true ≡ false = sym (stands-on h same) ∙ miss in cc)

  homes-left : (h : Held) → Contains (emptied st n).homes h ↔ (Contains st.homes h × (h.seat.node ≢ n))
  homes-left h = (
    λ here. let parts = filter-member (λ (g : Held). not (stands_on n g)) st.homes h here in (parts.0, stands-apart h (not-true _ parts.1)),
    λ so. member-filter (λ (g : Held). not (stands_on n g)) st.homes h so.0 (ap not (stands-off h so.1)),
  )

  -- ---- leases

  -- no home of the lease's fragment is on the node
  abbrev NoHomeOf : LeaseRecord → Type 0
  NoHomeOf l = (h : Held) → Contains st.homes h → h.stripe ≡ l.stripe → h.fragment ≡ l.fragment → h.seat.node ≢ n

  abbrev is_own : LeaseRecord → Held → Bool
  is_own l h = is_home_of l.stripe l.fragment h && stands_on n h

  none-found : (l : LeaseRecord) → list_any (is_own l) st.homes ≡ false → NoHomeOf l
  none-found l miss h here same_s same_f on =
      let own : is_own l h ≡ true =
      and_from _ _ (and_from _ _ (eq-eqb h.stripe.value l.stripe.value (ap (λ (s : StripeNo). s.value) same_s))
      (eq-eqb h.fragment.value l.fragment.value (ap (λ (f : Fragment). f.value) same_f))) (stands-on h on) in
      (let both : true ≡ false = sym (list_any-member (is_own l) st.homes h here own) ∙ miss in cc)

  found-none : (l : LeaseRecord) → NoHomeOf l → (b : Bool) → list_any (is_own l) st.homes ≡ b → b ≡ false
  found-none l none false is = refl
  found-none l none true is =
      let m = member-list_any (is_own l) st.homes is in
      let parts = and_parts (is_home_of l.stripe l.fragment m.0) (stands_on n m.0) m.2 in
      let own = and_parts (same_stripe m.0.stripe l.stripe) (same_fragment m.0.fragment l.fragment) parts.0 in
      absurd (none m.0 m.1 (equal_stripes m.0.stripe l.stripe (eqb-true _ _ own.0)) (equal_fragments m.0.fragment l.fragment (eqb-true _ _ own.1))
      (sym (equal_nodes n m.0.seat.node (eqb-true _ _ parts.1))))

  target-off : (l : LeaseRecord) → is_target_on n l ≡ false → l.target.node ≢ n
  target-off l miss same = eqb-false l.target.node.value n.value miss (ap (λ (m : NodeNo). m.value) same)

  off-target : (l : LeaseRecord) → l.target.node ≢ n → is_target_on n l ≡ false
  off-target l other = ne_eqb l.target.node.value n.value (λ same. other (equal_nodes l.target.node n same))

  leases-left : (l : LeaseRecord) → Contains (emptied st n).leases l ↔ (Contains st.leases l × (l.target.node ≢ n) × NoHomeOf l)
  leases-left l = (
    λ here.
        let parts = filter-member (λ (k : LeaseRecord). not (hangs_on st n k)) st.leases l here in
        let off = none-is (is_target_on n l) (list_any (is_own l) st.homes) (not-true _ parts.1) in
        (parts.0, target-off l off.0, none-found l off.1),
    λ so.
        member-filter (λ (k : LeaseRecord). not (hangs_on st n k)) st.leases l so.0
        (ap not (is-none (is_target_on n l) (list_any (is_own l) st.homes) (off-target l so.1) (found-none l so.2 (list_any (is_own l) st.homes) refl))),
  )

  -- ---- the step

  module _ (nodes : List NodeInfo) where
    pub failed-homes : (h : Held) → (node_outcome nodes st Fail n).0 ≡ Changed
        → Contains (node_outcome nodes st Fail n).1.homes h ↔ (Contains st.homes h × (h.seat.node ≢ n))
    failed-homes h =
        after-node nodes st Fail n (λ (next : State). Contains next.homes h ↔ (Contains st.homes h × (h.seat.node ≢ n))) (λ allowed. homes-left h)

    pub failed-leases : (l : LeaseRecord) → (node_outcome nodes st Fail n).0 ≡ Changed
        → Contains (node_outcome nodes st Fail n).1.leases l ↔ (Contains st.leases l × (l.target.node ≢ n) × NoHomeOf l)
    failed-leases l =
        after-node nodes st Fail n (λ (next : State). Contains next.leases l ↔ (Contains st.leases l × (l.target.node ≢ n) × NoHomeOf l))
        (λ allowed. leases-left l)
