-- What a command leaves as it was: the codes and the homes of other stripes, whether other nodes are online, and loads.
use Rattle.std.proofs.Common.{◌≡◌, ◌≢◌, ℕ, ◌<◌, Bool, true, false, not, ◌&&◌, ◌||◌, if◌then◌else◌, eqb, List, [], ◌∷◌, map, filter, find, get_or, Option, Some, None, refl, sym, ap, ap₂, ◌∙◌, subst, inl, inr}
use Rattle.std.proofs.Math.Path.{fun_ext}
use Rattle.std.specs.List.{list_any}
use Rattle.std.specs.Option.{option_map_or}
use Rattle.std.proofs.lemmas.Bool.{cases_Bool, eqb-true, eqb-false, eq-eqb, ne_eqb, and_parts}
use Rattle.std.proofs.lemmas.List.Folds.{list_any-append}
use Rattle.lrc_code.specs.declared.codes.Code.{Code}
use Rattle.lrc_code.specs.declared.codes.Code.TheVariants.{Wide, Narrow}
use Rattle.lrc_code.specs.declared.numbers.StripeNo.{StripeNo}
use Rattle.lrc_code.specs.declared.numbers.NodeNo.{NodeNo}
use Rattle.lrc_code.specs.declared.numbers.UpgradeNo.{UpgradeNo}
use Rattle.lrc_code.specs.declared.numbers.SessionNo.{SessionNo}
use Rattle.lrc_code.specs.declared.numbers.Fragment.{Fragment}
use Rattle.lrc_code.specs.Codes.{fragments, all_fragments}
use Rattle.lrc_code.specs.Numbers.{same_stripe, same_node, same_upgrade}
use Rattle.lrc_topology.specs.declared.NodeInfo.{NodeInfo}
use Rattle.lrc_topology.specs.declared.seat.Seat.{Seat}
use Rattle.lrc_topology.specs.declared.seat.Held.{Held}
use Rattle.lrc_topology.specs.Nodes.{node_at, nodes_in}
use Rattle.lrc_terms.specs.Levels.{home_of, homes_of}
use Rattle.lrc_terms.specs.Modes.{is_gone}
use Rattle.lrc_terms.specs.declared.lease.Lease.{Lease as LeaseRecord}
use Rattle.lrc_terms.specs.declared.mode.Mode.TheVariants.{Active, Draining, Gone}
use Rattle.lrc_terms.proofs.LevelLemmas.{has_some-false}
use Rattle.lrc_homes.specs.Homes.{sits_on}
use Rattle.lrc_rules.specs.declared.command.Command.{Command}
use Rattle.lrc_rules.specs.declared.command.Command.TheVariants.{Place, Place6, Drop, Done, Fail, Down, Up, Retire, Join, Upgrade, Upgraded}
use Rattle.lrc_rules.specs.declared.reply.Reply.{Reply}
use Rattle.lrc_rules.specs.declared.reply.Reply.TheVariants.{Refused, Idle, Placed, Placed6, Dropped, Ended, Changed}
use Rattle.lrc_rules.specs.declared.entry.Entry.{Entry}
use Rattle.lrc_rules.specs.States.{State, has_stripe, code_of, has_number, is_home_of, mode_of, is_online, is_upgrading, online_at, lease_of}
use Rattle.lrc_rules.specs.Steps.{step, stands_on, without_stripe}
use Rattle.lrc_rules.specs.Changes.{held_at, with_placed, with_done, changed_by}
use Rattle.lrc_rules.proofs.MemberLemmas.{list_any-member, member-filter}
use Rattle.lrc_rules.proofs.NodeLemmas.{member-node_at}
use Rattle.lrc_rules.proofs.NodeCommandLemmas.{IsAsItWas}
use Rattle.lrc_rules.proofs.OtherModesLemmas.{changed-same}
use Rattle.lrc_rules.proofs.PlacedHomesLemmas.{none-added, before-none, homes-append}
use Rattle.lrc_rules.proofs.CodedLemmas.{code-other, code-left, narrow-left}
use Rattle.lrc_rules.proofs.StepLemmas.{step-changed, refused-keeps}
use Rattle.lrc_rules.proofs.LookUpLemmas.{is_of, seat_in, find-kept, homes-without}
use Rattle.lrc_rules.proofs.ToldLemmas.{upgraded-told, upgrade-told}
use Rattle.lrc_rules.specs.Boards.{loads_of}
use Rattle.lrc_board.specs.Views.{homes_row}
use Rattle.lrc_board.specs.Refreshed.{is_seated_on, is_row_on, is_row_changed, is_node_changed, is_flag_changed, OthersStay, stripes_changed_by, nodes_changed_by, are_loads_changed_by, changes_by}
use Rattle.lrc_board.specs.declared.changes.ChangedNodes.TheVariants.{AllIn}
use Rattle.lrc_board.proofs.HomesLemmas.{row_with, row_by, row-is, home-in}

-- what one change of a list has not changed
alone : {b : Bool} → (b || false) ≡ false → b ≡ false
alone {b} none = by b none where
  by : (b : Bool) → (b || false) ≡ false → b ≡ false
  by true none = none
  by false none = none

-- ---- rows

-- a stripe keeps its row, if it is there as before, and has the code and the homes that it had
row-alike : (was st : State) (s : StripeNo) → has_stripe st s ≡ has_stripe was s → code_of st s ≡ code_of was s
    → ((f : ℕ) → homes_of st.homes s f ≡ homes_of was.homes s f) → homes_row st s ≡ homes_row was s
row-alike was st s there coded homes =
    row-is st s ∙ (λ i. row_by (there i) (coded i) (λ f. homes f i)) ∙ sym (row-is was s)

-- ---- the homes that Fail leaves

-- what a search finds stays, if it is not bad
find-stays : {X : Type 0} (test bad : X → Bool) (xs : List X) → option_map_or bad (find test xs) false ≡ false
    → find test (filter (λ x. not (bad x)) xs) ≡ find test xs
find-stays test bad [] clear = refl
find-stays test bad (x ∷ xs) clear = elim (cases_Bool (test x)) [
  | inl hit ↦ let good : bad x ≡ false = rw hit at clear in rw (good, hit) refl
  | inr miss ↦
      let rest = find-stays test bad xs (rw miss at clear) in
      elim (cases_Bool (bad x)) [
        | inl goes ↦ rw (goes, miss) rest
        | inr stays ↦ rw (stays, miss) rest
      ]
]

module _ (st : State) (n : NodeNo) (s : StripeNo) where
  -- the homes of the state without those on the node
  abbrev left : List Held
  left = filter (λ h. not (stands_on n h)) st.homes

  on-seat : (o : Option Held) → sits_on n (seat_in o) ≡ option_map_or (stands_on n) o false
  on-seat None = refl
  on-seat (Some h) = refl

  home-stays : (f : ℕ) → sits_on n (homes_of st.homes s f) ≡ false → homes_of left s f ≡ homes_of st.homes s f
  home-stays f off = ap seat_in (find-stays (is_of s f) (stands_on n) st.homes (sym (on-seat (home_of st.homes s f)) ∙ off))

  off-node : is_row_on n (row_by true (code_of st s) (homes_of st.homes s)) ≡ false → (f : ℕ) → f < 16 → sits_on n (homes_of st.homes s f) ≡ false
  unfolding is_seated_on
  off-node none f low =
      let homes : List (Option Seat) = map (λ (g : Fragment). homes_of st.homes s g.value) all_fragments in
      sym (ap (sits_on n) (home-in (homes_of st.homes s) f low)) ∙ has_some-false Wide (λ f. sits_on n (get_or homes f None)) none f low

  -- a stripe without a home on the node keeps its row
  fail-keeps : (next : State) → next.stripes ≡ st.stripes → next.narrow ≡ st.narrow → next.homes ≡ left → is_row_on n (homes_row st s) ≡ false
      → homes_row next s ≡ homes_row st s
  fail-keeps next stripes narrow homes none =
      row-is next s
      ∙ (λ i. row_by (list_any (same_stripe s) (stripes i)) (if list_any (same_stripe s) (narrow i) then Narrow else Wide) (homes_of (homes i) s))
      ∙ by (has_stripe st s) (sym (ap (is_row_on n) (row-is st s)) ∙ none)
      ∙ sym (row-is st s)
    where
      by : (there : Bool) → is_row_on n (row_by there (code_of st s) (homes_of st.homes s)) ≡ false
          → row_by there (code_of st s) (homes_of left s) ≡ row_by there (code_of st s) (homes_of st.homes s)
      by false off = refl
      by true off =
          ap (λ (at : Fragment → Option Seat). row_with true (code_of st s) (map at all_fragments))
          (fun_ext (λ (f : Fragment). home-stays f.value (off-node off f.value f.in_range)))

-- ---- nodes

gone-number : (st : State) (n : NodeNo) → is_gone (mode_of st n) ≡ has_number st.gone n
gone-number st n = by (has_number st.gone n) (has_number st.draining n) where
  by : (gone draining : Bool) → is_gone (if gone then Gone else (if draining then Draining else Active)) ≡ gone
  by true draining = refl
  by false true = refl
  by false false = refl

module _ (nodes : List NodeInfo) (was st : State) (n : NodeNo) where
  -- a node is online as before, if it is in the same lists and its domain is upgrading as before
  online-alike : has_number st.gone n ≡ has_number was.gone n → has_number st.down n ≡ has_number was.down n
      → ((x : NodeInfo) → node_at nodes n ≡ Some x → is_upgrading st x ≡ is_upgrading was x) → online_at nodes st n ≡ online_at nodes was n
  online-alike gone down upgrading = by (node_at nodes n) refl where
    by : (o : Option NodeInfo) → node_at nodes n ≡ o → option_map_or (is_online st) o false ≡ option_map_or (is_online was) o false
    by None e = refl
    by (Some x) e =
        let number : n ≡ x.number = (member-node_at nodes n x e).1 in
        ap₂ (λ (g rest : Bool). not g && rest)
        (gone-number st x.number ∙ subst (λ (k : NodeNo). has_number st.gone k ≡ has_number was.gone k) number gone ∙ sym (gone-number was x.number))
        (ap₂ (λ (d u : Bool). not d && not u) (subst (λ (k : NodeNo). has_number st.down k ≡ has_number was.down k) number down) (upgrading x e))

-- ---- commands

module _ (nodes : List NodeInfo) (past : List Entry) (st : State) (session : SessionNo) where
  module _ (s : StripeNo) where
    abbrev KeepsRow : State → Type 0
    KeepsRow next = homes_row next s ≡ homes_row st s

    other-stripe : (r : StripeNo) → same_stripe r s ≡ false → s ≢ r
    other-stripe r other same = eqb-false r.value s.value other (ap (λ (t : StripeNo). t.value) (sym same))

    place-keeps : (code : Code) (r : StripeNo) (seats : List Seat) → same_stripe r s ≡ false → KeepsRow (with_placed st code r seats)
    place-keeps code r seats other =
        let added = held_at r (fragments code) seats in
        row-alike st (with_placed st code r seats) s
        (list_any-append (same_stripe s) st.stripes (r ∷ [])
        ∙ rw (ne_eqb s.value r.value (λ e. eqb-false r.value s.value other (sym e))) (or_none (has_stripe st s)))
        (code-other st code r s other)
        (λ f. ap seat_in (homes-append st.homes added s f
        ∙ before-none (home_of st.homes s f) (home_of added s f) (none-added r s (fragments code) seats f (other-stripe r other))))
      where
        or_none : (b : Bool) → (b || false) ≡ b
        or_none true = refl
        or_none false = refl

    drop-keeps : (r : StripeNo) → same_stripe r s ≡ false → KeepsRow (without_stripe st r)
    drop-keeps r other =
        row-alike st (without_stripe st r) s (narrow-left r s st.stripes ∙ rw other refl) (code-left st r s other) (λ f. homes-without st r s f ∙ rw other refl)

    done-keeps : (r : StripeNo) (f : Fragment) (o : Option LeaseRecord) → same_stripe r s ≡ false → KeepsRow (with_done st r f o)
    done-keeps r f None other = refl
    done-keeps r f (Some l) other =
        row-alike st (with_done st r f (Some l)) s refl refl
        (λ g. ap seat_in (homes-append kept (moved ∷ []) s g
        ∙ before-none (home_of kept s g) (home_of (moved ∷ []) s g) (rw other refl)
        ∙ find-kept (is_of s g) (λ h. not (is_home_of r f h)) (λ h hit. apart h g hit) st.homes))
      where
        kept : List Held
        kept = filter (λ (h : Held). not (is_home_of r f h)) st.homes

        moved : Held
        moved = record { stripe = r; fragment = f; seat = l.target }

        apart : (h : Held) (g : ℕ) → is_of s g h ≡ true → not (is_home_of r f h) ≡ true
        apart h g hit =
            let is : h.stripe.value ≡ s.value = eqb-true h.stripe.value s.value (and_parts (eqb h.stripe.value s.value) (eqb h.fragment.value g) hit).0 in
            rw (ne_eqb h.stripe.value r.value (λ e. eqb-false r.value s.value other (sym e ∙ is))) refl

    rows-keep : (c : Command) (r : Reply) → is_row_changed (stripes_changed_by c) s (homes_row st s) ≡ false → KeepsRow (changed_by st c r)
    rows-keep (Place r) (Placed seats) other = place-keeps Wide r seats (alone other)
    rows-keep (Place6 r) (Placed6 seats) other = place-keeps Narrow r seats (alone other)
    rows-keep (Drop r) Dropped other = drop-keeps r (alone other)
    rows-keep (Done r f e) Ended other = done-keeps r f (lease_of st r f) (alone other)
    rows-keep (Fail n) Changed other = fail-keeps st n s (changed_by st (Fail n) Changed) refl refl refl (alone other)
    rows-keep c Changed other = row-alike st (changed_by st c Changed) s refl refl (λ f. refl)
    rows-keep _ Idle other = row-alike st st s refl refl (λ f. refl)
    rows-keep c r other = row-alike st (changed_by st c r) s refl refl (λ f. refl)

  module _ (m : NodeNo) where
    abbrev KeepsNode : State → Type 0
    KeepsNode next = online_at nodes next m ≡ online_at nodes st m

    apart-from : (n : NodeNo) → same_node m n ≡ false → ¬ (n ≡ m)
    apart-from n other same = eqb-false m.value n.value other (ap (λ (k : NodeNo). k.value) (sym same))

    -- a command on another node keeps it as it was
    node-keeps : (next : State) → IsAsItWas st m next → next.upgrading ≡ st.upgrading → KeepsNode next
    node-keeps next was upgrading =
        online-alike nodes st next m was.gone was.down
        (λ x e. ap (λ (o : Option UpgradeNo). option_map_or (λ u. same_upgrade u x.upgrade) o false) upgrading)

    -- a command on another domain
    domain-keeps : (u : UpgradeNo) (running : Option UpgradeNo) → is_node_changed nodes (AllIn u) m ≡ false
        → ((x : NodeInfo) → same_upgrade u x.upgrade ≡ false → option_map_or (λ v. same_upgrade v x.upgrade) running false ≡ is_upgrading st x)
        → KeepsNode (record st { upgrading = running })
    domain-keeps u running none same =
        online-alike nodes st (record st { upgrading = running }) m refl refl (λ x e. same x (elsewhere x e (same_upgrade u x.upgrade) refl))
      where
        elsewhere : (x : NodeInfo) → node_at nodes m ≡ Some x → (b : Bool) → same_upgrade u x.upgrade ≡ b → b ≡ false
        elsewhere x e false is = refl
        elsewhere x e true is =
            let found = member-node_at nodes m x e in
            let domain : same_upgrade x.upgrade u ≡ true = eq-eqb x.upgrade.value u.value (sym (eqb-true u.value x.upgrade.value is)) in
            let number : same_node m x.number ≡ true = eq-eqb m.value x.number.value (ap (λ (k : NodeNo). k.value) found.1) in
            let listed = member-filter (λ (y : NodeInfo). same_upgrade y.upgrade u) nodes x found.0 domain in
            sym (list_any-member (λ (y : NodeInfo). same_node m y.number) (nodes_in nodes u) x listed number) ∙ none

    done-keeps_node : (r : StripeNo) (f : Fragment) (o : Option LeaseRecord) → KeepsNode (with_done st r f o)
    done-keeps_node r f None = refl
    done-keeps_node r f (Some l) = online-alike nodes st (with_done st r f (Some l)) m refl refl (λ x e. refl)

    nodes-keep : (c : Command) (r : Reply) → (step nodes past st session c).0 ≡ r → is_flag_changed nodes (nodes_changed_by c) m ≡ false
        → KeepsNode (changed_by st c r)
    nodes-keep (Done r f e) Ended told other = done-keeps_node r f (lease_of st r f)
    nodes-keep (Fail n) Changed told other = node-keeps (changed_by st (Fail n) Changed) (changed-same st m (Fail n) Changed (apart-from n (alone other))) refl
    nodes-keep (Down n) Changed told other = node-keeps (changed_by st (Down n) Changed) (changed-same st m (Down n) Changed (apart-from n (alone other))) refl
    nodes-keep (Up n) Changed told other = node-keeps (changed_by st (Up n) Changed) (changed-same st m (Up n) Changed (apart-from n (alone other))) refl
    nodes-keep (Retire n) Changed told other = node-keeps (changed_by st (Retire n) Changed) (changed-same st m (Retire n) Changed (apart-from n (alone other))) refl
    nodes-keep (Join n) Changed told other = node-keeps (changed_by st (Join n) Changed) (changed-same st m (Join n) Changed (apart-from n (alone other))) refl
    nodes-keep (Upgrade u) Changed told other =
        domain-keeps u (Some u) (alone other)
        (λ x away. away ∙ sym (ap (λ (o : Option UpgradeNo). option_map_or (λ v. same_upgrade v x.upgrade) o false) (upgrade-told nodes st u told)))
    nodes-keep (Upgraded u) Changed told other =
        domain-keeps u None (alone other)
        (λ x away. sym (ap (λ (o : Option UpgradeNo). option_map_or (λ v. same_upgrade v x.upgrade) o false) (upgraded-told nodes st u told) ∙ away))
    nodes-keep c Changed told other = online-alike nodes st (changed_by st c Changed) m refl refl (λ x e. refl)
    nodes-keep _ Idle told other = refl
    nodes-keep c r told other = online-alike nodes st (changed_by st c r) m refl refl (λ x e. refl)

  abbrev KeepsLoads : State → Type 0
  KeepsLoads next = loads_of nodes next ≡ loads_of nodes st

  loads-keep : (c : Command) (r : Reply) → are_loads_changed_by c r ≡ false → KeepsLoads (changed_by st c r)
  loads-keep (Fail n) Changed same = absurd (cc)
  loads-keep c Changed same = refl
  loads-keep c Idle same = refl
  loads-keep c (Refused r) same = refl
  loads-keep c r same = absurd (cc)

  -- a command leaves all else as it was
  row-stays : (s : StripeNo) (c : Command) → is_row_changed (stripes_changed_by c) s (homes_row st s) ≡ false
      → homes_row (step nodes past st session c).1 s ≡ homes_row st s
  row-stays s c other = subst (KeepsRow s) (sym (step-changed nodes past st session c)) (rows-keep s c (step nodes past st session c).0 other)

  node-stays : (m : NodeNo) (c : Command) → is_flag_changed nodes (nodes_changed_by c) m ≡ false
      → online_at nodes (step nodes past st session c).1 m ≡ online_at nodes st m
  node-stays m c other = subst (KeepsNode m) (sym (step-changed nodes past st session c)) (nodes-keep m c (step nodes past st session c).0 refl other)

  loads-stay : (c : Command) → are_loads_changed_by c (step nodes past st session c).0 ≡ false
      → loads_of nodes (step nodes past st session c).1 ≡ loads_of nodes st
  loads-stay c same = subst KeepsLoads (sym (step-changed nodes past st session c)) (loads-keep c (step nodes past st session c).0 same)

  -- what a step may have changed is that of its command and its reply
  pub step-stays : (c : Command) → OthersStay nodes (changes_by c (step nodes past st session c).0) st (step nodes past st session c).1
  step-stays c = by (step nodes past st session c).0 refl where
    next : State
    next = (step nodes past st session c).1

    by : (r : Reply) → (step nodes past st session c).0 ≡ r → OthersStay nodes (changes_by c r) st next
    by (Refused why) told =
        let same = refused-keeps nodes past st session c why told in
        record {
          rows = λ s unchanged. ap (λ (x : State). homes_row x s) same;
          online = λ n unchanged. ap (λ (x : State). online_at nodes x n) same;
          loads = λ unchanged. ap (loads_of nodes) same;
        }
    by r told = record {
      rows = λ s unchanged. row-stays s c unchanged;
      online = λ n unchanged. node-stays n c unchanged;
      loads = λ unchanged. loads-stay c (ap (are_loads_changed_by c) told ∙ unchanged);
    }
