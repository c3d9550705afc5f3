-- A stripe keeps its level if a command does not touch it.
use Rattle.std.proofs.Common.{[], ◌≡◌, ◌≢◌, ap₂, ℕ, Bool, true, false, not, ◌&&◌, ◌||◌, if◌then◌else◌, eqb, List, ◌∷◌, filter, find, Option, Some, None, option_map, refl, sym, ap, ◌∙◌, subst, inl, inr}
use Rattle.std.proofs.Math.Path.{fun_ext}
use Rattle.std.specs.List.{Contains, list_any}
use Rattle.std.specs.Option.{option_map_or}
use Rattle.std.proofs.lemmas.Bool.{cases_Bool, eqb-true, eqb-false, ne_eqb, and_parts, or_parts}
use Rattle.std.proofs.lemmas.List.Folds.{list_any-append}
use Rattle.lrc_code.specs.declared.codes.Code.{Code}
use Rattle.lrc_code.specs.declared.codes.Code.TheVariants.{Wide, Narrow}
use Rattle.lrc_code.specs.declared.numbers.StripeNo.{StripeNo}
use Rattle.lrc_code.specs.declared.numbers.NodeNo.{NodeNo}
use Rattle.lrc_code.specs.declared.numbers.UpgradeNo.{UpgradeNo}
use Rattle.lrc_code.specs.declared.numbers.SessionNo.{SessionNo}
use Rattle.lrc_code.specs.declared.numbers.Fragment.{Fragment}
use Rattle.lrc_code.specs.Codes.{fragments, has_fragment}
use Rattle.lrc_code.specs.Numbers.{same_stripe, same_node, same_upgrade}
use Rattle.lrc_topology.specs.declared.NodeInfo.{NodeInfo}
use Rattle.lrc_topology.specs.declared.seat.Seat.{Seat}
use Rattle.lrc_topology.specs.declared.seat.Held.{Held}
use Rattle.lrc_topology.specs.Nodes.{node_at}
use Rattle.lrc_terms.specs.Levels.{home_of, homes_of, homeless_in, level_by, level_if}
use Rattle.lrc_terms.specs.declared.lease.Lease.{Lease as LeaseRecord}
use Rattle.lrc_rules.specs.declared.reply.Reply.TheVariants.{Idle, Placed, Placed6, Dropped, Ended, Changed}
use Rattle.lrc_terms.specs.declared.mode.Mode.TheVariants.{Active, Draining, Gone}
use Rattle.lrc_rules.specs.declared.command.Command.{Command}
use Rattle.lrc_rules.specs.declared.command.Command.TheVariants.{Place, Place6, Drop, Done, Fail, Down, Up, Retire, Join, Upgrade, Upgraded}
use Rattle.lrc_rules.specs.declared.reply.Reply.{Reply}
use Rattle.lrc_rules.specs.declared.entry.Entry.{Entry}
use Rattle.lrc_terms.specs.Modes.{is_gone}
use Rattle.lrc_rules.specs.States.{State, has_stripe, code_of, has_number, is_home_of, mode_of, is_online, is_upgrading, online_at, level_shown, lease_of}
use Rattle.lrc_rules.specs.Steps.{step, stands_on, without_stripe}
use Rattle.lrc_rules.specs.Changes.{held_at, with_placed, with_done, changed_by}
use Rattle.lrc_rules.specs.Touching.{has_home_on, is_in_domain, can_change_level}
use Rattle.lrc_rules.proofs.MemberLemmas.{list_any-member}
use Rattle.lrc_rules.proofs.NodeLemmas.{member-node_at}
use Rattle.lrc_rules.proofs.NodeCommandLemmas.{IsAsItWas}
use Rattle.lrc_rules.proofs.OtherModesLemmas.{changed-same}
use Rattle.lrc_rules.proofs.PlacedHomesLemmas.{none-added, before-none, homes-append}
use Rattle.lrc_rules.proofs.CodedLemmas.{code-other, code-left, narrow-left}
use Rattle.lrc_rules.proofs.StepLemmas.{step-changed}
use Rattle.lrc_rules.proofs.LookUpLemmas.{is_of, found-home, find-kept, homes-without}
use Rattle.lrc_rules.proofs.ToldLemmas.{upgraded-told, upgrade-told}

-- ---- searches and nodes

-- a search finds the same, if nothing that it could find is removed
find-unless : {X : Type 0} (test wide bad : X → Bool) → ((x : X) → test x ≡ true → wide x ≡ true) → (xs : List X)
    → list_any (λ x. wide x && bad x) xs ≡ false → find test (filter (λ x. not (bad x)) xs) ≡ find test xs
find-unless test wide bad within [] none = refl
find-unless test wide bad within (x ∷ xs) none =
    let parts = or_parts (wide x && bad x) (list_any (λ x. wide x && bad x) xs) none in
    let rest = find-unless test wide bad within xs parts.1 in
    elim (cases_Bool (bad x)) [
      | inr stays ↦ rw stays (ap (λ o. if test x then Some x else o) rest)
      | inl goes ↦ elim (cases_Bool (test x)) [
        | inr miss ↦ rw (goes, miss) rest
        | inl hit ↦ absurd (let both : true ≡ false = sym (rw (within x hit, goes) refl) ∙ parts.0 in cc)
      ]
    ]

gone-number : (st : State) (n : NodeNo) → is_gone (mode_of st n) ≡ has_number st.gone n
gone-number st n = by (has_number st.gone n) (has_number st.draining n) where
  by : (gone draining : Bool) → is_gone (if gone then Gone else (if draining then Draining else Active)) ≡ gone
  by true draining = refl
  by false true = refl
  by false false = refl

module _ (nodes : List NodeInfo) (was st : State) where
  -- a node is online as before, if it is in the same lists and its domain is upgrading as before
  online-alike : (n : NodeNo) → has_number st.gone n ≡ has_number was.gone n → has_number st.down n ≡ has_number was.down n
      → ((x : NodeInfo) → node_at nodes n ≡ Some x → is_upgrading st x ≡ is_upgrading was x) → online_at nodes st n ≡ online_at nodes was n
  online-alike n gone down upgrading = by (node_at nodes n) refl where
    by : (o : Option NodeInfo) → node_at nodes n ≡ o → option_map_or (is_online st) o false ≡ option_map_or (is_online was) o false
    by None e = refl
    by (Some x) e =
        let number : n ≡ x.number = (member-node_at nodes n x e).1 in
        ap₂ (λ (g rest : Bool). not g && rest)
        (gone-number st x.number ∙ subst (λ (k : NodeNo). has_number st.gone k ≡ has_number was.gone k) number gone ∙ sym (gone-number was x.number))
        (ap₂ (λ (d u : Bool). not d && not u) (subst (λ (k : NodeNo). has_number st.down k ≡ has_number was.down k) number down) (upgrading x e))

  module _ (s : StripeNo) (coded : code_of st s ≡ code_of was s) (there : has_stripe st s ≡ has_stripe was s) (homes : (f : ℕ) → homes_of st.homes s f ≡ homes_of was.homes s f)
      (online : (h : Held) → Contains was.homes h → same_stripe h.stripe s ≡ true → online_at nodes st h.seat.node ≡ online_at nodes was h.seat.node) where
    missing-by : (f : ℕ) (o : Option Held) → home_of was.homes s f ≡ o
        → option_map_or (λ (seat : Seat). not (online_at nodes st seat.node)) (option_map (λ (h : Held). h.seat) o) true
        ≡ option_map_or (λ (seat : Seat). not (online_at nodes was seat.node)) (option_map (λ (h : Held). h.seat) o) true
    missing-by f None e = refl
    missing-by f (Some h) e =
        let found = found-home was s f h e in
        ap not (online h found.0 (and_parts (eqb h.stripe.value s.value) (eqb h.fragment.value f) found.1).0)

    -- a stripe keeps its level, if it keeps its homes and their nodes are online as before
    level-alike : level_shown nodes st s ≡ level_shown nodes was s
    unfolding level_if
    level-alike =
        ap (λ (b : Bool). level_if b (code_of st s) (online_at nodes st) (homes_of st.homes s)) there
        ∙ ap (λ (c : Code). level_if (has_stripe was s) c (online_at nodes st) (homes_of st.homes s)) coded
        ∙ ap (λ (h : ℕ → Option Seat). level_if (has_stripe was s) (code_of was s) (online_at nodes st) h) (fun_ext homes)
        ∙ ap (λ (missing : ℕ → Bool). if has_stripe was s then Some (level_by (code_of was s) (homeless_in (code_of was s) (homes_of was.homes s)) missing) else None)
        (fun_ext (λ f. ap (λ b. has_fragment (code_of was s) f && b) (missing-by f (home_of was.homes s f) refl)))

-- ---- commands

module _ (nodes : List NodeInfo) (past : List Entry) (st : State) (session : SessionNo) (s : StripeNo) where
  abbrev Keeps : State → Type 0
  Keeps next = level_shown nodes next s ≡ level_shown nodes st s

  -- a stripe without a home on the nodes of a test has each home elsewhere
  elsewhere : (test : NodeNo → Bool) → has_home_on st s test ≡ false → (h : Held) → Contains st.homes h → same_stripe h.stripe s ≡ true
      → test h.seat.node ≡ false
  elsewhere test none h here is = elim (cases_Bool (test h.seat.node)) [
    | inr miss ↦ miss
    | inl hit ↦ absurd (
        let there : has_home_on st s test ≡ true =
        list_any-member (λ (h : Held). same_stripe h.stripe s && test h.seat.node) st.homes h here (rw (is, hit) refl) in
        let both : true ≡ false = sym there ∙ none in cc)
  ]

  other-stripe : (r : StripeNo) → same_stripe r s ≡ false → s ≢ r
  other-stripe r other same = eqb-false r.value s.value other (ap (λ (t : StripeNo). t.value) (sym same))

  place-keeps : (code : Code) (r : StripeNo) (seats : List Seat) → same_stripe r s ≡ false → Keeps (with_placed st code r seats)
  place-keeps code r seats other =
      let added = held_at r (fragments code) seats in
      level-alike nodes st (with_placed st code r seats) s (code-other st code r s other)
      (list_any-append (same_stripe s) st.stripes (r ∷ [])
      ∙ rw (ne_eqb s.value r.value (λ e. eqb-false r.value s.value other (sym e))) (or_none (has_stripe st s)))
      (λ f. ap (option_map (λ (h : Held). h.seat)) (homes-append st.homes added s f
      ∙ before-none (home_of st.homes s f) (home_of added s f) (none-added r s (fragments code) seats f (other-stripe r other))))
      (λ h here is. refl)
    where
      or_none : (b : Bool) → (b || false) ≡ b
      or_none true = refl
      or_none false = refl

  drop-keeps : (r : StripeNo) → same_stripe r s ≡ false → Keeps (without_stripe st r)
  drop-keeps r other =
      level-alike nodes st (without_stripe st r) s (code-left st r s other) (narrow-left r s st.stripes ∙ rw other refl)
      (λ f. homes-without st r s f ∙ rw other refl) (λ h here is. refl)

  done-keeps : (r : StripeNo) (f : Fragment) (o : Option LeaseRecord) → same_stripe r s ≡ false → Keeps (with_done st r f o)
  done-keeps r f None other = refl
  done-keeps r f (Some l) other =
      level-alike nodes st (with_done st r f (Some l)) s refl refl
      (λ g. ap (option_map (λ (h : Held). h.seat)) (homes-append left (moved ∷ []) s g
      ∙ before-none (home_of left s g) (home_of (moved ∷ []) s g) (rw other refl)
      ∙ find-kept (is_of s g) (λ h. not (is_home_of r f h)) (λ h hit. apart h g hit) st.homes))
      (λ h here is. refl)
    where
      left : List Held
      left = filter (λ (h : Held). not (is_home_of r f h)) st.homes

      moved : Held
      moved = record { stripe = r; fragment = f; seat = l.target }

      apart : (h : Held) (g : ℕ) → is_of s g h ≡ true → not (is_home_of r f h) ≡ true
      apart h g hit =
          let is : h.stripe.value ≡ s.value = eqb-true h.stripe.value s.value (and_parts (eqb h.stripe.value s.value) (eqb h.fragment.value g) hit).0 in
          rw (ne_eqb h.stripe.value r.value (λ e. eqb-false r.value s.value other (sym e ∙ is))) refl

  -- a command on a node without a home of the stripe
  node-keeps : (n : NodeNo) (c : Command) (r : Reply) → has_home_on st s (same_node n) ≡ false
      → ((m : NodeNo) → same_node n m ≡ false → IsAsItWas st m (changed_by st c r))
      → (changed_by st c r).stripes ≡ st.stripes → (changed_by st c r).narrow ≡ st.narrow → (changed_by st c r).upgrading ≡ st.upgrading
      → ((f : ℕ) → homes_of (changed_by st c r).homes s f ≡ homes_of st.homes s f) → Keeps (changed_by st c r)
  node-keeps n c r none same stripes narrow upgrading homes =
      level-alike nodes st (changed_by st c r) s (ap (λ (ss : List StripeNo). if list_any (same_stripe s) ss then Narrow else Wide) narrow) (ap (λ (ss : List StripeNo). list_any (same_stripe s) ss) stripes) homes
      (λ h here is.
      let was = same h.seat.node (elsewhere (same_node n) none h here is) in
      online-alike nodes st (changed_by st c r) h.seat.node was.gone was.down
      (λ x e. ap (λ (o : Option UpgradeNo). option_map_or (λ u. same_upgrade u x.upgrade) o false) upgrading))

  apart-from : (n m : NodeNo) → same_node n m ≡ false → ¬ (n ≡ m)
  apart-from n m other same = eqb-false n.value m.value other (ap (λ (k : NodeNo). k.value) same)

  -- and a command on a domain without a home of the stripe
  domain-keeps : (u : UpgradeNo) (running : Option UpgradeNo) → has_home_on st s (is_in_domain nodes u) ≡ false
      → ((x : NodeInfo) → same_upgrade u x.upgrade ≡ false → option_map_or (λ v. same_upgrade v x.upgrade) running false ≡ is_upgrading st x)
      → Keeps (record st { upgrading = running })
  domain-keeps u running none same =
      level-alike nodes st (record st { upgrading = running }) s refl refl (λ f. refl)
      (λ h here is. online-alike nodes st (record st { upgrading = running }) h.seat.node refl refl
      (λ x e. same x (ap (λ (o : Option NodeInfo). option_map_or (λ (m : NodeInfo). same_upgrade u m.upgrade) o false) (sym e)
      ∙ elsewhere (is_in_domain nodes u) none h here is)))

  changed-keeps : (c : Command) (r : Reply) → (step nodes past st session c).0 ≡ r → can_change_level nodes st s c ≡ false → Keeps (changed_by st c r)
  changed-keeps (Place r) (Placed seats) told other = place-keeps Wide r seats other
  changed-keeps (Place6 r) (Placed6 seats) told other = place-keeps Narrow r seats other
  changed-keeps (Drop r) Dropped told other = drop-keeps r other
  changed-keeps (Done r f e) Ended told other = done-keeps r f (lease_of st r f) other
  changed-keeps (Fail n) Changed told other =
      node-keeps n (Fail n) Changed other (λ m away. changed-same st m (Fail n) Changed (apart-from n m away)) refl refl refl
      (λ f. ap (option_map (λ (h : Held). h.seat)) (find-unless (is_of s f) (λ h. same_stripe h.stripe s) (stands_on n)
      (λ h hit. (and_parts (eqb h.stripe.value s.value) (eqb h.fragment.value f) hit).0) st.homes other))
  changed-keeps (Down n) Changed told other =
      node-keeps n (Down n) Changed other (λ m away. changed-same st m (Down n) Changed (apart-from n m away)) refl refl refl (λ f. refl)
  changed-keeps (Up n) Changed told other =
      node-keeps n (Up n) Changed other (λ m away. changed-same st m (Up n) Changed (apart-from n m away)) refl refl refl (λ f. refl)
  changed-keeps (Retire n) Changed told other =
      node-keeps n (Retire n) Changed other (λ m away. changed-same st m (Retire n) Changed (apart-from n m away)) refl refl refl (λ f. refl)
  changed-keeps (Join n) Changed told other =
      node-keeps n (Join n) Changed other (λ m away. changed-same st m (Join n) Changed (apart-from n m away)) refl refl refl (λ f. refl)
  changed-keeps (Upgrade u) Changed told other =
      domain-keeps u (Some u) other
      (λ x away. away ∙ sym (ap (λ (o : Option UpgradeNo). option_map_or (λ v. same_upgrade v x.upgrade) o false) (upgrade-told nodes st u told)))
  changed-keeps (Upgraded u) Changed told other =
      domain-keeps u None other
      (λ x away. sym (ap (λ (o : Option UpgradeNo). option_map_or (λ v. same_upgrade v x.upgrade) o false) (upgraded-told nodes st u told) ∙ away))
  changed-keeps c Changed told other =
      level-alike nodes st (changed_by st c Changed) s refl refl (λ f. refl)
      (λ h here is. online-alike nodes st (changed_by st c Changed) h.seat.node refl refl (λ x e. refl))
  changed-keeps _ Idle told other = refl
  changed-keeps _ _ told other = refl

  -- a stripe keeps its level, if the command cannot change it
  pub level-keeps : (c : Command) → can_change_level nodes st s c ≡ false → Keeps (step nodes past st session c).1
  level-keeps c other = subst Keeps (sym (step-changed nodes past st session c)) (changed-keeps c (step nodes past st session c).0 refl other)
