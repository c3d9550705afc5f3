-- What is kept where a node's stripes have their rows renewed.
use Rattle.std.proofs.Common.{◌≡◌, ◌≢◌, ℕ, ◌<◌, inl, inr, Bool, true, false, not, ◌&&◌, cond, if◌then◌else◌, nat_lt, nat_eq, List, [], length, get_or, Option, Some, None, is_none, IsSome, arith, refl, sym, ap, ◌∙◌, subst}
use Rattle.std.proofs.Math.Path.{fun_ext}
use Rattle.std.specs.List.{list_any}
use Rattle.std.proofs.lemmas.Bool.{cases_Bool, cases_eq, eq-eqb, ne_eqb, lt-ltb}
use Rattle.std.proofs.lemmas.List.Folds.{list_any_at}
use Rattle.std.proofs.lemmas.Option.{same_Some}
use Rattle.lrc_code.specs.declared.codes.Code.{Code}
use Rattle.lrc_code.specs.declared.losses.LossMask.{LossMask}
use Rattle.lrc_code.specs.declared.numbers.StripeNo.{StripeNo}
use Rattle.lrc_code.specs.declared.numbers.NodeNo.{NodeNo}
use Rattle.lrc_code.specs.declared.numbers.UpgradeNo.{UpgradeNo}
use Rattle.lrc_code.specs.Numbers.{same_node}
use Rattle.lrc_code.proofs.NumbersLemmas.{equal_nodes}
use Rattle.lrc_code.specs.Codes.{has_fragment}
use Rattle.lrc_code.specs.Losses.{bits_set}
use Rattle.lrc_topology.specs.declared.NodeInfo.{NodeInfo}
use Rattle.lrc_topology.specs.declared.seat.Seat.{Seat}
use Rattle.lrc_terms.specs.declared.mode.Mode.{Mode}
use Rattle.lrc_terms.specs.Modes.{is_draining}
use Rattle.lrc_nodes.specs.declared.node_state.NodeState.{NodeState}
use Rattle.lrc_nodes.specs.States.{state_at, up_in, draining_in, with_state, with_upgrading_in}
use Rattle.lrc_nodes.proofs.SetLemmas.{AreSameNodes, same-state, up-state, draining-state, same-upgrading, up-upgrading, draining-upgrading}
use Rattle.lrc_ranks.specs.Sets.{has}
use Rattle.lrc_homes.specs.declared.home_domains.HomeDomains.{HomeDomains}
use Rattle.lrc_homes.specs.Domains.{AreDomainsOf}
use Rattle.lrc_rows.specs.declared.row.Row.{Row}
use Rattle.lrc_rows.specs.NodeStates.{NodeLists, NodeStates, states_in}
use Rattle.lrc_homes.specs.Homes.{sits_on, is_missing, is_to_move}
use Rattle.lrc_homes.specs.Masks.{IsMaskOf, AreWithin, IsPutOn, AreKept}
use Rattle.lrc_rows.specs.Kept.{IsKept, AreRowDomains, is_row_on, AreSameStripes, AreRenewed, IsRenewed, IsMissingOn, IsToMoveOn}
use Rattle.lrc_homes.proofs.MaskLemmas.{has-low}
use Rattle.lrc_rows.proofs.FreshLemmas.{mask-is}
use Rattle.lrc_rows.proofs.NodeStateLemmas.{not-not}

-- ---- one mask

module _ (code : Code) (n : NodeNo) (b : Bool) (test after : Option Seat → Bool) (on : (home : Option Seat) → sits_on n home ≡ true → after home ≡ b)
    (off : (home : Option Seat) → sits_on n home ≡ false → after home ≡ test home) (homes : List (Option Seat)) where
  -- what is put into the mask of a test is the mask of the test that follows
  mask-put : (old new : LossMask) → AreWithin code homes → IsMaskOf code test homes old → IsPutOn n b homes old new → IsMaskOf code after homes new
  mask-put old new lacks is put f = put f ∙ by (sits_on n (get_or homes f None)) refl (has_fragment code f) refl where
    by : (s : Bool) → sits_on n (get_or homes f None) ≡ s → (l : Bool) → has_fragment code f ≡ l
        → cond (nat_lt f 16 && sits_on n (get_or homes f None)) b (bits_set old.bits f) ≡ (has_fragment code f && after (get_or homes f None))
    by true sits true low = rw (lt-ltb f 16 (has-low code f low), low, sits, on (get_or homes f None) sits) refl
    by false sits true low = rw (lt-ltb f 16 (has-low code f low), low, sits, off (get_or homes f None) sits) (is f ∙ ap (λ l. l && test (get_or homes f None)) low)
    by true sits false high = absurd (let none : sits_on n (get_or homes f None) ≡ false = ap (sits_on n) (lacks f high) in let clash : true ≡ false = sym sits ∙ none in cc)
    by false sits false high = rw (high, sits) (ap (λ c. cond c b (bits_set old.bits f)) (bare (nat_lt f 16)) ∙ (is f ∙ ap (λ l. l && test (get_or homes f None)) high)) where
      bare : (b : Bool) → (b && false) ≡ false
      bare true = refl
      bare false = refl

  -- the mask of homes none of which is on the node stays
  mask-stays : (mask : LossMask) → length homes ≡ 16 → list_any (sits_on n) homes ≡ false → IsMaskOf code test homes mask → IsMaskOf code after homes mask
  mask-stays mask long none is f = is f ∙ by (has_fragment code f) refl where
    by : (l : Bool) → has_fragment code f ≡ l → (has_fragment code f && test (get_or homes f None)) ≡ (has_fragment code f && after (get_or homes f None))
    by false high = rw high refl
    by true low =
        let within : f < length homes = let few = has-low code f low in omega (arith, few, long) in
        let sits : sits_on n (get_or homes f None) ≡ false = elim (cases_Bool (sits_on n (get_or homes f None))) [
          | inl hit ↦ absurd (let any = list_any_at (sits_on n) homes f None within hit in let clash : true ≡ false = sym any ∙ none in cc)
          | inr miss ↦ miss
        ] in
        ap (λ x. has_fragment code f && x) (sym (off (get_or homes f None) sits))

-- ---- the rows

module _ (on : StripeNo → Bool) (R : Row → Row → Type 0) (before after : StripeNo → Option Row) (renewed : AreRenewed on R before after) where
  -- what depends on the homes alone stays
  pub same-of : {Z : Type 0} (P : Option Row → Z) → ((q r : Row) → R q r → P (Some r) ≡ P (Some q)) → (x : StripeNo) → P (after x) ≡ P (before x)
  same-of P same x = elim (cases_Bool (on x)) [
    | inl there ↦ by (before x) refl (renewed.listed x there)
    | inr miss ↦ ap P (renewed.others x miss)
  ] where
    by : (o : Option Row) → before x ≡ o → IsRenewed R o (after x) → P (after x) ≡ P (before x)
    by None e gone = ap P gone ∙ ap P (sym e)
    by (Some q) e (r, to, holds) = ap P to ∙ (same q r holds ∙ ap P (sym e))

  -- a property of rows that a renewal gives, and that the others have already
  pub each-of : (P Q : Row → Type 0) → ((x : StripeNo) (q : Row) → before x ≡ Some q → P q) → ((q r : Row) → R q r → P q → Q r)
      → ((x : StripeNo) (q : Row) → on x ≡ false → before x ≡ Some q → P q → Q q) → (x : StripeNo) (r : Row) → after x ≡ Some r → Q r
  each-of P Q had gives stays x r there = elim (cases_Bool (on x)) [
    | inl hit ↦ by (before x) refl (renewed.listed x hit)
    | inr miss ↦ let was = sym (renewed.others x miss) ∙ there in stays x r miss was (had x r was)
  ] where
    by : (o : Option Row) → before x ≡ o → IsRenewed R o (after x) → Q r
    by None e gone = absurd (let clash : None ≡ Some r = sym gone ∙ there in cc)
    by (Some q) e (new, to, holds) = subst Q (same_Some new r (sym to ∙ there)) (gives q new holds (had x q e))

-- ---- what a store is made of

pub same-stripes : (rows : StripeNo → Option Row) → AreSameStripes rows rows
same-stripes rows = record { there = λ s. refl; codes = λ s. refl; homes = λ s. refl }

pub same-then : (first second third : StripeNo → Option Row) → AreSameStripes first second → AreSameStripes second third → AreSameStripes first third
same-then first second third one two = record { there = λ s. two.there s ∙ one.there s; codes = λ s. two.codes s ∙ one.codes s; homes = λ s. two.homes s ∙ one.homes s }

-- ---- what is kept

-- the domains of a row stay where its homes do
row-domains : (nodes : List NodeInfo) (q r : Row) → r.homes ≡ q.homes → r.domains ≡ q.domains → AreRowDomains nodes q → AreRowDomains nodes r
row-domains nodes q r homes domains had =
    subst (λ (d : HomeDomains). AreDomainsOf nodes (λ f. get_or r.homes f None) d) (sym domains)
    (subst (λ (hs : List (Option Seat)). AreDomainsOf nodes (λ f. get_or hs f None) q.domains) (sym homes) had)

-- what is kept depends on the nodes, on those that are up or draining, and on the stripes on each
pub kept-as : (z y : NodeStates) (rows : StripeNo → Option Row) → y.nodes ≡ z.nodes → y.up ≡ z.up → y.draining ≡ z.draining → y.on ≡ z.on → IsKept z rows → IsKept y rows
kept-as z y rows nodes up draining on kept = record {
  losses = λ s r there. subst (λ (o : NodeNo → Bool). AreKept o y.draining r.homes r.losses) (sym up) (subst (λ (d : NodeNo → Bool). AreKept z.up d r.homes r.losses) (sym draining) (kept.losses s r there));
  domains = λ s r there. subst (λ (ns : List NodeInfo). AreRowDomains ns r) (sym nodes) (kept.domains s r there);
  listed = λ n s. ap (λ (o : NodeNo → StripeNo → Bool). o n s) on ∙ kept.listed n s;
}

-- ---- a node is up or not, or draining or not

module _ (z : NodeStates) (rows rows' : StripeNo → Option Row) (kept : IsKept z rows) (n : NodeNo) (b : Bool) where
  -- a row that is not among those on the node has no home there
  off-node : (x : StripeNo) (q : Row) → z.on n x ≡ false → rows x ≡ Some q → list_any (sits_on n) q.homes ≡ false
  off-node x q miss there = sym (kept.listed n x ∙ ap (is_row_on n) there) ∙ miss

  module _ (renewed : AreRenewed (z.on n) (IsMissingOn n b) rows rows') where
    abbrev up' : NodeNo → Bool
    up' m = cond (same_node n m) (not b) (z.up m)

    missing-on : (home : Option Seat) → sits_on n home ≡ true → is_missing up' home ≡ b
    missing-on None hit = absurd (cc)
    missing-on (Some seat) hit = rw hit (not-not b)

    missing-off : (home : Option Seat) → sits_on n home ≡ false → is_missing up' home ≡ is_missing z.up home
    missing-off None miss = refl
    missing-off (Some seat) miss = rw miss refl

    pub kept-down : IsKept (record z { up = up' }) rows'
    kept-down = record {
      losses = each-of (z.on n) (IsMissingOn n b) rows rows' renewed
          (λ q. AreKept z.up z.draining q.homes q.losses) (λ q. AreKept up' z.draining q.homes q.losses) kept.losses
          (λ q r gives had. record {
            within = subst (λ (hs : List (Option Seat)). AreWithin r.losses.code hs) (sym gives.homes) (subst (λ (code : Code). AreWithin code q.homes) (sym gives.code) had.within);
            homeless = subst (λ (hs : List (Option Seat)). (f : ℕ) → bits_set r.losses.homeless.bits f ≡ (has_fragment r.losses.code f && is_none (get_or hs f None))) (sym gives.homes)
                (λ f. ap (λ (m : LossMask). bits_set m.bits f) gives.homeless ∙ (had.homeless f ∙ ap (λ (code : Code). has_fragment code f && is_none (get_or q.homes f None)) (sym gives.code)));
            missing = λ some.
                let work : q.losses.needs.bits ≢ 0 = λ empty. some (ap (λ (m : LossMask). m.bits) gives.needs ∙ empty) in
                subst (λ (hs : List (Option Seat)). IsMaskOf r.losses.code (is_missing up') hs r.losses.missing) (sym gives.homes)
                (subst (λ (code : Code). IsMaskOf code (is_missing up') q.homes r.losses.missing) (sym gives.code)
                (mask-put q.losses.code n b (is_missing z.up) (is_missing up') missing-on missing-off q.homes q.losses.missing r.losses.missing had.within (had.missing work) (gives.missing work)));
            needs = subst (λ (hs : List (Option Seat)). (f : ℕ) → bits_set r.losses.needs.bits f ≡ (has_fragment r.losses.code f && is_to_move z.draining (get_or hs f None))) (sym gives.homes)
                (λ f. ap (λ (m : LossMask). bits_set m.bits f) gives.needs ∙ (had.needs f ∙ ap (λ (code : Code). has_fragment code f && is_to_move z.draining (get_or q.homes f None)) (sym gives.code)));
          })
          (λ x q miss there had. record {
            within = had.within;
            homeless = had.homeless;
            missing = λ some. mask-stays q.losses.code n b (is_missing z.up) (is_missing up') missing-on missing-off q.homes q.losses.missing q.sixteen (off-node x q miss there) (had.missing some);
            needs = had.needs;
          });
      domains = each-of (z.on n) (IsMissingOn n b) rows rows' renewed (AreRowDomains z.nodes) (AreRowDomains z.nodes) kept.domains (λ q r gives had. row-domains z.nodes q r gives.homes gives.domains had) (λ x q miss there had. had);
      listed = λ m x. kept.listed m x ∙ sym (same-of (z.on n) (IsMissingOn n b) rows rows' renewed (is_row_on m) (λ q r gives. ap (λ (hs : List (Option Seat)). list_any (sits_on m) hs) gives.homes) x);
    }

  module _ (renewed : AreRenewed (z.on n) (IsToMoveOn z.up n b) rows rows') where
    abbrev draining' : NodeNo → Bool
    draining' m = cond (same_node n m) b (z.draining m)

    to_move-on : (home : Option Seat) → sits_on n home ≡ true → is_to_move draining' home ≡ b
    to_move-on None hit = absurd (cc)
    to_move-on (Some seat) hit = rw hit refl

    to_move-off : (home : Option Seat) → sits_on n home ≡ false → is_to_move draining' home ≡ is_to_move z.draining home
    to_move-off None miss = refl
    to_move-off (Some seat) miss = rw miss refl

    pub kept-draining : IsKept (record z { draining = draining' }) rows'
    kept-draining = record {
      losses = each-of (z.on n) (IsToMoveOn z.up n b) rows rows' renewed
          (λ q. AreKept z.up z.draining q.homes q.losses) (λ q. AreKept z.up draining' q.homes q.losses) kept.losses
          (λ q r gives had. record {
            within = subst (λ (hs : List (Option Seat)). AreWithin r.losses.code hs) (sym gives.homes) (subst (λ (code : Code). AreWithin code q.homes) (sym gives.code) had.within);
            homeless = subst (λ (hs : List (Option Seat)). (f : ℕ) → bits_set r.losses.homeless.bits f ≡ (has_fragment r.losses.code f && is_none (get_or hs f None))) (sym gives.homes)
                (λ f. ap (λ (m : LossMask). bits_set m.bits f) gives.homeless ∙ (had.homeless f ∙ ap (λ (code : Code). has_fragment code f && is_none (get_or q.homes f None)) (sym gives.code)));
            missing = λ some. subst (λ (hs : List (Option Seat)). (f : ℕ) → bits_set r.losses.missing.bits f ≡ (has_fragment r.losses.code f && is_missing z.up (get_or hs f None))) (sym gives.homes)
                (λ f. ap (λ (m : LossMask). bits_set m.bits f) gives.missing ∙ (mask-is q.losses.code z.up q.homes f ∙ ap (λ (code : Code). has_fragment code f && is_missing z.up (get_or q.homes f None)) (sym gives.code)));
            needs = subst (λ (hs : List (Option Seat)). IsMaskOf r.losses.code (is_to_move draining') hs r.losses.needs) (sym gives.homes)
                (subst (λ (code : Code). IsMaskOf code (is_to_move draining') q.homes r.losses.needs) (sym gives.code)
                (mask-put q.losses.code n b (is_to_move z.draining) (is_to_move draining') to_move-on to_move-off q.homes q.losses.needs r.losses.needs had.within had.needs gives.needs));
          })
          (λ x q miss there had. record {
            within = had.within;
            homeless = had.homeless;
            missing = had.missing;
            needs = mask-stays q.losses.code n b (is_to_move z.draining) (is_to_move draining') to_move-on to_move-off q.homes q.losses.needs q.sixteen (off-node x q miss there) had.needs;
          });
      domains = each-of (z.on n) (IsToMoveOn z.up n b) rows rows' renewed (AreRowDomains z.nodes) (AreRowDomains z.nodes) kept.domains (λ q r gives had. row-domains z.nodes q r gives.homes gives.domains had) (λ x q miss there had. had);
      listed = λ m x. kept.listed m x ∙ sym (same-of (z.on n) (IsToMoveOn z.up n b) rows rows' renewed (is_row_on m) (λ q r gives. ap (λ (hs : List (Option Seat)). list_any (sits_on m) hs) gives.homes) x);
    }

-- the masks follow the node, where those of the other nodes are as they are told
pub up-follows : (z : NodeStates) (up : NodeNo → Bool) (n : NodeNo) (rows rows' : StripeNo → Option Row) → IsKept (record z { up = up }) rows
    → AreRenewed (z.on n) (IsMissingOn n (not (z.up n))) rows rows' → IsKept (record z { up = λ m. if same_node m n then z.up m else up m }) rows'
up-follows z up n rows rows' kept renewed =
    kept-as (record z { up = λ m. cond (same_node n m) (not (not (z.up n))) (up m) }) (record z { up = λ m. if same_node m n then z.up m else up m }) rows' refl
    (fun_ext (λ m. elim (cases_eq m.value n.value) [
      | inl same ↦ rw (eq-eqb _ _ same, eq-eqb _ _ (sym same)) (ap z.up (equal_nodes m n same) ∙ sym (not-not (z.up n)))
      | inr other ↦ rw (ne_eqb _ _ other, ne_eqb _ _ (λ e. other (sym e))) refl
    ])) refl refl
    (kept-down (record z { up = up }) rows rows' kept n (not (z.up n)) renewed)

-- where only one node may be told otherwise, the masks follow all
pub told-follows : (z : NodeStates) (n : NodeNo) (was : Bool) (rows : StripeNo → Option Row)
    → IsKept (record z { up = λ m. if same_node m n then z.up m else (if same_node n m then was else z.up m) }) rows → IsKept z rows
told-follows z n was rows kept =
    kept-as (record z { up = λ m. if same_node m n then z.up m else (if same_node n m then was else z.up m) }) z rows refl
    (fun_ext (λ m. elim (cases_eq m.value n.value) [
      | inl same ↦ rw (eq-eqb _ _ same) refl
      | inr other ↦ rw (ne_eqb _ _ other, ne_eqb _ _ (λ e. other (sym e))) refl
    ])) refl refl kept

-- ---- a state set, in the lists

-- the stripes on each node stay where the nodes do
on-stays : (t : NodeLists) (list : List NodeState) → AreSameNodes t.list list → (states_in (record t { list = list })).on ≡ (states_in t).on
unfolding states_in
on-stays t list same = fun_ext (λ m. ap (λ (q : ℕ). has (get_or t.stripes q [])) (same.positions m))

-- what is kept where the node drains or not, as it does after its state is set
pub kept-state : (t : NodeLists) (n : NodeNo) (mode : Mode) (b was drains : Bool) (rows : StripeNo → Option Row) → IsSome (state_at t.list n) → was ≡ (states_in t).up n → drains ≡ is_draining mode
    → IsKept (record (states_in t) { draining = λ m. if same_node n m then drains else (states_in t).draining m }) rows
    → IsKept (record (states_in (record t { list = with_state t.list n mode b })) { up = λ m. if same_node n m then was else (states_in (record t { list = with_state t.list n mode b })).up m }) rows
unfolding states_in
kept-state t n mode b was drains rows there on drain =
    let list = with_state t.list n mode b in
    let new : NodeStates = states_in (record t { list = list }) in
    kept-as (record (states_in t) { draining = λ m. if same_node n m then drains else (states_in t).draining m }) (record new { up = λ m. if same_node n m then was else new.up m }) rows
    (same-state t.list n mode b).nodes
    (fun_ext (λ m. elim (cases_eq n.value m.value) [
      | inl same ↦ rw (eq-eqb _ _ same) (on ∙ ap (up_in t.list) (equal_nodes n m same))
      | inr other ↦ let miss : nat_eq n.value m.value ≡ false = ne_eqb _ _ other in rw miss (up-state t.list n mode b m miss)
    ]))
    (draining-state t.list n mode b there ∙ fun_ext (λ m. ap (λ (x : Bool). if same_node n m then x else draining_in t.list m) (sym drain)))
    (on-stays t list (same-state t.list n mode b))

-- what is kept stays where nodes are upgrading or no longer
pub kept-upgrading : (t : NodeLists) (u : UpgradeNo) (b : Bool) (rows : StripeNo → Option Row) → IsKept (states_in t) rows → IsKept (states_in (record t { list = with_upgrading_in t.list u b })) rows
unfolding states_in
kept-upgrading t u b rows kept =
    kept-as (states_in t) (states_in (record t { list = with_upgrading_in t.list u b })) rows (same-upgrading t.list u b).nodes (up-upgrading t.list u b) (draining-upgrading t.list u b)
    (on-stays t (with_upgrading_in t.list u b) (same-upgrading t.list u b)) kept
