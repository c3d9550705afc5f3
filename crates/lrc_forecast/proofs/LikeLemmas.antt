-- Two states that are alike to a stripe stay so, whatever comes back.
use Rattle.std.proofs.Common.{arith, ◌≡◌, ℕ, ◌≤◌, ◌&&◌, ◌||◌, Bool, true, false, not, eqb, List, [], ◌∷◌, Option, Some, None, is_none, cond, if◌then◌else◌, IsTrue, refl, sym, ap, ap₂, ◌∙◌, subst, inl, inr}
use Rattle.std.specs.Option.{option_map_or}
use Rattle.std.proofs.lemmas.Bool.{cases_lt, eqb-true, and_parts}
use Rattle.std.proofs.lemmas.Option.{same_Some}
use Rattle.std.proofs.lemmas.List.Elements.{All-head, All-tail}
use Rattle.lrc_code.specs.declared.codes.Code.{Code}
use Rattle.lrc_code.specs.declared.numbers.StripeNo.{StripeNo}
use Rattle.lrc_code.specs.declared.numbers.NodeNo.{NodeNo}
use Rattle.lrc_code.specs.declared.numbers.UpgradeNo.{UpgradeNo}
use Rattle.lrc_code.specs.declared.numbers.SessionNo.{SessionNo}
use Rattle.lrc_code.specs.declared.numbers.Fragment.{Fragment}
use Rattle.lrc_code.specs.Numbers.{same_stripe, same_node}
use Rattle.lrc_code.specs.Codes.{fragment_count, has_fragment}
use Rattle.lrc_code.specs.Losses.{is_recoverable}
use Rattle.lrc_topology.specs.declared.NodeInfo.{NodeInfo}
use Rattle.lrc_topology.specs.declared.seat.Seat.{Seat}
use Rattle.lrc_topology.specs.Nodes.{node_at}
use Rattle.lrc_terms.specs.Levels.{homes_of}
use Rattle.lrc_rules.specs.States.{State, code_of, lease_of, has_number, is_down, mode_of, is_online, online_at, missing, level}
use Rattle.lrc_terms.specs.declared.lease.Lease.{Lease}
use Rattle.lrc_terms.specs.Leased.{leases_in}
use Rattle.lrc_terms.specs.Modes.{is_gone}
use Rattle.lrc_code.specs.Numbers.{same_upgrade}
use Rattle.lrc_code.proofs.NumbersLemmas.{equal_stripes}
use Rattle.lrc_topology.specs.declared.seat.Held.{Held}
use Rattle.lrc_topology.specs.Nodes.{has_domain}
use Rattle.lrc_rules.specs.declared.command.Command.{Command}
use Rattle.lrc_rules.specs.declared.command.Command.TheVariants.{Up, Upgraded, Done}
use Rattle.lrc_rules.specs.declared.entry.Entry.{Entry}
use Rattle.lrc_rules.specs.declared.node_command.NodeCommand.TheVariants as node
use Rattle.lrc_rules.specs.declared.reply.Reply.TheVariants.{Changed}
use Rattle.lrc_rules.specs.declared.refusal.Refusal.{Refusal}
use Rattle.lrc_rules.specs.declared.refusal.Refusal.TheVariants as refusal
use Rattle.lrc_rules.specs.States.{has_stripe, is_upgrading}
use Rattle.lrc_rules.specs.Outcomes.{refuse_if}
use Rattle.lrc_rules.specs.Leases.{moved_in, at_epoch, is_held_by, done_outcome}
use Rattle.lrc_rules.specs.Steps.{step, without_down, without_upgrading, node_outcome, is_the_domain, upgraded_outcome}
use Rattle.lrc_rules.specs.Histories.{World, next_world}
use Rattle.lrc_rules.proofs.LeaseStepLemmas.{at_epoch-some}
use Rattle.lrc_rules.proofs.ModeListLemmas.{left}
use Rattle.lrc_rules.proofs.NodeLemmas.{member-node_at}
use Rattle.lrc_rules.proofs.StateLemmas.{none-beyond}
use Rattle.lrc_forecast.specs.Forecasts.{IsUnrecoverable, is_return, Call, AreReturns, is_up_of, without_up, entry_of, world_with}
use Rattle.lrc_forecast.proofs.UnrecoverableLemmas.{most-fragments, test-level, state-test}
use Rattle.lrc_forecast.proofs.ReportLemmas.{taken_under, taken_in, moved_by, is_moved, done-is, taken-told, moved-homes, moved-leases}
use Rattle.lrc_forecast.proofs.ReturnLemmas.{lacks}

-- ---- two states that are alike to a stripe

-- the node is gone, and down, in both states or in neither, and is none of some nodes
abbrev pub IsAlikeAt : List NodeNo → State → State → NodeNo → Type 0
IsAlikeAt ns x y k = (is_gone (mode_of x k) ≡ is_gone (mode_of y k)) × (is_down x k ≡ is_down y k) × (has_number ns k ≡ false)

-- The stripe has the same code, homes and leases in both states, the same domain upgrades, and each node with a seat of the stripe
-- is as in the other, and is none of these nodes.
pub record AreLike (ns : List NodeNo) (s : StripeNo) (x y : State) : Type 0 where
  pub there : has_stripe x s ≡ has_stripe y s
  pub code : code_of x s ≡ code_of y s
  pub homes : (f : Fragment) → homes_of x.homes s f.value ≡ homes_of y.homes s f.value
  pub leases : (f : Fragment) → lease_of x s f ≡ lease_of y s f
  pub upgrading : x.upgrading ≡ y.upgrading
  pub home_nodes : (f : Fragment) (seat : Seat) → homes_of x.homes s f.value ≡ Some seat → IsAlikeAt ns x y seat.node
  pub target_nodes : (f : Fragment) (l : Lease) → lease_of x s f ≡ Some l → IsAlikeAt ns x y l.target.node

module _ (nodes : List NodeInfo) (ns : List NodeNo) (s : StripeNo) (x y : State) (like : AreLike ns s x y) where
  -- such a node is online in both or in neither
  alike-online : (k : NodeNo) → IsAlikeAt ns x y k → online_at nodes x k ≡ online_at nodes y k
  alike-online k same = by (node_at nodes k) refl where
    by : (o : Option NodeInfo) → node_at nodes k ≡ o → option_map_or (is_online x) o false ≡ option_map_or (is_online y) o false
    by None is = refl
    by (Some m) is =
        let number : k ≡ m.number = (member-node_at nodes k m is).1 in
        ap₂ (λ (g d : Bool). not g && (not d && not (is_upgrading x m))) (subst (λ (n : NodeNo). is_gone (mode_of x n) ≡ is_gone (mode_of y n)) number same.0)
        (subst (λ (n : NodeNo). is_down x n ≡ is_down y n) number same.1)
        ∙ ap (λ (u : Option UpgradeNo). not (is_gone (mode_of y m.number)) && (not (is_down y m.number) && not (option_map_or (λ (v : UpgradeNo). same_upgrade v m.upgrade) u false))) like.upgrading

  lacks-alike : (f : Fragment) → missing nodes x s f.value ≡ missing nodes y s f.value
  lacks-alike f =
      ap (λ (c : Code). lacks (has_fragment c f.value) (online_at nodes x) (homes_of x.homes s f.value)) like.code
      ∙ by (homes_of x.homes s f.value) refl
      ∙ ap (lacks (has_fragment (code_of y s) f.value) (online_at nodes y)) (like.homes f)
    where
      by : (o : Option Seat) → homes_of x.homes s f.value ≡ o
          → lacks (has_fragment (code_of y s) f.value) (online_at nodes x) o ≡ lacks (has_fragment (code_of y s) f.value) (online_at nodes y) o
      by None is = refl
      by (Some seat) is = ap (λ (b : Bool). has_fragment (code_of y s) f.value && not b) (alike-online seat.node (like.home_nodes f seat is))

  missing-alike : (f : ℕ) → missing nodes x s f ≡ missing nodes y s f
  missing-alike f = elim (cases_lt f 16) [
    | inl low ↦ lacks-alike (record { value = f; in_range = low })
    | inr high ↦ (none-beyond nodes x s f (past x high)).1 ∙ sym (none-beyond nodes y s f (past y high)).1
  ] where
    past : (st : State) → 16 ≤ f → fragment_count (code_of st s) ≤ f
    past st high = let most = most-fragments (code_of st s) in omega (arith, high, most)

  -- so it is unavailable or lost in both or in neither
  pub alike-unrecoverable : IsUnrecoverable nodes x s → IsUnrecoverable nodes y s
  alike-unrecoverable hit = (test-level (level nodes y s)).0
      (state-test nodes s y ∙ ap (λ (c : Code). not (is_recoverable c (missing nodes y s))) (sym like.code)
      ∙ (λ i. not (is_recoverable (code_of x s) (λ f. sym (missing-alike f) i)))
      ∙ sym (state-test nodes s x) ∙ (test-level (level nodes x s)).1 hit)

-- ---- what comes back keeps them alike

-- the states differ from these at most in which nodes are down and which domain upgrades
record IsNodesAlone (ns : List NodeNo) (s : StripeNo) (x y x' y' : State) : Type 0 where
  pub there_x : has_stripe x' s ≡ has_stripe x s
  pub there_y : has_stripe y' s ≡ has_stripe y s
  pub code_x : code_of x' s ≡ code_of x s
  pub code_y : code_of y' s ≡ code_of y s
  pub homes_x : x'.homes ≡ x.homes
  pub homes_y : y'.homes ≡ y.homes
  pub leases_x : x'.leases ≡ x.leases
  pub leases_y : y'.leases ≡ y.leases
  pub upgrading : x'.upgrading ≡ y'.upgrading
  pub nodes : (k : NodeNo) → IsAlikeAt ns x y k → IsAlikeAt ns x' y' k

nodes-like : (ns : List NodeNo) (s : StripeNo) (x y x' y' : State) → AreLike ns s x y → IsNodesAlone ns s x y x' y' → AreLike ns s x' y'
nodes-like ns s x y x' y' like alone = record {
  there = alone.there_x ∙ like.there ∙ sym alone.there_y;
  code = alone.code_x ∙ like.code ∙ sym alone.code_y;
  homes = λ f. ap (λ (hs : List Held). homes_of hs s f.value) alone.homes_x ∙ like.homes f ∙ ap (λ (hs : List Held). homes_of hs s f.value) (sym alone.homes_y);
  leases = λ f. ap (λ (ls : List Lease). leases_in ls s f.value) alone.leases_x ∙ like.leases f ∙ ap (λ (ls : List Lease). leases_in ls s f.value) (sym alone.leases_y);
  upgrading = alone.upgrading;
  home_nodes = λ f seat is. alone.nodes seat.node (like.home_nodes f seat (ap (λ (hs : List Held). homes_of hs s f.value) (sym alone.homes_x) ∙ is));
  target_nodes = λ f l is. alone.nodes l.target.node (like.target_nodes f l (ap (λ (ls : List Lease). leases_in ls s f.value) (sym alone.leases_x) ∙ is));
}

-- a command with two reasons to refuse it leaves the state, or changes it
two-checks : (a b : Bool) (r q : Refusal) (st next : State) → (refuse_if a r st (refuse_if b q st (Changed, next))).1 ≡ (if a || b then st else next)
two-checks true b r q st next = refl
two-checks false true r q st next = refl
two-checks false false r q st next = refl

one-of : (P : State → Type 0) (b : Bool) (st next : State) → P st → P next → P (if b then st else next)
one-of P true st next here there = here
one-of P false st next here there = there

-- after an up
module _ (nodes : List NodeInfo) (n : NodeNo) where
  abbrev stays : State → Bool
  stays st = is_none (node_at nodes n) || not (is_down st n)

  abbrev upped : State → State
  upped st = if stays st then st else without_down st n

  up-is : (st : State) → (node_outcome nodes st node.Up n).1 ≡ upped st
  unfolding node_outcome
  up-is st = two-checks (is_none (node_at nodes n)) (not (is_down st n)) refusal.UnknownNode refusal.WrongMode st (without_down st n)

  up-down : (st : State) (k : NodeNo) → is_down (upped st) k ≡ (is_down st k && not (not (is_none (node_at nodes n)) && same_node n k))
  up-down st k = by (is_none (node_at nodes n)) (is_down st n) refl where
    and_true : (b : Bool) → (b && true) ≡ b
    and_true true = refl
    and_true false = refl

    turn : (b d : Bool) → (not b && d) ≡ (d && not b)
    turn true true = refl
    turn true false = refl
    turn false true = refl
    turn false false = refl

    kept : is_down st n ≡ false → (b : Bool) → same_node n k ≡ b → is_down st k ≡ (is_down st k && not b)
    kept off false is = sym (and_true (is_down st k))
    kept off true is =
        let same : is_down st k ≡ false = ap (λ (v : ℕ). is_down st (record { value = v })) (sym (eqb-true n.value k.value is)) ∙ off in
        same ∙ ap (λ (d : Bool). d && false) (sym same)

    by : (none down : Bool) → is_down st n ≡ down → is_down (if none || not down then st else without_down st n) k ≡ (is_down st k && not (not none && same_node n k))
    by true down is = sym (and_true (is_down st k))
    by false true is = left st.down n k (same_node n k) refl ∙ turn (same_node n k) (is_down st k)
    by false false is = kept is (same_node n k) refl

-- after an upgrade has ended
module _ (nodes : List NodeInfo) (u : UpgradeNo) where
  abbrev goes_on : State → Bool
  goes_on st = not (has_domain nodes u) || not (is_the_domain u st.upgrading)

  abbrev ended : State → State
  ended st = if goes_on st then st else without_upgrading st

  ended-is : (st : State) → (upgraded_outcome nodes st u).1 ≡ ended st
  unfolding upgraded_outcome
  ended-is st = two-checks (not (has_domain nodes u)) (not (is_the_domain u st.upgrading)) refusal.UnknownDomain refusal.NotUpgrading st (without_upgrading st)

  ended-upgrading : (st : State) → (ended st).upgrading ≡ (if goes_on st then st.upgrading else None)
  ended-upgrading st = by (goes_on st) where
    by : (b : Bool) → (if b then st else without_upgrading st).upgrading ≡ (if b then st.upgrading else None)
    by true = refl
    by false = refl

-- ---- each return keeps them alike

module _ (nodes : List NodeInfo) (ns : List NodeNo) (s : StripeNo) (x y : State) (like : AreLike ns s x y) where
  up-like : (n : NodeNo) → AreLike ns s (upped nodes n x) (upped nodes n y)
  up-like n =
      let X = stays nodes n x in
      let Y = stays nodes n y in
      nodes-like ns s x y (upped nodes n x) (upped nodes n y) like (record {
        there_x = one-of (λ z. has_stripe z s ≡ has_stripe x s) X x (without_down x n) refl refl;
        there_y = one-of (λ z. has_stripe z s ≡ has_stripe y s) Y y (without_down y n) refl refl;
        code_x = one-of (λ z. code_of z s ≡ code_of x s) X x (without_down x n) refl refl;
        code_y = one-of (λ z. code_of z s ≡ code_of y s) Y y (without_down y n) refl refl;
        homes_x = one-of (λ z. z.homes ≡ x.homes) X x (without_down x n) refl refl;
        homes_y = one-of (λ z. z.homes ≡ y.homes) Y y (without_down y n) refl refl;
        leases_x = one-of (λ z. z.leases ≡ x.leases) X x (without_down x n) refl refl;
        leases_y = one-of (λ z. z.leases ≡ y.leases) Y y (without_down y n) refl refl;
        upgrading = one-of (λ z. z.upgrading ≡ (upped nodes n y).upgrading) X x (without_down x n) to to;
        nodes = λ k same. (
          one-of (λ z. is_gone (mode_of z k) ≡ is_gone (mode_of (upped nodes n y) k)) X x (without_down x n) (gone k same) (gone k same),
          up-down nodes n x k ∙ ap (λ (d : Bool). d && not (not (is_none (node_at nodes n)) && same_node n k)) same.1 ∙ sym (up-down nodes n y k),
          same.2,
        );
      })
    where
      to : x.upgrading ≡ (upped nodes n y).upgrading
      to = one-of (λ z. x.upgrading ≡ z.upgrading) (stays nodes n y) y (without_down y n) like.upgrading like.upgrading

      gone : (k : NodeNo) → IsAlikeAt ns x y k → is_gone (mode_of x k) ≡ is_gone (mode_of (upped nodes n y) k)
      gone k same = one-of (λ z. is_gone (mode_of x k) ≡ is_gone (mode_of z k)) (stays nodes n y) y (without_down y n) same.0 same.0

  -- one of these nodes is up in the first state alone
  one-like : (n : NodeNo) → has_number ns n ≡ true → AreLike ns s (upped nodes n x) y
  one-like n named =
      let X = stays nodes n x in
      nodes-like ns s x y (upped nodes n x) y like (record {
        there_x = one-of (λ z. has_stripe z s ≡ has_stripe x s) X x (without_down x n) refl refl;
        there_y = refl;
        code_x = one-of (λ z. code_of z s ≡ code_of x s) X x (without_down x n) refl refl;
        code_y = refl;
        homes_x = one-of (λ z. z.homes ≡ x.homes) X x (without_down x n) refl refl;
        homes_y = refl;
        leases_x = one-of (λ z. z.leases ≡ x.leases) X x (without_down x n) refl refl;
        leases_y = refl;
        upgrading = one-of (λ z. z.upgrading ≡ y.upgrading) X x (without_down x n) like.upgrading like.upgrading;
        nodes = λ k same. (
          one-of (λ z. is_gone (mode_of z k) ≡ is_gone (mode_of y k)) X x (without_down x n) same.0 same.0,
          up-down nodes n x k ∙ ap (λ (b : Bool). is_down x k && not (not (is_none (node_at nodes n)) && b)) (other k same.2 (same_node n k) refl)
              ∙ kept (is_down x k) (not (is_none (node_at nodes n))) ∙ same.1,
          same.2,
        );
      })
    where
      other : (k : NodeNo) → has_number ns k ≡ false → (b : Bool) → same_node n k ≡ b → b ≡ false
      other k off false is = refl
      other k off true is = absurd (
          let same : has_number ns n ≡ has_number ns k = ap (λ (v : ℕ). has_number ns (record { value = v })) (eqb-true n.value k.value is) in
          let both : true ≡ false = sym named ∙ same ∙ off in cc)

      kept : (d t : Bool) → (d && not (t && false)) ≡ d
      kept true true = refl
      kept true false = refl
      kept false t = refl

  ended-like : (u : UpgradeNo) → AreLike ns s (ended nodes u x) (ended nodes u y)
  ended-like u =
      let X = goes_on nodes u x in
      let Y = goes_on nodes u y in
      nodes-like ns s x y (ended nodes u x) (ended nodes u y) like (record {
        there_x = one-of (λ z. has_stripe z s ≡ has_stripe x s) X x (without_upgrading x) refl refl;
        there_y = one-of (λ z. has_stripe z s ≡ has_stripe y s) Y y (without_upgrading y) refl refl;
        code_x = one-of (λ z. code_of z s ≡ code_of x s) X x (without_upgrading x) refl refl;
        code_y = one-of (λ z. code_of z s ≡ code_of y s) Y y (without_upgrading y) refl refl;
        homes_x = one-of (λ z. z.homes ≡ x.homes) X x (without_upgrading x) refl refl;
        homes_y = one-of (λ z. z.homes ≡ y.homes) Y y (without_upgrading y) refl refl;
        leases_x = one-of (λ z. z.leases ≡ x.leases) X x (without_upgrading x) refl refl;
        leases_y = one-of (λ z. z.leases ≡ y.leases) Y y (without_upgrading y) refl refl;
        upgrading = ended-upgrading nodes u x
            ∙ ap (λ (o : Option UpgradeNo). if not (has_domain nodes u) || not (is_the_domain u o) then o else None) like.upgrading
            ∙ sym (ended-upgrading nodes u y);
        nodes = λ k same. (
          one-of (λ z. is_gone (mode_of z k) ≡ is_gone (mode_of (ended nodes u y) k)) X x (without_upgrading x) (gone k same) (gone k same),
          one-of (λ z. is_down z k ≡ is_down (ended nodes u y) k) X x (without_upgrading x) (down k same) (down k same),
          same.2,
        );
      })
    where
      gone : (k : NodeNo) → IsAlikeAt ns x y k → is_gone (mode_of x k) ≡ is_gone (mode_of (ended nodes u y) k)
      gone k same = one-of (λ z. is_gone (mode_of x k) ≡ is_gone (mode_of z k)) (goes_on nodes u y) y (without_upgrading y) same.0 same.0

      down : (k : NodeNo) → IsAlikeAt ns x y k → is_down x k ≡ is_down (ended nodes u y) k
      down k same = one-of (λ z. is_down x k ≡ is_down z k) (goes_on nodes u y) y (without_upgrading y) same.1 same.1

-- the home, and the lease, of a fragment after a report that moves it or another one to this seat
abbrev home-after : Bool → Option Seat → Option Seat → Option Seat
home-after moved None home = home
home-after moved (Some seat) home = if moved then Some seat else home

abbrev lease-after : Bool → Option Seat → Option Lease → Option Lease
lease-after moved None lease = lease
lease-after moved (Some seat) lease = if moved then None else lease

module _ (nodes : List NodeInfo) (ns : List NodeNo) (s : StripeNo) (x y : State) (like : AreLike ns s x y) (session : SessionNo) (t : StripeNo) (f : Fragment) (e : ℕ) where
  abbrev to_x : Option Seat
  to_x = taken_in nodes x session t f e

  abbrev to_y : Option Seat
  to_y = taken_in nodes y session t f e

  homes-by : (st : State) (o : Option Seat) (g : Fragment) → homes_of (moved_by st t f o).homes s g.value ≡ home-after (is_moved t f s g.value) o (homes_of st.homes s g.value)
  homes-by st None g = refl
  homes-by st (Some seat) g = moved-homes st t f seat s g.value

  leases-by : (st : State) (o : Option Seat) (g : Fragment) → lease_of (moved_by st t f o) s g ≡ lease-after (is_moved t f s g.value) o (lease_of st s g)
  leases-by st None g = refl
  leases-by st (Some seat) g = moved-leases st t f seat s g.value

  home-off : (o : Option Seat) (h : Option Seat) → home-after false o h ≡ h
  home-off None h = refl
  home-off (Some seat) h = refl

  lease-off : (o : Option Seat) (l : Option Lease) → lease-after false o l ≡ l
  lease-off None l = refl
  lease-off (Some seat) l = refl

  -- a report on this stripe is taken in both or in neither
  taken-alike : taken_in nodes x session s f e ≡ taken_in nodes y session s f e
  taken-alike =
      ap (λ (b : Bool). if b then taken_under nodes x session (at_epoch e (lease_of x s f)) else None) like.there
      ∙ ap (λ (o : Option Seat). if has_stripe y s then o else None) (under (at_epoch e (lease_of x s f)) refl)
      ∙ ap (λ (o : Option Lease). if has_stripe y s then taken_under nodes y session (at_epoch e o) else None) (like.leases f)
    where
      under : (o : Option Lease) → at_epoch e (lease_of x s f) ≡ o → taken_under nodes x session o ≡ taken_under nodes y session o
      under None is = refl
      under (Some l) is =
          ap (λ (b : Bool). if is_held_by session l && b then Some l.target else None)
          (alike-online nodes ns s x y like l.target.node (like.target_nodes f l (at_epoch-some e (lease_of x s f) l is).0))

  both-taken : same_stripe t s ≡ true → to_x ≡ to_y
  both-taken same = subst (λ (r : StripeNo). taken_in nodes x session r f e ≡ taken_in nodes y session r f e) (sym (equal_stripes t s (eqb-true t.value s.value same))) taken-alike

  homes-alike : (g : Fragment) → homes_of (moved_by x t f to_x).homes s g.value ≡ homes_of (moved_by y t f to_y).homes s g.value
  homes-alike g = homes-by x to_x g ∙ by (same_stripe t s) refl ∙ sym (homes-by y to_y g) where
    by : (b : Bool) → same_stripe t s ≡ b → home-after (is_moved t f s g.value) to_x (homes_of x.homes s g.value) ≡ home-after (is_moved t f s g.value) to_y (homes_of y.homes s g.value)
    by true same = ap₂ (home-after (is_moved t f s g.value)) (both-taken same) (like.homes g)
    by false other =
        ap (λ (b : Bool). home-after (b && eqb f.value g.value) to_x (homes_of x.homes s g.value)) other
        ∙ home-off to_x (homes_of x.homes s g.value) ∙ like.homes g ∙ sym (home-off to_y (homes_of y.homes s g.value))
        ∙ ap (λ (b : Bool). home-after (b && eqb f.value g.value) to_y (homes_of y.homes s g.value)) (sym other)

  leases-alike : (g : Fragment) → lease_of (moved_by x t f to_x) s g ≡ lease_of (moved_by y t f to_y) s g
  leases-alike g = leases-by x to_x g ∙ by (same_stripe t s) refl ∙ sym (leases-by y to_y g) where
    by : (b : Bool) → same_stripe t s ≡ b → lease-after (is_moved t f s g.value) to_x (lease_of x s g) ≡ lease-after (is_moved t f s g.value) to_y (lease_of y s g)
    by true same = ap₂ (lease-after (is_moved t f s g.value)) (both-taken same) (like.leases g)
    by false other =
        ap (λ (b : Bool). lease-after (b && eqb f.value g.value) to_x (lease_of x s g)) other
        ∙ lease-off to_x (lease_of x s g) ∙ like.leases g ∙ sym (lease-off to_y (lease_of y s g))
        ∙ ap (λ (b : Bool). lease-after (b && eqb f.value g.value) to_y (lease_of y s g)) (sym other)

  moved-alike : (o p : Option Seat) (k : NodeNo) → IsAlikeAt ns x y k → IsAlikeAt ns (moved_by x t f o) (moved_by y t f p) k
  moved-alike None None k same = same
  moved-alike None (Some q) k same = same
  moved-alike (Some o) None k same = same
  moved-alike (Some o) (Some q) k same = same

  stays-so : {X : Type 0} (look : State → X) → ((st : State) (seat : Seat) → look (moved_in st t f seat) ≡ look st) → (st : State) (o : Option Seat) → look (moved_by st t f o) ≡ look st
  stays-so look same st None = refl
  stays-so look same st (Some seat) = same st seat

  -- a seat after the report is one before it
  home-node : (g : Fragment) (seat : Seat) → (o : Option Seat) → to_x ≡ o → (b : Bool) → is_moved t f s g.value ≡ b
      → home-after b o (homes_of x.homes s g.value) ≡ Some seat → IsAlikeAt ns x y seat.node
  home-node g seat None to b moved is = like.home_nodes g seat is
  home-node g seat (Some v) to false moved is = like.home_nodes g seat is
  home-node g seat (Some v) to true moved is =
      let told = taken-told nodes x session t f e v to in
      let parts = and_parts (same_stripe t s) (eqb f.value g.value) moved in
      let live : lease_of x s f ≡ Some told.0 = subst (λ (r : StripeNo). lease_of x r f ≡ Some told.0) (equal_stripes t s (eqb-true t.value s.value parts.0)) told.1 in
      subst (λ (k : Seat). IsAlikeAt ns x y k.node) (told.2 ∙ same_Some v seat is) (like.target_nodes f told.0 live)

  lease-node : (g : Fragment) (l : Lease) (o : Option Seat) (b : Bool) → lease-after b o (lease_of x s g) ≡ Some l → lease_of x s g ≡ Some l
  lease-node g l None b is = is
  lease-node g l (Some v) false is = is
  lease-node g l (Some v) true is = absurd (cc)

  done-like : AreLike ns s (moved_by x t f to_x) (moved_by y t f to_y)
  done-like = record {
    there = stays-so (λ z. has_stripe z s) (λ z seat. refl) x to_x ∙ like.there ∙ sym (stays-so (λ z. has_stripe z s) (λ z seat. refl) y to_y);
    code = stays-so (λ z. code_of z s) (λ z seat. refl) x to_x ∙ like.code ∙ sym (stays-so (λ z. code_of z s) (λ z seat. refl) y to_y);
    homes = homes-alike;
    leases = leases-alike;
    upgrading = stays-so (λ z. z.upgrading) (λ z seat. refl) x to_x ∙ like.upgrading ∙ sym (stays-so (λ z. z.upgrading) (λ z seat. refl) y to_y);
    home_nodes = λ g seat is. moved-alike to_x to_y seat.node (home-node g seat to_x refl (is_moved t f s g.value) refl (sym (homes-by x to_x g) ∙ is));
    target_nodes = λ g l is. moved-alike to_x to_y l.target.node (like.target_nodes g l (lease-node g l to_x (is_moved t f s g.value) (sym (leases-by x to_x g) ∙ is)));
  }

module _ (nodes : List NodeInfo) (ns : List NodeNo) (s : StripeNo) where
  return-like : (x y : State) → AreLike ns s x y → (past more : List Entry) (session : SessionNo) (c : Command) → is_return c ≡ true
      → AreLike ns s (step nodes past x session c).1 (step nodes more y session c).1
  return-like x y like past more session (Up n) is =
      subst (λ z. AreLike ns s z (node_outcome nodes y node.Up n).1) (sym (up-is nodes n x))
      (subst (λ z. AreLike ns s (upped nodes n x) z) (sym (up-is nodes n y)) (up-like nodes ns s x y like n))
  return-like x y like past more session (Upgraded u) is =
      subst (λ z. AreLike ns s z (upgraded_outcome nodes y u).1) (sym (ended-is nodes u x))
      (subst (λ z. AreLike ns s (ended nodes u x) z) (sym (ended-is nodes u y)) (ended-like nodes ns s x y like u))
  return-like x y like past more session (Done t f e) is =
      subst (λ z. AreLike ns s z (done_outcome nodes y session t f e).1) (sym (done-is nodes x session t f e))
      (subst (λ z. AreLike ns s (moved_by x t f (taken_in nodes x session t f e)) z) (sym (done-is nodes y session t f e)) (done-like nodes ns s x y like session t f e))
  return-like x y like past more session _ is = absurd (cc)

  -- and so does any sequence
  pub returns-like : (w v : World) (calls : List Call) → AreLike ns s w.state v.state → AreReturns calls → AreLike ns s (world_with nodes w calls).state (world_with nodes v calls).state
  returns-like w v [] like all = like
  returns-like w v (c ∷ cs) like all =
      returns-like (next_world nodes w (entry_of nodes w c)) (next_world nodes v (entry_of nodes v c)) cs
      (return-like w.state v.state like w.past v.past c.0 c.1 (All-head (λ (d : Call). IsTrue (is_return d.1)) c cs all))
      (All-tail (λ (d : Call). IsTrue (is_return d.1)) c cs all)

  -- one of these nodes comes up in the first state, and stays away in the second
  up-left : (x y : State) → AreLike ns s x y → (past : List Entry) (session : SessionNo) (c : Command) → is_up_of ns c ≡ true → AreLike ns s (step nodes past x session c).1 y
  up-left x y like past session (Up n) is = subst (λ z. AreLike ns s z y) (sym (up-is nodes n x)) (one-like nodes ns s x y like n is)
  up-left x y like past session _ is = absurd (cc)

  left-one : (w v : World) (c : Call) (cs : List Call) (left : List Call) (b : Bool) → is_up_of ns c.1 ≡ b
      → ((z : World) → AreLike ns s (next_world nodes w (entry_of nodes w c)).state z.state
      → AreLike ns s (world_with nodes (next_world nodes w (entry_of nodes w c)) cs).state (world_with nodes z left).state)
      → AreLike ns s w.state v.state → is_return c.1 ≡ true
      → AreLike ns s (world_with nodes w (c ∷ cs)).state (world_with nodes v (cond (not b) (c ∷ left) left)).state
  left-one w v c cs left true is rest like back = rest v (up-left w.state v.state like w.past c.0 c.1 is)
  left-one w v c cs left false is rest like back =
      rest (next_world nodes v (entry_of nodes v c)) (return-like w.state v.state like w.past v.past c.0 c.1 back)

  -- and any sequence of which the second state lacks each up of these nodes
  pub left-like : (w v : World) (calls : List Call) → AreLike ns s w.state v.state → AreReturns calls
      → AreLike ns s (world_with nodes w calls).state (world_with nodes v (without_up ns calls)).state
  left-like w v [] like all = like
  left-like w v (c ∷ cs) like all =
      left-one w v c cs (without_up ns cs) (is_up_of ns c.1) refl
      (λ z next. left-like (next_world nodes w (entry_of nodes w c)) z cs next (All-tail (λ (d : Call). IsTrue (is_return d.1)) c cs all))
      like (All-head (λ (d : Call). IsTrue (is_return d.1)) c cs all)

  pub like-back : (x y : State) → AreLike ns s x y → AreLike ns s y x
  like-back x y like = record {
    there = sym like.there;
    code = sym like.code;
    homes = λ f. sym (like.homes f);
    leases = λ f. sym (like.leases f);
    upgrading = sym like.upgrading;
    home_nodes = λ f seat is. let same = like.home_nodes f seat (like.homes f ∙ is) in (sym same.0, sym same.1, same.2);
    target_nodes = λ f l is. let same = like.target_nodes f l (like.leases f ∙ is) in (sym same.0, sym same.1, same.2);
  }
