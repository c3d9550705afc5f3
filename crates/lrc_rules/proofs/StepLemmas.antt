-- The replies and the states after them, command by command.
use Rattle.std.proofs.Common.{[], ◌≡◌, ℕ, Bool, true, false, not, nat_eq, if◌then◌else◌, is_none, List, ◌∷◌, ◌++◌, length, map, drop, fold, Option, Some, None, Result, Ok, Err, refl, sym, ap, ◌∙◌, append_assoc, append-nil, arith}
use Rattle.std.specs.Option.{option_map_or}
use Rattle.std.proofs.lemmas.List.Folds.{fold_stays}
use Rattle.lrc_code.specs.declared.codes.Code.{Code}
use Rattle.lrc_code.specs.declared.codes.Code.TheVariants.{Wide, Narrow}
use Rattle.lrc_code.specs.declared.numbers.StripeNo.{StripeNo}
use Rattle.lrc_code.specs.declared.numbers.NodeNo.{NodeNo}
use Rattle.lrc_code.specs.declared.numbers.UpgradeNo.{UpgradeNo}
use Rattle.lrc_topology.specs.Nodes.{node_at, has_domain}
use Rattle.lrc_code.specs.declared.numbers.SessionNo.{SessionNo}
use Rattle.lrc_code.specs.declared.numbers.Fragment.{Fragment}
use Rattle.lrc_code.specs.Codes.{fragments}
use Rattle.lrc_topology.specs.declared.NodeInfo.{NodeInfo}
use Rattle.lrc_topology.specs.declared.seat.Seat.{Seat}
use Rattle.lrc_topology.specs.declared.seat.Held.{Held}
use Rattle.lrc_rules.specs.Leases.{tick_outcome}
use Rattle.lrc_rules.specs.declared.command.Command.{Command}
use Rattle.lrc_rules.specs.declared.command.Command.TheVariants.{Place, Place6, Drop, Lease, Next, Done, Abandon, Revoke, Upgrade, Upgraded, Tick}
use Rattle.lrc_rules.specs.declared.node_command.NodeCommand.{NodeCommand}
use Rattle.lrc_rules.specs.declared.reply.Reply.TheVariants.{Dropped, Granted, Ended, Changed, Refused}
use Rattle.lrc_rules.specs.declared.refusal.Refusal.{Refusal}
use Rattle.lrc_rules.specs.declared.refusal.Refusal.TheVariants as refusal
use Rattle.lrc_rules.specs.declared.entry.Entry.{Entry}
use Rattle.lrc_terms.specs.declared.lease.Lease.{Lease as LeaseRecord}
use Rattle.lrc_rules.specs.declared.kind.Kind.{Kind}
use Rattle.lrc_rules.specs.Urgency.{next_of}
use Rattle.lrc_terms.specs.Stripes.{StripeFragment}
use Rattle.lrc_rules.specs.Repairs.{needs, kind, is_beyond_repair}
use Rattle.lrc_rules.specs.Leases.{new_lease, with_lease, granted, lease_answer, lease_outcome, next_answer, next_outcome, at_epoch, is_held_by, moved_in, without_lease, done_answer, done_outcome, abandon_answer, abandon_outcome, revoke_outcome}
use Rattle.lrc_rules.specs.States.{State, has_stripe, lease_of, online_at, load}
use Rattle.lrc_rules.specs.Placement.{chosen, with_home, place_next, placed}
use Rattle.lrc_rules.specs.Outcomes.{Outcome, refuse_if}
use Rattle.lrc_rules.specs.Steps.{with_stripe, without_stripe, placed_reply, place_command, place_answer, place_outcome, drop_outcome, is_wrong_on, changed_on, is_kept_by_load, node_outcome, without_upgrading, would_lose, upgrade_answer, upgrade_outcome, is_the_domain, upgraded_outcome, step}
use Rattle.lrc_rules.specs.Choices.{AreChosen}
use Rattle.lrc_rules.proofs.CodedLemmas.{code-own}
use Rattle.lrc_rules.specs.Changes.{held_at, with_placed, with_done, changed_by}

-- the placement after one more fragment, by the seat that is chosen
abbrev turn : StripeNo → State → Fragment → Option Seat → Result State Fragment
turn s st f o = option_map_or (λ seat. Ok (with_home st s f seat)) o (Err f)

-- ---- the seats of a placed stripe

seats-held_at : (s : StripeNo) (fs : List Fragment) (seats : List Seat) → length seats ≡ length fs → map (λ h. h.seat) (held_at s fs seats) ≡ seats
seats-held_at s [] [] e = refl
seats-held_at s (f ∷ fs) (x ∷ xs) e = let rest : length xs ≡ length fs = omega (arith, e) in ap (λ ys. x ∷ ys) (seats-held_at s fs xs rest)
seats-held_at s [] (x ∷ xs) e = absurd (omega (arith, e))
seats-held_at s (f ∷ fs) [] e = absurd (omega (arith, e))

drop-front : {X : Type 0} (xs ys : List X) → drop (length xs) (xs ++ ys) ≡ ys
drop-front [] ys = refl
drop-front (x ∷ xs) ys = drop-front xs ys

-- the homes that were added are on these seats
pub seats-added : (code : Code) (s : StripeNo) (homes : List Held) (seats : List Seat) → length seats ≡ length (fragments code)
    → map (λ h. h.seat) (drop (length homes) (homes ++ held_at s (fragments code) seats)) ≡ seats
seats-added code s homes seats all = rw (drop-front homes (held_at s (fragments code) seats)) (seats-held_at s (fragments code) seats all)

refused-if : (met : Bool) (r : _) (st : State) (other : Outcome) → met ≡ true → refuse_if met r st other ≡ (Refused r, st)
refused-if true r st other e = refl
refused-if false r st other e = absurd (let k : false ≡ true = e in cc)

passed-if : (met : Bool) (r : _) (st : State) (other : Outcome) → met ≡ false → refuse_if met r st other ≡ other
passed-if false r st other e = refl
passed-if true r st other e = absurd (let k : true ≡ false = e in cc)

module _ (nodes : List NodeInfo) (st : State) (code : Code) (s : StripeNo) where
  pub place-there : has_stripe st s ≡ true → place_outcome nodes st code s ≡ (Refused refusal.StripeExists, st)
  unfolding place_outcome
  place-there there = refused-if _ _ st _ there

-- ---- what a command changes

-- the command and its reply determine the state after it
abbrev IsToldBy : State → Command → Outcome → Type 0
IsToldBy st c o = o.1 ≡ changed_by st c o.0

-- with one more refusal, too
told-if : (st : State) (c : Command) (met : Bool) (r : Refusal) (other : Outcome) → changed_by st c (Refused r) ≡ st → IsToldBy st c other
    → IsToldBy st c (refuse_if met r st other)
told-if st c true r other refused told = sym refused
told-if st c false r other refused told = told

-- a placement adds homes of the fragments in order, on the seats that are chosen for them
pub record IsGrown (nodes : List NodeInfo) (s : StripeNo) (fs : List Fragment) (st done : State) : Type 0 where
  pub seats : List Seat
  pub all : length seats ≡ length fs
  pub chosen_are : AreChosen nodes st s fs seats
  pub is : done ≡ record st { homes = st.homes ++ held_at s fs seats }

grown-more : (nodes : List NodeInfo) (s : StripeNo) (f : Fragment) (fs : List Fragment) (st done : State) (seat : Seat)
    → chosen nodes st s f ≡ Some seat → IsGrown nodes s fs (with_home st s f seat) done → IsGrown nodes s (f ∷ fs) st done
grown-more nodes s f fs st done seat here g = record {
  seats = seat ∷ g.seats;
  all = omega (arith, g.all);
  chosen_are = (here, g.chosen_are);
  is =
      g.is
      ∙ ap (λ (hs : List Held). record st { homes = hs }) (append_assoc st.homes (record { stripe = s; fragment = f; seat = seat } ∷ []) (held_at s fs g.seats));
}

never-ends : (nodes : List NodeInfo) (s : StripeNo) (fs : List Fragment) (f : Fragment) (done : State)
    → fold (place_next nodes s) (Err f) fs ≡ Ok done → ⊥
never-ends nodes s fs f done e = let stays = sym (fold_stays (place_next nodes s) (Err f) (λ x. refl) fs) ∙ e in cc

grown-turn :
    (nodes : List NodeInfo) (s : StripeNo) (f : Fragment) (fs : List Fragment) (st done : State) (o : Option Seat)
    → chosen nodes st s f ≡ o → ((next : State) → fold (place_next nodes s) (Ok next) fs ≡ Ok done → IsGrown nodes s fs next done)
    → fold (place_next nodes s) (turn s st f o) fs ≡ Ok done → IsGrown nodes s (f ∷ fs) st done
grown-turn nodes s f fs st done (Some seat) here rest e = grown-more nodes s f fs st done seat here (rest (with_home st s f seat) e)
grown-turn nodes s f fs st done None here rest e = absurd (never-ends nodes s fs f done e)

same_ok : (st done : State) → ◌≡◌ {A = Result State Fragment} (Ok st) (Ok done) → st ≡ done
same_ok st done e = cc

placing-grown : (nodes : List NodeInfo) (s : StripeNo) (fs : List Fragment) (st done : State) → fold (place_next nodes s) (Ok st) fs ≡ Ok done
    → IsGrown nodes s fs st done
placing-grown nodes s [] st done e =
    record { seats = []; all = refl; chosen_are = tt; is = sym (same_ok st done e) ∙ ap (λ (hs : List Held). record st { homes = hs }) (sym (append-nil st.homes)) }
placing-grown nodes s (f ∷ fs) st done e = grown-turn nodes s f fs st done (chosen nodes st s f) refl (λ next. placing-grown nodes s fs next done) e

-- the state after Place or Place6, and after its refusal
placed-left : (st : State) (code : Code) (s : StripeNo) (seats : List Seat) → changed_by st (place_command code s) (placed_reply code seats) ≡ with_placed st code s seats
placed-left st Wide s seats = refl
placed-left st Narrow s seats = refl

unplaced-left : (st : State) (code : Code) (s : StripeNo) (r : Refusal) → changed_by st (place_command code s) (Refused r) ≡ st
unplaced-left st Wide s r = refl
unplaced-left st Narrow s r = refl

answer-changed : (nodes : List NodeInfo) (st : State) (code : Code) (s : StripeNo) (r : Result State Fragment)
    → ((done : State) → r ≡ Ok done → IsGrown nodes s (fragments code) (with_stripe st code s) done)
    → IsToldBy st (place_command code s) (place_answer st code r)
answer-changed nodes st code s (Err f) grown = sym (unplaced-left st code s (refusal.NoLawfulNode f))
answer-changed nodes st code s (Ok done) grown =
    let g = grown done refl in
    let added : map (λ h. h.seat) (drop (length st.homes) done.homes) ≡ g.seats =
    ap (λ (x : State). map (λ h. h.seat) (drop (length st.homes) x.homes)) g.is ∙ seats-added code s st.homes g.seats g.all in
    g.is ∙ ap (with_placed st code s) (sym added) ∙ sym (placed-left st code s (map (λ h. h.seat) (drop (length st.homes) done.homes)))

pub place-passed : (nodes : List NodeInfo) (st : State) (code : Code) (s : StripeNo) → has_stripe st s ≡ false
    → place_outcome nodes st code s ≡ place_answer st code (placed nodes (with_stripe st code s) s)
unfolding place_outcome
place-passed nodes st code s absent = passed-if _ _ st _ absent

-- the fragments that are placed are those of the code
pub placed-all : (nodes : List NodeInfo) (st : State) (code : Code) (s : StripeNo)
    → placed nodes (with_stripe st code s) s ≡ fold (place_next nodes s) (Ok (with_stripe st code s)) (fragments code)
unfolding placed
placed-all nodes st code s = ap (λ (c : Code). fold (place_next nodes s) (Ok (with_stripe st code s)) (fragments c)) (code-own st code s)

pub placed-grown : (nodes : List NodeInfo) (st : State) (code : Code) (s : StripeNo) (done : State) → placed nodes (with_stripe st code s) s ≡ Ok done
    → IsGrown nodes s (fragments code) (with_stripe st code s) done
placed-grown nodes st code s done e = placing-grown nodes s (fragments code) (with_stripe st code s) done (sym (placed-all nodes st code s) ∙ e)

place-changed : (nodes : List NodeInfo) (st : State) (code : Code) (s : StripeNo) → IsToldBy st (place_command code s) (place_outcome nodes st code s)
unfolding place_outcome
place-changed nodes st code s =
    told-if st (place_command code s) (has_stripe st s) refusal.StripeExists _ (unplaced-left st code s refusal.StripeExists)
    (answer-changed nodes st code s (placed nodes (with_stripe st code s) s) (placed-grown nodes st code s))

-- Place and Place6
pub place-step : (nodes : List NodeInfo) (past : List Entry) (st : State) (session : SessionNo) (code : Code) (s : StripeNo)
    → step nodes past st session (place_command code s) ≡ place_outcome nodes st code s
place-step nodes past st session Wide s = refl
place-step nodes past st session Narrow s = refl

-- if the stripe was placed
pub place-left : (nodes : List NodeInfo) (st : State) (code : Code) (s : StripeNo) (seats : List Seat) → (place_outcome nodes st code s).0 ≡ placed_reply code seats
    → (place_outcome nodes st code s).1 ≡ with_placed st code s seats
place-left nodes st code s seats told = place-changed nodes st code s ∙ ap (changed_by st (place_command code s)) told ∙ placed-left st code s seats

pub drop-changed : (st : State) (s : StripeNo) → IsToldBy st (Drop s) (drop_outcome st s)
unfolding drop_outcome
drop-changed st s = told-if st (Drop s) (not (has_stripe st s)) refusal.UnknownStripe (Dropped, without_stripe st s) refl refl

-- a command on a node
node-changed : (nodes : List NodeInfo) (st : State) (command : NodeCommand) (n : NodeNo) (c : Command) → changed_by st c Changed ≡ changed_on command st n
    → ((r : Refusal) → changed_by st c (Refused r) ≡ st) → IsToldBy st c (node_outcome nodes st command n)
unfolding node_outcome
node-changed nodes st command n c is refused =
    told-if st c (is_none (node_at nodes n)) refusal.UnknownNode _ (refused refusal.UnknownNode)
    (told-if st c (is_wrong_on command st n) refusal.WrongMode _ (refused refusal.WrongMode)
    (told-if st c (is_kept_by_load command st n) (refusal.NotEmpty (load st n)) (Changed, changed_on command st n) (refused (refusal.NotEmpty (load st n)))
    (sym is)))

module _ (nodes : List NodeInfo) (st : State) (u : UpgradeNo) where
  pub upgrade-changed : IsToldBy st (Upgrade u) (upgrade_outcome nodes st u)
  unfolding upgrade_outcome
  upgrade-changed = told-if st (Upgrade u) (not (has_domain nodes u)) refusal.UnknownDomain _ refl (by st.upgrading (would_lose nodes st u)) where
    by : (upgrading : Option UpgradeNo) (lost : Option StripeNo) → IsToldBy st (Upgrade u) (upgrade_answer st u upgrading lost)
    by (Some v) lost = refl
    by None (Some s) = refl
    by None None = refl

  upgraded-changed : IsToldBy st (Upgraded u) (upgraded_outcome nodes st u)
  unfolding upgraded_outcome
  upgraded-changed =
      told-if st (Upgraded u) (not (has_domain nodes u)) refusal.UnknownDomain _ refl
      (told-if st (Upgraded u) (not (is_the_domain u st.upgrading)) refusal.NotUpgrading (Changed, without_upgrading st) refl refl)

module _ (nodes : List NodeInfo) (past : List Entry) (st : State) (session : SessionNo) (s : StripeNo) (f : Fragment) where
  -- the command adds the lease that is granted, and changes nothing if none is
  record Grants (c : Command) : Type 0 where
    granting : (lease : LeaseRecord) (k : Kind) → changed_by st c (Granted lease k) ≡ with_lease st lease
    refusing : (r : Refusal) → changed_by st c (Refused r) ≡ st

  lease-by : (c : Command) → Grants c → IsToldBy st c (lease_outcome nodes past st session s f)
  unfolding lease_outcome
  lease-by c grants = told-if st c (not (has_stripe st s)) refusal.UnknownStripe _ (grants.refusing refusal.UnknownStripe) (by (lease_of st s f)) where
    seated : (seat : Option Seat) → IsToldBy st c (granted nodes past st session s f seat)
    seated (Some seat) = sym (grants.granting (new_lease past st session s f seat) (kind nodes st s f))
    seated None = sym (grants.refusing (refusal.NoLawfulNode f))

    by : (o : Option LeaseRecord) → IsToldBy st c (lease_answer nodes past st session s f o)
    by (Some lease) = sym (grants.refusing (refusal.AlreadyLeased lease.epoch))
    by None =
        told-if st c (not (needs nodes st s f)) refusal.NotNeeded _ (grants.refusing refusal.NotNeeded)
        (told-if st c (is_beyond_repair nodes st s f) refusal.Unrecoverable _ (grants.refusing refusal.Unrecoverable) (seated (chosen nodes st s f)))

  lease-changed : IsToldBy st (Lease s f) (lease_outcome nodes past st session s f)
  lease-changed = lease-by (Lease s f) (record { granting = λ lease k. refl; refusing = λ r. refl })

  next-one : IsToldBy st Next (lease_outcome nodes past st session s f)
  next-one = lease-by Next (record { granting = λ lease k. refl; refusing = λ r. refl })

  module _ (e : ℕ) where
    pub done-changed : IsToldBy st (Done s f e) (done_outcome nodes st session s f e)
    unfolding done_outcome
    done-changed = told-if st (Done s f e) (not (has_stripe st s)) refusal.UnknownStripe _ refl (by (lease_of st s f) refl) where
      same : (b : Bool) (lease : LeaseRecord) → lease_of st s f ≡ Some lease → IsToldBy st (Done s f e) (done_answer nodes st session s f (if b then Some lease else None))
      same false lease live = refl
      same true lease live =
          told-if st (Done s f e) (not (is_held_by session lease)) (refusal.NotHolder lease.holder) _ refl
          (told-if st (Done s f e) (not (online_at nodes st lease.target.node)) (refusal.TargetOffline lease.target.node) (Ended, moved_in st s f lease.target) refl
          (sym (ap (with_done st s f) live)))

      by : (o : Option LeaseRecord) → lease_of st s f ≡ o → IsToldBy st (Done s f e) (done_answer nodes st session s f (at_epoch e o))
      by None none = refl
      by (Some lease) live = same (nat_eq lease.epoch e) lease live

    pub abandon-changed : IsToldBy st (Abandon s f e) (abandon_outcome st session s f e)
    unfolding abandon_outcome
    abandon-changed = told-if st (Abandon s f e) (not (has_stripe st s)) refusal.UnknownStripe _ refl (by (at_epoch e (lease_of st s f))) where
      by : (o : Option LeaseRecord) → IsToldBy st (Abandon s f e) (abandon_answer st session s f o)
      by None = refl
      by (Some lease) = told-if st (Abandon s f e) (not (is_held_by session lease)) (refusal.NotHolder lease.holder) (Ended, without_lease st s f) refl refl

  pub revoke-changed : IsToldBy st (Revoke s f) (revoke_outcome st s f)
  unfolding revoke_outcome
  revoke-changed =
      told-if st (Revoke s f) (not (has_stripe st s)) refusal.UnknownStripe _ refl
      (told-if st (Revoke s f) (is_none (lease_of st s f)) refusal.NoLease (Ended, without_lease st s f) refl refl)

module _ (nodes : List NodeInfo) (past : List Entry) (st : State) (session : SessionNo) where
  next-cases : (o : Option StripeFragment) → IsToldBy st Next (next_answer nodes past st session o)
  next-cases (Some p) = next-one nodes past st session p.0 p.1
  next-cases None = refl

  next-changed : IsToldBy st Next (next_outcome nodes past st session)
  unfolding next_outcome
  next-changed = next-cases (next_of nodes st)

tick-changed : (st : State) → IsToldBy st Tick (tick_outcome st)
unfolding tick_outcome
tick-changed st = refl

-- the command and the reply determine the state after it
pub step-changed : (nodes : List NodeInfo) (past : List Entry) (st : State) (session : SessionNo) (c : Command)
    → (step nodes past st session c).1 ≡ changed_by st c (step nodes past st session c).0
step-changed nodes past st session (Place s) = place-changed nodes st Wide s
step-changed nodes past st session (Place6 s) = place-changed nodes st Narrow s
step-changed nodes past st session (Drop s) = drop-changed st s
step-changed nodes past st session (Lease s f) = lease-changed nodes past st session s f
step-changed nodes past st session Next = next-changed nodes past st session
step-changed nodes past st session (Done s f e) = done-changed nodes past st session s f e
step-changed nodes past st session (Abandon s f e) = abandon-changed nodes past st session s f e
step-changed nodes past st session (Revoke s f) = revoke-changed nodes past st session s f
step-changed nodes past st session (Upgrade u) = upgrade-changed nodes st u
step-changed nodes past st session (Upgraded u) = upgraded-changed nodes st u
step-changed nodes past st session Tick = tick-changed st
step-changed nodes past st session c = node-changed nodes st _ _ c refl (λ r. refl)

-- a refused command leaves the state as it was
refused-left : (st : State) (c : Command) (r : Refusal) → changed_by st c (Refused r) ≡ st
refused-left st (Place s) r = refl
refused-left st _ r = refl

pub refused-keeps : (nodes : List NodeInfo) (past : List Entry) (st : State) (session : SessionNo) (c : Command) (r : Refusal)
    → (step nodes past st session c).0 ≡ Refused r → (step nodes past st session c).1 ≡ st
refused-keeps nodes past st session c r told = step-changed nodes past st session c ∙ ap (changed_by st c) told ∙ refused-left st c r
