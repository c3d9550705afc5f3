-- The repair that a lease would be granted for.
use Rattle.std.specs.Prelude.{◌≡◌, Bool, true, ◌&&◌, List, Option, Some, None, is_none, IsTrue, IsFalse, Result, Ok, Err}
use Rattle.std.specs.List.{Contains, AllPairs}
use Rattle.lrc_code.specs.declared.numbers.StripeNo.{StripeNo}
use Rattle.lrc_code.specs.declared.numbers.Fragment.{Fragment}
use Rattle.lrc_topology.specs.declared.NodeInfo.{NodeInfo}
use Rattle.lrc_topology.specs.declared.seat.Seat.{Seat}
use Rattle.lrc_terms.specs.Levels.{comes_first}
use Rattle.lrc_terms.specs.Stripes.{StripeFragment}
use Rattle.lrc_store.specs.declared.repair.Repair.{Repair}
use Rattle.lrc_store.specs.declared.cursor.RepairCursor.{RepairCursor}
use Rattle.lrc_store.specs.declared.cursor.RepairCursor.TheVariants.{First, At, End}
use Rattle.lrc_store.specs.declared.store.Store.{Store}
use Rattle.lrc_rules.specs.declared.kind.Kind.{Kind}
use Rattle.lrc_rules.specs.declared.refusal.Refusal.{Refusal}
use Rattle.lrc_rules.specs.declared.refusal.Refusal.TheVariants as refusal
use Rattle.lrc_rules.specs.States.{State, has_stripe, lease_of, rank}
use Rattle.lrc_rules.specs.Placement.{chosen}
use Rattle.lrc_rules.specs.Repairs.{needs}
use Rattle.lrc_rules.specs.Urgency.{is_grantable}
use Rattle.lrc_rules.specs.Granting.{IsGrantable}
use Rattle.lrc_store.specs.Stores.{IsOf, repair_of}

-- the fragment needs a lease, and has none
abbrev pub is_waiting : List NodeInfo → State → StripeNo → Fragment → Bool
is_waiting nodes st s f = needs nodes st s f && is_none (lease_of st s f)

-- ---- the repair cursor, before which nothing is grantable

-- The stripe has work, and no grantable fragment is of a stripe that comes before it in the order of repair.
pub record IsPast (nodes : List NodeInfo) (st : State) (cursor : StripeNo) : Type 0 where
  pub there : IsTrue (has_stripe st cursor)
  pub fragment : Fragment
  pub needed : IsTrue (needs nodes st cursor fragment)
  pub first : (p : StripeFragment) → IsGrantable nodes st p → IsFalse (comes_first (rank nodes st) p.0 cursor)

-- the repair cursor of the state: at the first stripe nothing is known, and at the end no fragment is grantable
abbrev pub IsRepairCursor : List NodeInfo → State → RepairCursor → Type 0
IsRepairCursor nodes st First = IsTrue true
IsRepairCursor nodes st (At s) = IsPast nodes st s
IsRepairCursor nodes st End = (p : StripeFragment) → ¬ (IsGrantable nodes st p)

-- the store is that of a state with this repair cursor
abbrev pub HasRepairCursor : Store → RepairCursor → Type 0
HasRepairCursor s cursor = (st : State) × IsOf st s × IsRepairCursor s.topology st cursor

-- (internal) the stripes are there, are in the order of repair, and are all that have a grantable fragment
pub record HaveGrantable (nodes : List NodeInfo) (st : State) (stripes : List StripeNo) : Type 0 where
  pub there : (s : StripeNo) → Contains stripes s → Contains st.stripes s
  pub rising : AllPairs (λ r s. IsTrue (comes_first (rank nodes st) r s)) stripes
  pub each : (p : StripeFragment) → Contains st.stripes p.0 → is_grantable nodes st p ≡ true → Contains stripes p.0

-- ---- a repair

-- the fragment that is repaired
abbrev pub fragment_of : Repair → StripeFragment
fragment_of r = (r.stripe, r.fragment)

-- the repair of a fragment of this kind on this seat, or why its lease is refused
abbrev pub repair_by : StripeNo → Fragment → Option Kind → Option Seat → Result Repair Refusal
repair_by s f None seat = Err refusal.Unrecoverable
repair_by s f (Some kind) None = Err (refusal.NoLawfulNode f)
repair_by s f (Some kind) (Some seat) = Ok (record { stripe = s; fragment = f; kind = kind; target = seat })

-- the repair of a fragment that needs a lease and has none, or why its lease is refused
abbrev pub repair_or_refusal : List NodeInfo → State → StripeNo → Fragment → Result Repair Refusal
repair_or_refusal nodes st s f = repair_by s f (repair_of nodes st s f) (chosen nodes st s f)

-- a lease of the fragment would be granted for this repair
pub record IsRepair (nodes : List NodeInfo) (st : State) (r : Repair) : Type 0 where
  pub there : has_stripe st r.stripe ≡ true
  pub waiting : is_waiting nodes st r.stripe r.fragment ≡ true
  pub found : repair_or_refusal nodes st r.stripe r.fragment ≡ Ok r
