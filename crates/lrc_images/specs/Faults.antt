-- What can be wrong with a row of an image, in words, and in which order it is asked.
use Rattle.std.specs.Prelude.{◌≡◌, ◌≢◌, ◌⊎◌, ◌+◌, ◌<◌, ◌≤◌, IsTrue, List, [], ◌∷◌, ◌++◌, map, flat_map, get_or, All, Contains, Some, None}
use Rattle.lrc_code.specs.declared.codes.Code.{Code}
use Rattle.lrc_code.specs.declared.numbers.UpgradeNo.{UpgradeNo}
use Rattle.lrc_code.specs.declared.numbers.Fragment.{Fragment}
use Rattle.lrc_code.specs.Codes.{fragment_count, share_class}
use Rattle.lrc_topology.specs.declared.NodeInfo.{NodeInfo}
use Rattle.lrc_topology.specs.declared.seat.Held.{Held}
use Rattle.lrc_topology.specs.Nodes.{node_at}
use Rattle.lrc_terms.specs.declared.mode.Mode.TheVariants.{Active, Gone}
use Rattle.lrc_images.specs.declared.cause.Cause.{Cause}
use Rattle.lrc_images.specs.declared.cause.Cause.TheVariants as cause
use Rattle.lrc_images.specs.declared.image.NodeRow.{NodeRow}
use Rattle.lrc_images.specs.declared.image.StripeRow.{StripeRow}
use Rattle.lrc_images.specs.declared.image.GrantRow.{GrantRow}
use Rattle.lrc_images.specs.declared.image.LeaseRow.{LeaseRow}
use Rattle.lrc_images.specs.declared.image.Image.{Image}
use Rattle.lrc_images.specs.Images.{row_homes}

-- ---- the first of several

-- this cause is the first of the list whose fault there is
abbrev pub IsFirst : (Cause → Type 0) → List Cause → Cause → Type 0
IsFirst fault [] c = ⊥
IsFirst fault (d ∷ ds) c = (fault d × (c ≡ d)) ⊎ ((¬ fault d) × IsFirst fault ds c)

-- This cause is the first of the list whose fault the first faulty element has. The elements are asked one after the
-- other, each with those before it.
abbrev pub IsFirstIn : {X : Type 0} → (List X → X → Cause → Type 0) → List Cause → List X → List X → Cause → Type 0
IsFirstIn fault causes before [] c = ⊥
IsFirstIn fault causes before (x ∷ xs) c =
    IsFirst (fault before x) causes c ⊎ (All (λ d. ¬ fault before x d) causes × IsFirstIn fault causes (before ++ x ∷ []) xs c)

-- ---- beside the rows

-- no node is in the domain that is upgrading, or there are more entries or more ticks than these
abbrev pub IsHeadFault : List NodeInfo → Image → Cause → Type 0
IsHeadFault nodes i cause.UnknownDomain = (u : UpgradeNo) × (i.upgrading ≡ Some u) × All (λ n. n.upgrade ≢ u) nodes
IsHeadFault nodes i cause.TooManyEntries = 9223372036854775808 < i.before
IsHeadFault nodes i cause.TooManyTicks = 4293967291 < i.clock
IsHeadFault nodes i _ = ⊥

abbrev pub head_causes : List Cause
head_causes = cause.UnknownDomain ∷ cause.TooManyEntries ∷ cause.TooManyTicks ∷ []

-- ---- nodes

-- An earlier row has the same node or a higher one, the node is active and up, the store has no such node, or the node is
-- gone and down.
abbrev pub IsNodeFault : List NodeInfo → List NodeRow → NodeRow → Cause → Type 0
IsNodeFault nodes before r cause.OutOfOrder = (b : NodeRow) × Contains before b × (r.node.value ≤ b.node.value)
IsNodeFault nodes before r cause.SaysNothing = (r.mode ≡ Active) × (¬ IsTrue r.is_down)
IsNodeFault nodes before r cause.UnknownNode = node_at nodes r.node ≡ None
IsNodeFault nodes before r cause.GoneAndDown = (r.mode ≡ Gone) × IsTrue r.is_down
IsNodeFault nodes before r _ = ⊥

abbrev pub node_causes : List Cause
node_causes = cause.OutOfOrder ∷ cause.SaysNothing ∷ cause.UnknownNode ∷ cause.GoneAndDown ∷ []

-- ---- seats

-- the nodes of two fragments share a fault domain, or the fragments share a class and the nodes an upgrade domain
abbrev pub AreTooClose : Code → Fragment → NodeInfo → Fragment → NodeInfo → Type 0
AreTooClose code f n g m = (n.fault ≡ m.fault) ⊎ (IsTrue (share_class code f g) × (n.upgrade ≡ m.upgrade))

-- another fragment of the stripe is held on a node that is too close
pub record IsCrowded (nodes : List NodeInfo) (code : Code) (held : List Held) (h : Held) : Type 0 where
  pub other : Held
  pub is_held : Contains held other
  pub stripe : other.stripe ≡ h.stripe
  pub fragment : other.fragment ≢ h.fragment
  pub node : NodeInfo
  pub node_is : node_at nodes h.seat.node ≡ Some node
  pub near : NodeInfo
  pub near_is : node_at nodes other.seat.node ≡ Some near
  pub close : AreTooClose code h.fragment node other.fragment near

-- A fragment of a stripe of this code cannot have the seat, while these seats are held: the code lacks the fragment, the
-- store has no such node, the node no such slot, the node's row says that it is gone, the seat is held, or another fragment
-- is too close.
abbrev pub IsSeatFault : List NodeInfo → List NodeRow → Code → List Held → Held → Cause → Type 0
IsSeatFault nodes rows code held h cause.UnknownFragment = fragment_count code ≤ h.fragment.value
IsSeatFault nodes rows code held h cause.UnknownNode = node_at nodes h.seat.node ≡ None
IsSeatFault nodes rows code held h cause.UnknownSlot = (n : NodeInfo) × (node_at nodes h.seat.node ≡ Some n) × (n.slots ≤ h.seat.slot)
IsSeatFault nodes rows code held h cause.NodeGone = (r : NodeRow) × Contains rows r × (r.node ≡ h.seat.node) × (r.mode ≡ Gone)
IsSeatFault nodes rows code held h cause.SeatTaken = (g : Held) × Contains held g × (g.seat ≡ h.seat)
IsSeatFault nodes rows code held h cause.NotLawful = IsCrowded nodes code held h
IsSeatFault nodes rows code held h _ = ⊥

abbrev pub seat_causes : List Cause
seat_causes = cause.UnknownFragment ∷ cause.UnknownNode ∷ cause.UnknownSlot ∷ cause.NodeGone ∷ cause.SeatTaken ∷ cause.NotLawful ∷ []

-- ---- stripes

-- an earlier row has the same stripe or a higher one
abbrev pub IsStripeBehind : List StripeRow → StripeRow → Type 0
IsStripeBehind before r = (b : StripeRow) × Contains before b × (r.stripe.value ≤ b.stripe.value)

-- The row is out of order, or a home of it cannot be held beside those of the earlier rows and its earlier ones.
abbrev pub IsStripeCause : List NodeInfo → Image → List StripeRow → StripeRow → Cause → Type 0
IsStripeCause nodes i before r c =
    (IsStripeBehind before r × (c ≡ cause.OutOfOrder))
    ⊎ ((¬ IsStripeBehind before r)
    × IsFirstIn (λ homes h. IsSeatFault nodes i.nodes.items r.code (flat_map row_homes before ++ homes) h) seat_causes [] (row_homes r) c)

-- ---- grants

-- an earlier row has the same stripe or a higher one, each count is 0, or some count is above this one
abbrev pub IsGrantFault : List GrantRow → GrantRow → Cause → Type 0
IsGrantFault before r cause.OutOfOrder = (b : GrantRow) × Contains before b × (r.stripe.value ≤ b.stripe.value)
IsGrantFault before r cause.SaysNothing = (f : Fragment) → get_or r.granted f.value 0 ≡ 0
IsGrantFault before r cause.TooManyGrants = (f : Fragment) × (4293967294 < get_or r.granted f.value 0)
IsGrantFault before r _ = ⊥

abbrev pub grant_causes : List Cause
grant_causes = cause.OutOfOrder ∷ cause.SaysNothing ∷ cause.TooManyGrants ∷ []

-- ---- leases

-- the target of the row, as the held seat of its fragment
abbrev pub target_of : LeaseRow → Held
target_of r = record { stripe = r.stripe; fragment = r.fragment; seat = r.target }

-- the seats that are held if the image has these leases: all homes, and the targets
abbrev pub held_with : Image → List LeaseRow → List Held
held_with i rows = flat_map row_homes i.stripes.items ++ map target_of rows

-- An earlier row has the same fragment or a later one, no row has the stripe, no row of grants counts one of the fragment,
-- the lease has expired or lasts longer than three ticks, or a fragment of a stripe with the code of its stripe's row cannot
-- have its target beside the homes and the earlier targets.
abbrev pub IsLeaseFault : List NodeInfo → Image → List LeaseRow → LeaseRow → Cause → Type 0
IsLeaseFault nodes i before r cause.OutOfOrder =
    (b : LeaseRow) × Contains before b
    × ((r.stripe.value < b.stripe.value) ⊎ ((r.stripe ≡ b.stripe) × (r.fragment.value ≤ b.fragment.value)))
IsLeaseFault nodes i before r cause.UnknownStripe = All (λ s. s.stripe ≢ r.stripe) i.stripes.items
IsLeaseFault nodes i before r cause.NeverGranted = All (λ g. g.stripe ≡ r.stripe → get_or g.granted r.fragment.value 0 ≡ 0) i.grants.items
IsLeaseFault nodes i before r cause.WrongExpiry = (r.expiry ≤ i.clock) ⊎ (i.clock + 3 < r.expiry)
IsLeaseFault nodes i before r c =
    (s : StripeRow) × Contains i.stripes.items s × (s.stripe ≡ r.stripe)
    × IsSeatFault nodes i.nodes.items s.code (held_with i before) (target_of r) c

abbrev pub lease_causes : List Cause
lease_causes = cause.OutOfOrder ∷ cause.UnknownStripe ∷ cause.NeverGranted ∷ cause.WrongExpiry ∷ seat_causes
