-- The world that an image stands for: the grants before it, and its state.
use Rattle.std.specs.Prelude.{Bool, true, false, List, [], ◌∷◌, map, filter, flat_map, replicate, get_or, Option, Some, None}
use Rattle.std.proofs.Common.{lit≤}
use Rattle.lrc_code.specs.declared.codes.Code.{Code}
use Rattle.lrc_code.specs.declared.codes.Code.TheVariants.{Wide, Narrow}
use Rattle.lrc_code.specs.declared.numbers.StripeNo.{StripeNo}
use Rattle.lrc_code.specs.declared.numbers.NodeNo.{NodeNo}
use Rattle.lrc_code.specs.declared.numbers.Fragment.{Fragment}
use Rattle.lrc_code.specs.Codes.{all_fragments}
use Rattle.lrc_topology.specs.declared.seat.Seat.{Seat}
use Rattle.lrc_topology.specs.declared.seat.Held.{Held}
use Rattle.lrc_terms.specs.declared.lease.Lease.{Lease as LeaseRecord}
use Rattle.lrc_rules.specs.declared.command.Command.TheVariants.{Lease}
use Rattle.lrc_rules.specs.declared.reply.Reply.TheVariants.{Granted}
use Rattle.lrc_rules.specs.declared.kind.Kind.TheVariants.{Global}
use Rattle.lrc_rules.specs.declared.entry.Entry.{Entry}
use Rattle.lrc_rules.specs.States.{State}
use Rattle.lrc_terms.specs.Modes.{is_draining, is_gone}
use Rattle.lrc_rules.specs.Leases.{grants}
use Rattle.lrc_rules.specs.Histories.{World}
use Rattle.lrc_images.specs.declared.image.NodeRow.{NodeRow}
use Rattle.lrc_images.specs.declared.image.StripeRow.{StripeRow}
use Rattle.lrc_images.specs.declared.image.GrantRow.{GrantRow}
use Rattle.lrc_images.specs.declared.image.LeaseRow.{LeaseRow}
use Rattle.lrc_images.specs.declared.image.Image.{Image}

-- ---- the grants

-- an entry that grants a lease of the fragment; an image keeps nothing else of it
abbrev pub some_grant : StripeNo → Fragment → Entry
some_grant s f =
    record {
      session = record { value = 1; in_range = (lit≤ tt, lit≤ tt) };
      command = Lease s f;
      reply = Granted (record { stripe = s; fragment = f; holder = record { value = 1; in_range = (lit≤ tt, lit≤ tt) }; target = record { node = record { value = 0 }; slot = 0 }; epoch = 0; expiry = 0 }) Global;
    }

-- an entry for each grant of the row
abbrev pub row_grants : GrantRow → List Entry
row_grants r = flat_map (λ f. replicate (get_or r.granted f.value 0) (some_grant r.stripe f)) all_fragments

-- an entry for each grant of the rows
abbrev pub earlier : List GrantRow → List Entry
earlier rows = flat_map row_grants rows

-- ---- the state

-- the code is Narrow
abbrev pub is_narrow : Code → Bool
is_narrow Wide = false
is_narrow Narrow = true

-- the home of a fragment, as a list with one element or none
abbrev pub home_list : StripeNo → Fragment → Option Seat → List Held
home_list s f None = []
home_list s f (Some seat) = record { stripe = s; fragment = f; seat = seat } ∷ []

-- the homes of the row's stripe
abbrev pub row_homes : StripeRow → List Held
row_homes r = flat_map (λ f. home_list r.stripe f (get_or r.homes f.value None)) all_fragments

-- the lease of the row after these entries: its epoch is the number of grants of its fragment
abbrev pub row_lease : List Entry → LeaseRow → LeaseRecord
row_lease past r = record { stripe = r.stripe; fragment = r.fragment; holder = r.holder; target = r.target; epoch = grants past r.stripe r.fragment; expiry = r.expiry }

-- the numbers of the nodes that pass the test
abbrev pub nodes_where : (NodeRow → Bool) → List NodeRow → List NodeNo
nodes_where test rows = map (λ r. r.node) (filter test rows)

-- the state of the image
abbrev pub image_state : Image → State
image_state i =
    record {
      stripes = map (λ r. r.stripe) i.stripes.items;
      narrow = map (λ r. r.stripe) (filter (λ r. is_narrow r.code) i.stripes.items);
      homes = flat_map row_homes i.stripes.items;
      leases = map (row_lease (earlier i.grants.items)) i.leases.items;
      gone = nodes_where (λ r. is_gone r.mode) i.nodes.items;
      draining = nodes_where (λ r. is_draining r.mode) i.nodes.items;
      down = nodes_where (λ r. r.is_down) i.nodes.items;
      upgrading = i.upgrading;
      clock = i.clock;
    }

-- the grants before the image, and its state
abbrev pub image_world : Image → World
image_world i = record { past = earlier i.grants.items; state = image_state i }
