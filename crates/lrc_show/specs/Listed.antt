-- What `lrcman show` prints of a state, a row for each stripe, node, lease or fragment: tables of comma-separated fields.
use Rattle.std.specs.Prelude.{ℕ, Bool, true, false, if◌then◌else◌, List, [], ◌∷◌, ◌++◌, codes, decimal, length, map, filter, flat_map, count_by, Option, Some, None, option_to_list}
use Rattle.lrc_code.specs.declared.codes.Code.{Code}
use Rattle.lrc_code.specs.declared.numbers.StripeNo.{StripeNo}
use Rattle.lrc_code.specs.declared.numbers.NodeNo.{NodeNo}
use Rattle.lrc_code.specs.declared.numbers.Fragment.{Fragment}
use Rattle.lrc_code.specs.Numbers.{same_node}
use Rattle.lrc_code.specs.Codes.{fragments, has_fragment, code_name, all_fragments, data_count}
use Rattle.lrc_code.specs.Losses.{FragmentSet, margin_of, bits_of}
use Rattle.lrc_topology.specs.declared.NodeInfo.{NodeInfo}
use Rattle.lrc_topology.specs.declared.seat.Seat.{Seat}
use Rattle.lrc_topology.specs.Nodes.{node_at}
use Rattle.lrc_terms.specs.declared.lease.Lease.{Lease}
use Rattle.lrc_terms.specs.declared.level.Level.{Level}
use Rattle.lrc_terms.specs.Levels.{Homes, homes_of, homeless_in}
use Rattle.lrc_rules.specs.declared.kind.Kind.{Kind}
use Rattle.lrc_rules.specs.declared.kind.Kind.TheVariants.{Local, Local3, Global, Move}
use Rattle.lrc_rules.specs.States.{State, code_of, lease_of, load, mode_of, is_down, is_upgrading, is_online, missing, level}
use Rattle.lrc_rules.specs.Repairs.{needs, kind, is_safe, is_beyond_repair}
use Rattle.lrc_rules.specs.Urgency.{work, is_grantable}
use Rattle.lrc_book.specs.Looks.{stripes_of, homes_on}
use Rattle.lrc_text.specs.Tables.{table_line, level_text, margin_field, mask_field, mode_text, online_text}
use Rattle.lrc_text.specs.Texts.{seat_text, spaced_words}

-- ---- fields

-- a mask that no program takes for a number: `0x` and four hexadecimal digits
abbrev pub hex_field : ℕ → List ℕ
hex_field bits = codes "0x" ++ mask_field bits

-- words with a space between
abbrev pub words_field : List (List ℕ) → List ℕ
words_field [] = []
words_field (word ∷ words) = word ++ spaced_words words

-- the numbers of fragments, with a space between
abbrev pub fragments_field : List Fragment → List ℕ
fragments_field fs = words_field (map (λ f. decimal f.value) fs)

-- the fragments of the code that are in the set, in rising order
abbrev pub members_of : Code → FragmentSet → List Fragment
members_of code m = filter (λ f. m f.value) (fragments code)

-- NODE:SLOT, or a dash for a fragment without a home; nothing for a fragment that the code lacks
abbrev pub home_field : Code → Fragment → Option Seat → List ℕ
home_field code f (Some seat) = seat_text seat
home_field code f None = if has_fragment code f.value then codes "-" else []

-- ---- stripes

-- the fields of a set of fragments: as a mask, and as a list
abbrev pub set_fields : Code → FragmentSet → List (List ℕ)
set_fields code m = hex_field (bits_of code m) ∷ fragments_field (members_of code m) ∷ []

-- the home of each of the sixteen fragment numbers
abbrev pub home_fields : Code → Homes → List (List ℕ)
home_fields code of = map (λ f. home_field code f (of f.value)) all_fragments

-- the row of a stripe with this code and level, these missing fragments, and these homes
unfoldable pub stripe_line : StripeNo → Code → Level → FragmentSet → Homes → List ℕ
stripe_line s code l m of =
    table_line (decimal s.value ∷ code_name code ∷ level_text l ∷ margin_field (margin_of code m) ∷ set_fields code m ++ set_fields code (homeless_in code of) ++ home_fields code of)

-- the row of a stripe
abbrev pub shown_stripe : List NodeInfo → State → StripeNo → List ℕ
shown_stripe nodes st s = stripe_line s (code_of st s) (level nodes st s) (missing nodes st s) (homes_of st.homes s)

-- a row for each stripe, in rising order
abbrev pub stripes_table : List NodeInfo → State → List ℕ
stripes_table nodes st =
    codes "stripe,code,level,margin,missing,missing_fragments,homeless,homeless_fragments,home_0,home_1,home_2,home_3,home_4,home_5,home_6,home_7,home_8,home_9,home_10,home_11,home_12,home_13,home_14,home_15\n"
    ++ flat_map (shown_stripe nodes st) (stripes_of st)

-- ---- leases

-- the row of a lease
abbrev pub shown_lease : Lease → List ℕ
shown_lease l =
    table_line (decimal l.stripe.value ∷ decimal l.fragment.value ∷ decimal l.holder.value ∷ seat_text l.target ∷ decimal l.epoch ∷ decimal l.expiry ∷ [])

-- the live leases of a stripe, in rising order of fragment
unfoldable pub leases_of : State → StripeNo → List Lease
leases_of st s = flat_map (λ f. option_to_list (lease_of st s f)) all_fragments

-- the live leases, in rising order of stripe and fragment
abbrev pub all_leases : State → List Lease
all_leases st = flat_map (leases_of st) (stripes_of st)

-- a row for each live lease
abbrev pub leases_table : State → List ℕ
leases_table st = codes "stripe,fragment,holder,target,epoch,expiry\n" ++ flat_map shown_lease (all_leases st)

-- ---- nodes

-- how many live leases have their target on the node
abbrev pub target_count : State → NodeNo → ℕ
target_count st n = count_by (λ l. same_node n l.target.node) (all_leases st)

-- the row of a node: its domains; its mode, and whether it is down, its domain upgrading, and online; the number of homes, of targets
-- of live leases, and of all held seats; its slots
abbrev pub shown_node : State → NodeInfo → List ℕ
shown_node st n =
    table_line (decimal n.number.value ∷ decimal n.fault.value ∷ decimal n.upgrade.value ∷ mode_text (mode_of st n.number) ∷ online_text (is_down st n.number)
    ∷ online_text (is_upgrading st n) ∷ online_text (is_online st n) ∷ decimal (length (homes_on st n.number)) ∷ decimal (target_count st n.number) ∷ decimal (load st n.number) ∷ decimal n.slots ∷ [])

-- a row for each node, in the order of the file
abbrev pub nodes_table : List NodeInfo → State → List ℕ
nodes_table nodes st = codes "node,fault,upgrade,mode,down,upgrading,online,homes,targets,load,slots\n" ++ flat_map (shown_node st) nodes

-- ---- work

-- the word for how a fragment is rebuilt
abbrev pub kind_word : Kind → List ℕ
kind_word (Local sources) = codes "local"
kind_word (Local3 sources) = codes "local"
kind_word Global = codes "global"
kind_word Move = codes "move"

-- the fragments that a repair from a local group reads
abbrev pub lease_sources : Kind → List Fragment
lease_sources (Local sources) = sources
lease_sources (Local3 sources) = sources
lease_sources Global = []
lease_sources Move = []

-- how many fragments are read for a repair of this kind: the sources of a local one; for a global one as many as there are data
-- fragments, if the missing fragments are recoverable; for a move the fragment itself
abbrev pub reads : Code → Bool → Kind → Option ℕ
reads code safe (Local sources) = Some (length sources)
reads code safe (Local3 sources) = Some (length sources)
reads code safe Global = if safe then Some (data_count code) else None
reads code safe Move = Some 1

-- this number, or nothing
abbrev pub reads_field : Option ℕ → List ℕ
reads_field (Some count) = decimal count
reads_field None = []

-- where the repair of a fragment without a lease stands: a lease would be granted; too many fragments of the stripe are missing; or
-- no node is lawful for the fragment
abbrev pub unleased_word : List NodeInfo → State → StripeNo → Fragment → List ℕ
unleased_word nodes st s f =
    if is_grantable nodes st (s, f) then codes "open" else (if is_beyond_repair nodes st s f then codes "unrecoverable" else codes "no_node")

-- where the repair stands: its lease is live, and has a holder and an epoch; or there is no lease
abbrev pub standing_fields : List NodeInfo → State → StripeNo → Fragment → Option Lease → List (List ℕ)
standing_fields nodes st s f (Some l) = codes "leased" ∷ decimal l.holder.value ∷ decimal l.epoch ∷ []
standing_fields nodes st s f None = unleased_word nodes st s f ∷ [] ∷ [] ∷ []

-- the row of a fragment that needs a lease
abbrev pub work_row : List NodeInfo → State → StripeNo → Fragment → List ℕ
work_row nodes st s f =
    table_line (decimal s.value ∷ decimal f.value ∷ kind_word (kind nodes st s f) ∷ fragments_field (lease_sources (kind nodes st s f))
    ∷ reads_field (reads (code_of st s) (is_safe nodes st s) (kind nodes st s f)) ∷ standing_fields nodes st s f (lease_of st s f))

-- the rows of a stripe
abbrev pub work_rows : List NodeInfo → State → StripeNo → List ℕ
work_rows nodes st s = flat_map (work_row nodes st s) (filter (needs nodes st s) (fragments (code_of st s)))

-- a row for each fragment that needs a lease, in the order of repair
abbrev pub work_table : List NodeInfo → State → List ℕ
work_table nodes st = codes "stripe,fragment,kind,sources,reads,standing,holder,epoch\n" ++ flat_map (work_rows nodes st) (work nodes st)

-- ---- fragments

-- the words for a fragment with its home on a node that is online, and on one that is not
abbrev pub presence_word : Bool → List ℕ
presence_word true = codes "present"
presence_word false = codes "offline"

-- why a node that is not gone is offline, by whether it is down, and whether its domain upgrades
abbrev pub why_words : Bool → Bool → List ℕ
why_words true true = codes "down upgrading"
why_words true false = codes "down"
why_words false true = codes "upgrading"
why_words false false = []

-- the fields of a fragment with its home on this node: the domains, whether the fragment is present, the mode, and why it is not
abbrev pub node_fields : State → Option NodeInfo → List (List ℕ)
node_fields st (Some n) =
    decimal n.fault.value ∷ decimal n.upgrade.value ∷ presence_word (is_online st n) ∷ mode_text (mode_of st n.number)
    ∷ why_words (is_down st n.number) (is_upgrading st n) ∷ []
node_fields st None = [] ∷ [] ∷ codes "offline" ∷ [] ∷ [] ∷ []

-- the fields of a fragment with this home, or without one
abbrev pub whereabouts : List NodeInfo → State → Option Seat → List (List ℕ)
whereabouts nodes st (Some seat) = decimal seat.node.value ∷ decimal seat.slot ∷ node_fields st (node_at nodes seat.node)
whereabouts nodes st None = [] ∷ [] ∷ [] ∷ [] ∷ codes "homeless" ∷ [] ∷ [] ∷ []

-- the fields of a fragment with this live lease, or without one
abbrev pub lease_fields : Option Lease → List (List ℕ)
lease_fields (Some l) = seat_text l.target ∷ decimal l.holder.value ∷ decimal l.epoch ∷ decimal l.expiry ∷ []
lease_fields None = [] ∷ [] ∷ [] ∷ [] ∷ []

-- the row of a fragment with this home and this live lease
unfoldable pub fragment_line : List NodeInfo → State → StripeNo → Fragment → Option Seat → Option Lease → List ℕ
fragment_line nodes st s f home l = table_line (decimal s.value ∷ decimal f.value ∷ whereabouts nodes st home ++ lease_fields l)

-- the row of a fragment
abbrev pub shown_fragment : List NodeInfo → State → StripeNo → Fragment → List ℕ
shown_fragment nodes st s f = fragment_line nodes st s f (homes_of st.homes s f.value) (lease_of st s f)

-- the rows of the fragments of a stripe
abbrev pub fragment_rows : List NodeInfo → State → StripeNo → List ℕ
fragment_rows nodes st s = flat_map (shown_fragment nodes st s) (fragments (code_of st s))

-- a row for each fragment of each stripe, in rising order
abbrev pub fragments_table : List NodeInfo → State → List ℕ
fragments_table nodes st =
    codes "stripe,fragment,node,slot,fault,upgrade,state,mode,why,target,holder,epoch,expiry\n" ++ flat_map (fragment_rows nodes st) (stripes_of st)
