-- What seats beside a fragment bar, by the domains of their nodes, which are kept in a row for each stripe.
use Rattle.std.specs.Prelude.{ℕ, Bool, ◌&&◌, ◌||◌, nat_eq, List, get_or}
use Rattle.std.specs.List.{list_any}
use Rattle.lrc_code.specs.declared.numbers.Fragment.{Fragment}
use Rattle.lrc_code.specs.Losses.{bits_set}
use Rattle.lrc_code.specs.Codes.{fragments, all_fragments}
use Rattle.lrc_slots.specs.Barred.{Barred, joined}
use Rattle.lrc_slots.specs.Tables.{barred}
use Rattle.lrc_bars.specs.declared.neighbours.OtherSeats.{OtherSeats}
use Rattle.lrc_bars.specs.declared.neighbours.Neighbours.{Neighbours}

-- (internal) the fragment is one of these, and its seat is in the domain of this number
abbrev pub stands_in : List ℕ → ℕ → ℕ → Fragment → Bool
stands_in domains bits number f = bits_set bits f.value && nat_eq (get_or domains f.value 0) number

-- (internal) the domains that the seats of fragments bar: the fault domains of the others, and the upgrade domains of the members of its class
abbrev pub domains_bar : List ℕ → List ℕ → ℕ → ℕ → List Fragment → Barred
domains_bar faults upgrades others members fs =
    record { faults = λ d. list_any (stands_in faults others d.value) fs; upgrades = λ d. list_any (stands_in upgrades members d.value) fs }

-- (internal) the domains that these seats bar
abbrev pub seats_bar : OtherSeats → Barred
seats_bar n = domains_bar n.domains.now.faults n.domains.now.upgrades n.others.bits n.members.bits all_fragments

-- (internal) the domains that the homes and the targets bar, and all else that is barred
abbrev pub barred_by : Neighbours → Barred
barred_by n = joined (joined (barred n.more.now) (seats_bar n.targets)) (seats_bar n.homes)

-- (internal) what is barred, with the fault domain of a fragment's seat, if the fragment is one of these
abbrev pub with_seat_fault : Barred → List ℕ → ℕ → Fragment → Barred
with_seat_fault b faults others f = record b { faults = λ d. b.faults d || stands_in faults others d.value f }

-- (internal) the same with its upgrade domain
abbrev pub with_seat_upgrade : Barred → List ℕ → ℕ → Fragment → Barred
with_seat_upgrade b upgrades members f = record b { upgrades = λ d. b.upgrades d || stands_in upgrades members d.value f }
