use Rattle.std.proofs.Common.{◌≡◌, ◌<◌, true, lit<, List, length, take, get_or, refl, sym, ap, subst, ◌∙◌, arith}
use Rattle.std.specs.List.{All}
use Rattle.std.proofs.lemmas.List.{take_all}
use Rattle.lrc_code.specs.declared.numbers.Fragment.{Fragment}
use Rattle.lrc_code.specs.Codes.{fragments}
use Rattle.lrc_topology.specs.declared.seat.Seat.{Seat}
use Rattle.lrc_topology.specs.declared.NodeInfo.{NodeInfo}
use Rattle.lrc_slots.specs.Tables.{slots_of}
use Rattle.lrc_slots.proofs.OpenSlotLemmas.{least-open}
use Rattle.lrc_nodes.specs.States.{infos_in}
use Rattle.lrc_stripes.specs.Stored as stored
use Rattle.lrc_stripes.specs.Stored.{Stored, has_slot}
use Rattle.lrc_stripes.specs.Tables.{stored_in}
use Rattle.lrc_terms.proofs.CodeListLemmas.{fragments-long}
use Rattle.lrc_store.specs.declared.store.Store.{Store}
use Rattle.lrc_rules.specs.Steps.{with_stripe}
use Rattle.lrc_rules.specs.Changes.{with_placed}
use Rattle.lrc_store.specs.Stores.{IsOf}
use Rattle.lrc_rules.proofs.LawLemmas.{chosen-length}
use Rattle.lrc_store.proofs.NodeStateLemmas.{infos-kept}
use Rattle.lrc_store.proofs.PlacingLemmas.{taken-start, taken-least, taken-more, placed-kept}
use Rattle.lrc_rules.proofs.ToldLemmas.{place-told}
use Rattle.lrc_store.proofs.store.Store.place.Goals as goal

-- what stands past the end of a list of seats
abbrev zero_seat : Seat
zero_seat = record { node = record { value = 0 }; slot = 0 }

-- and of fragments
abbrev first : Fragment
first = record { value = 0; in_range = lit< tt }

pub loop-seat-init : goal.loop-seat-init
loop-seat-init g c =
    let nodes = c.args.self.now.topology in
    let told = place-told nodes g.st c.args.code c.args.stripe c.args.seats.now c.requires.1 in
    record {
      rest = refl;
      all = chosen-length nodes (with_stripe g.st c.args.code c.args.stripe) c.args.stripe (fragments c.args.code) c.args.seats.now told.chosen_are;
      taken = taken-start nodes c.requires.0.known g.st c.args.code c.args.stripe c.args.seats.now c.requires.0.seated told (slots_of c.args.self.now.table) c.requires.0.table_is;
    }

pub take_slot-requires : goal.take_slot-requires
take_slot-requires g c =
    let code = c.args.code in
    let there : c.loop-seat.seat-index < length c.args.seats.now = omega arith in
    let low : c.loop-seat.seat-index < length (fragments code) = omega (arith, there, c.loop-seat.invariant.all) in
    let seat = get_or c.args.seats.now c.loop-seat.seat-index zero_seat in
    let least = taken-least c.args.self.now.topology c.requires.0.known g.st code c.args.stripe c.args.seats.now c.loop-seat.seat-index first zero_seat low there
    (slots_of c.loop-seat.self.table) c.loop-seat.invariant.taken in
    let free = least-open (slots_of c.loop-seat.self.table) seat.node seat.slot least in record {
      within = free.0;
      free = free.1;
    }

pub loop-seat-preserved : goal.loop-seat-preserved
loop-seat-preserved g c =
    let code = c.args.code in
    let there : c.loop-seat.seat-index < length c.args.seats.now = omega arith in
    let low : c.loop-seat.seat-index < length (fragments code) = omega (arith, there, c.loop-seat.invariant.all) in
    record {
      rest = ap (λ (k : Store). record k { table = c.take_slot.new.self }) c.loop-seat.invariant.rest;
      all = c.loop-seat.invariant.all;
      taken = taken-more c.args.self.now.topology c.requires.0.known g.st code c.args.stripe c.args.seats.now c.loop-seat.seat-index first zero_seat low there
          (slots_of c.loop-seat.self.table) c.loop-seat.invariant.taken (slots_of c.take_slot.new.self) c.take_slot.ensures;
    }

pub add_with_homes-requires : goal.add_with_homes-requires
add_with_homes-requires g c =
    let same = ap (λ (k : Store). stored_in k.stripes) c.loop-seat.invariant.rest ∙ c.requires.0.stripes_is in
    let all : take c.loop-seat.seat-index c.args.seats.now ≡ c.args.seats.now = take_all c.loop-seat.seat-index c.args.seats.now (omega arith) in
    record {
      absent = ap (λ (x : Stored). x.stripes c.args.stripe) same
          ∙ (place-told c.args.self.now.topology g.st c.args.code c.args.stripe c.args.seats.now c.requires.1).absent;
      length = c.loop-seat.invariant.all ∙ fragments-long c.args.code;
      slots = subst (λ (ns : List NodeInfo). All (λ seat. has_slot ns seat ≡ true) c.args.seats.now) (sym (ap (λ (x : Stored). infos_in x.nodes) same ∙ infos-kept g.st c.args.self.now.topology))
          (subst (λ (xs : List Seat). All (λ seat. has_slot c.args.self.now.topology seat ≡ true) xs) all c.loop-seat.invariant.taken.slots);
    }

pub returns-clause-kept : goal.returns-clause-kept
returns-clause-kept g c =
    let code = c.args.code in
    let s = c.args.stripe in
    let seats = c.args.seats.now in
    let k = c.loop-seat.self in
    let told = place-told c.args.self.now.topology g.st code s seats c.requires.1 in
    let all = c.loop-seat.invariant.all in
    subst (λ (x : Store). IsOf (with_placed g.st code s seats) (record x { stripes = c.add_with_homes.new.self })) (sym c.loop-seat.invariant.rest)
    (placed-kept g.st code s seats c.loop-seat.seat-index c.args.self.now k.table c.add_with_homes.new.self (omega (arith, all)) all c.requires.0 told.absent
    c.loop-seat.invariant.taken
    (c.add_with_homes.ensures ∙ ap (λ (x : Store). stored.with_homes (stored_in x.stripes) code s seats) c.loop-seat.invariant.rest))
