use Rattle.std.proofs.Common.{◌≡◌, ◌+◌, ◌<◌, Bool, ◌||◌, get_or, take, length, map, None, Some, Option, IsTrue, arith, refl, sym, ap, ◌∙◌}
use Rattle.std.specs.List.{list_any}
use Rattle.std.proofs.lemmas.List.{take_all, length-map, get_or-map}
use Rattle.std.proofs.lemmas.List.Elements.{All-get_or}
use Rattle.std.proofs.lemmas.List.Folds.{list_any_more}
use Rattle.lrc_code.specs.declared.numbers.NodeNo.{NodeNo}
use Rattle.lrc_code.specs.Codes.{fragment_count}
use Rattle.lrc_topology.specs.declared.seat.Seat.{Seat}
use Rattle.lrc_rows.specs.NodeStates.{has_node, NodeStates, states_in}
use Rattle.lrc_homes.specs.Homes.{seated_homes, sits_on}
use Rattle.lrc_topology.specs.Nodes.{node_at}
use Rattle.lrc_rows.proofs.DomainLemmas.{domains-next, domains-all}
use Rattle.lrc_terms.proofs.CodeListLemmas.{few-fragments}
use Rattle.lrc_homes.proofs.HomesLemmas.{seated-any, seated-past}
use Rattle.lrc_rows.proofs.SeatedLemmas.{home-at, entered-more, entered-same}
use Rattle.lrc_rows.proofs.node_table.NodeTable.enter.Goals as goal

-- a filler for no seat
abbrev no_seat : Seat
no_seat = record { node = record { value = 0 }; slot = 0 }

pub enter_one-requires : goal.enter_one-requires
enter_one-requires c =
    rw c.loop-number.invariant.0
    (All-get_or (λ (seat : Seat). IsTrue (has_node (states_in c.args.self.now).nodes seat.node)) c.args.seats.now c.loop-number.number no_seat (omega (arith, c.loop-number-test.true, c.fragments-number-end.ensures.value, c.requires.length)) c.requires.nodes)

pub loop-number-preserved : goal.loop-number-preserved
loop-number-preserved c =
    let i = c.loop-number.number in
    let seats = c.args.seats.now in
    let homes = map Some seats in
    let first = states_in c.args.self.now in
    let before : NodeNo → Bool = λ n. list_any (sits_on n) (take i homes) in
    let after : NodeNo → Bool = λ n. list_any (sits_on n) (take (i + 1) homes) in
    let here = get_or seats i no_seat in
    let low : i < fragment_count c.args.code = omega (arith, c.loop-number-test.true, c.fragments-number-end.ensures.value) in
    let below : i < length seats = omega (arith, low, c.requires.length) in
    let within : i < length homes = let count = length-map seats (λ (x : Seat). Some x) in omega (arith, below, count) in
    let is = c.loop-number.invariant in
    let e = c.enter_one.ensures in (
      e.on ∙ entered-more first c.args.stripe (states_in c.loop-number.self) before after here is.0
          (λ n. list_any_more (sits_on n) homes i None within ∙ ap (λ (h : Option Seat). before n || sits_on n h) (get_or-map Some seats i no_seat None below)),
      domains-next first.nodes (λ f. get_or (seated_homes seats) f None) i i here (omega (arith, low, few-fragments c.args.code)) refl (home-at c.args.code seats c.requires.length no_seat i low) c.loop-number.domains c.enter_one.new.domains
          c.enter_one.result (sym (e.node ∙ ap (λ (z : NodeStates). node_at z.nodes here.node) is.0)) e.faults e.upgrades is.1,
    )

pub returns-clause-on : goal.returns-clause-on
returns-clause-on c =
    let seats = c.args.seats.now in
    let homes = map Some seats in
    let whole : take c.loop-number.number homes ≡ homes =
    take_all c.loop-number.number homes (let count = length-map seats (λ (x : Seat). Some x) in omega (arith, count, c.loop-number-test.false, c.fragments-number-end.ensures.value, c.requires.length)) in
    c.loop-number.invariant.0
    ∙ entered-same (states_in c.args.self.now) c.args.stripe (λ n. list_any (sits_on n) (take c.loop-number.number homes)) (λ n. list_any (sits_on n) (seated_homes seats))
    (λ n. seated-any (sits_on n) seats refl ∙ ap (list_any (sits_on n)) (sym whole))

pub returns-clause-domains : goal.returns-clause-domains
returns-clause-domains c =
    let seats = c.args.seats.now in
    domains-all (states_in c.args.self.now).nodes (λ f. get_or (seated_homes seats) f None) c.loop-number.number c.loop-number.domains
    (λ f above. seated-past seats f (omega (arith, above, c.loop-number-test.false, c.fragments-number-end.ensures.value, c.requires.length))) c.loop-number.invariant.1
