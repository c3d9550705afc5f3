use Rattle.std.proofs.Common.{◌≡◌, List, Result, Ok, Err, IfOk, length, map, sym, ap, ◌∙◌}
use Rattle.lrc_code.specs.declared.numbers.StripeNo.{StripeNo}
use Rattle.lrc_topology.specs.declared.NodeInfo.{NodeInfo}
use Rattle.lrc_topology.specs.Nodes.{AreNodes}
use Rattle.lrc_rules.specs.States.{State}
use Rattle.lrc_rules.specs.Goodness.{AreSeated}
use Rattle.lrc_capacity.specs.declared.room.NodeRoom.{NodeRoom}
use Rattle.lrc_capacity.specs.declared.capacity.Capacity.{Capacity}
use Rattle.lrc_capacity.specs.Capacities.{room_of, AreUnused, capacity}
use Rattle.lrc_capacity.specs.Trials.{filled}
use Rattle.lrc_capacity.proofs.CapacityLemmas.{fills}
use Rattle.lrc_capacity.proofs.capacity.capacity_of.Goals as goal

ok-then : {E : Type 0} (P Q : Capacity → Type 0) (r : Result Capacity E) → IfOk r P → ((c : Capacity) → P c → Q c) → IfOk r Q
ok-then P Q (Ok c) h then = then c h
ok-then P Q (Err e) h then = tt

pub returns : goal.returns
returns c =
    let code = c.args.code in
    let rooms = c.args.rooms.now in
    ok-then (λ k. k ≡ filled code 0 rooms c.args.unused)
    (λ k. (nodes : List NodeInfo) (st : State) (numbers : List StripeNo) → AreNodes nodes → AreSeated nodes st → rooms ≡ map (room_of st) nodes → AreUnused st numbers
    → length numbers ≡ c.args.unused → k ≡ capacity nodes st code numbers) c.fill.result c.fill.ensures
    (λ k is nodes st numbers known seated are unused long.
    is ∙ ap (λ (rs : List NodeRoom). filled code 0 rs c.args.unused) are ∙ ap (filled code 0 (map (room_of st) nodes)) (sym long)
    ∙ fills nodes known code numbers 0 st seated unused)
