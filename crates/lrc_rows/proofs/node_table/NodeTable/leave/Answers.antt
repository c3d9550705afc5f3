use Rattle.std.proofs.Common.{ℕ, ◌≡◌, ◌+◌, ◌<◌, Bool, ◌||◌, get_or, take, length, None, Option, arith, refl, sym, ap, ◌∙◌}
use Rattle.std.specs.List.{list_any}
use Rattle.std.proofs.lemmas.List.{take_all}
use Rattle.std.proofs.lemmas.List.Folds.{list_any_more}
use Rattle.lrc_code.specs.declared.numbers.NodeNo.{NodeNo}
use Rattle.lrc_topology.specs.declared.seat.Seat.{Seat}
use Rattle.lrc_homes.specs.Homes.{sits_on}
use Rattle.lrc_rows.specs.NodeStates.{states_in}
use Rattle.lrc_homes.proofs.MaskLemmas.{item-number}
use Rattle.lrc_rows.proofs.NodeStateLemmas.{off-none, off-more, off-same, or-false}
use Rattle.lrc_rows.proofs.node_table.NodeTable.leave.Goals as goal
use Rattle.lrc_rows.proofs.node_table.NodeTable.leave.Goals.{in-Some, in_default}

pub loop-fragment-init : goal.loop-fragment-init
loop-fragment-init c = off-none (states_in c.args.self.now) c.args.stripe _ (λ n. refl)

pub loop-fragment-preserved : goal.loop-fragment-preserved
loop-fragment-preserved c =
    let i = c.loop-fragment.fragment-index in
    let homes = c.args.row.now.homes in
    let within : i < length homes = let all = c.args.row.now.sixteen in omega (arith, all, c.loop-fragment-test.true) in
    let before : NodeNo → Bool = λ n. list_any (sits_on n) (take i homes) in
    let after : NodeNo → Bool = λ n. list_any (sits_on n) (take (i + 1) homes) in
    let number = item-number c.all-fragment-items.result i c.fragment-item.result c.all-fragment-items.ensures c.loop-fragment-test.true in
    let at : get_or homes i None ≡ c.home.result = ap (λ (f : ℕ). get_or homes f None) (sym number) ∙ sym c.home.ensures in
    let more : (n : NodeNo) → after n ≡ (before n || sits_on n c.home.result) =
    λ n. list_any_more (sits_on n) homes i None within ∙ ap (λ (h : Option Seat). before n || sits_on n h) at in
    elim c.match-home.branch [
      | in-Some w ↦
          rw w.self-is (w.remove.ensures
          ∙ off-more (states_in c.args.self.now) c.args.stripe (states_in c.loop-fragment.self) before after w.in-Some.seat c.loop-fragment.invariant
          (λ n. more n ∙ ap (λ (h : Option Seat). before n || sits_on n h) w.in-Some.is))
      | in_default w ↦
          rw w.self-is (c.loop-fragment.invariant
          ∙ off-same (states_in c.args.self.now) c.args.stripe before after
          (λ n. more n ∙ ap (λ (h : Option Seat). before n || sits_on n h) w.in_default.is ∙ or-false (before n)))
    ]

pub returns : goal.returns
returns c =
    let i = c.loop-fragment.fragment-index in
    let homes = c.args.row.now.homes in
    let all = c.args.row.now.sixteen in
    let whole : take i homes ≡ homes = take_all i homes (omega (arith, all, c.loop-fragment-test.false)) in
    c.loop-fragment.invariant
    ∙ off-same (states_in c.args.self.now) c.args.stripe (λ n. list_any (sits_on n) (take i homes)) (λ n. list_any (sits_on n) homes) (λ n. ap (list_any (sits_on n)) (sym whole))
