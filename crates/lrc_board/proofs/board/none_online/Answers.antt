use Rattle.std.proofs.Common.{◌≡◌, replicate, false}
use Rattle.std.proofs.lemmas.Grind.{common_steps}
use Rattle.std.proofs.Common.{arith}
use Rattle.lrc_board.proofs.EmptyLemmas.{none-set}
use Rattle.lrc_board.proofs.board.none_online.Goals as goal

pub returns-clause-none : goal.returns-clause-none
returns-clause-none c =
    let is : c.resize.new.self.items ≡ replicate c.args.count false = grind (arith, common_steps, c.in_ok-resize.ensures.items) in
    none-set c.args.count c.resize.new.self.items is
