use Rattle.std.proofs.Common.{◌≡◌, replicate, false, arith}
use Rattle.std.proofs.lemmas.Grind.{common_steps}
use Rattle.lrc_nodes.proofs.FirstLemmas.{flags-none}
use Rattle.lrc_nodes.proofs.flags.none_set.Goals as goal

pub returns-clause-none : goal.returns-clause-none
returns-clause-none c =
    let is : c.resize.new.self.items ≡ replicate c.args.count false = grind (arith, common_steps, c.in_ok-resize.ensures.items) in
    flags-none c.args.count c.resize.new.self.items is
