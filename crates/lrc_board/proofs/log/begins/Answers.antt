use Rattle.std.proofs.Common.{List, ap, subst}
use mathlib.Core.List.{IsPrefix}
use Rattle.lrc_board.specs.declared.line.Line.{Line}
use Rattle.lrc_board.specs.Lines.{written}
use Rattle.lrc_board.proofs.PrefixLemmas.{prefix_shorter}
use Rattle.lrc_board.proofs.WrittenLemmas.{written_prefix}
use Rattle.lrc_board.proofs.log.begins.Goals as goal

pub returns : goal.returns
returns c permit less =
    let both : List Line = c.learn.new.self.log in
    let this = subst (λ (l : List Line). IsPrefix l both) (ap (λ s. s.log) c.again-both.ensures) c.learn.ensures.2 in
    prefix_shorter (written permit c.args.one.now.log) (written permit c.args.other.now.log) (written permit both)
    (written_prefix permit c.args.one.now.log both this) (written_prefix permit c.args.other.now.log both c.learn.ensures.3) less
