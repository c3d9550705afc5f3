use Rattle.std.proofs.Common.{◌≡◌, sym, ap, ◌∙◌, subst}
use Rattle.lrc_script.specs.Cuts.{IsCut}
use Rattle.lrc_script.proofs.FrontLemmas.{cut_is_no_line}
use Rattle.lrc_script.proofs.script.parse_end.Goals as goal

pub returns-in-Some-clause-none : goal.returns-in-Some-clause-none
returns-in-Some-clause-none c = cut_is_no_line c.args.line.now _ c.cut_line.result.1 _ c.in-Some.is c.cut_line.ensures
