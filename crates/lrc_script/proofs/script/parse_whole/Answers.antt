use Rattle.std.proofs.Common.{◌≤◌, length, sym, ap, ◌∙◌, arith}
use Rattle.lrc_script.specs.Scripts.{command_line}
use Rattle.lrc_script.proofs.CutLemmas.{cut_once}
use Rattle.lrc_script.proofs.FormLemmas.{command_line-short}
use Rattle.lrc_script.proofs.FrontLemmas.{command_no_end}
use Rattle.lrc_script.proofs.script.parse_whole.Goals as goal

pub returns-then-line-ge-LONGEST-clause-none : goal.returns-then-line-ge-LONGEST-clause-none
returns-then-line-ge-LONGEST-clause-none c = λ command range is.
    let long : 27 ≤ length c.args.line.now = c.if-line-ge-LONGEST.true in
    omega (arith, long, ap length is, command_line-short command range)

pub returns-in-Some-clause-some : goal.returns-in-Some-clause-some
returns-in-Some-clause-some c =
    let found = c.in-Some.ensures.some in
    let parts = cut_once 10 c.args.line.now (command_line c.in-Some.command) _ _ c.requires (command_no_end c.in-Some.command found.0) (sym c.end_line.ensures.1 ∙ found.1) in
    (found.0, parts.0)
