use Rattle.std.proofs.Common.{sym, ap, ◌∙◌}
use Rattle.lrc_script.specs.Scripts.{cause_of}
use Rattle.lrc_script.proofs.CauseLemmas.{cause_of-command_line}
use Rattle.lrc_script.proofs.script.parse_line.Goals as goal

pub returns-in-Some-clause-cause : goal.returns-in-Some-clause-cause
returns-in-Some-clause-cause c =
    let found = c.in-Some.ensures.some in
    sym (ap cause_of found.1 ∙ cause_of-command_line c.in-Some.command found.0)
