use Rattle.std.proofs.Common.{refl}
use Rattle.std.proofs.lemmas.List.{map-append}
use Rattle.std.proofs.lemmas.Result.{err_from_is_err_and}
use Rattle.lrc_outputs.proofs.JudgedLemmas.{parsed_more, good_behind, first_bad_found}
use Rattle.lrc_outputs.proofs.judging.parse_scripts.Goals as goal

pub returns-in_err-commands-clause-bad : goal.returns-in_err-commands-clause-bad
returns-in_err-commands-clause-bad c =
    let p = err_from_is_err_and c.from_residual.result c.from_residual.ensures.1 in
    rw (p.1, p.2) (first_bad_found c.args.scripts.now c.loop-script.script-index _ c.loop-script-test.true _ c.loop-script.invariant c.args.passed _ refl c.in_err-commands.field-0.0 c.in_err-commands.ensures.bad)

pub loop-script-preserved : goal.loop-script-preserved
loop-script-preserved c =
    rw (c.in_ok-push.ensures.items, map-append) (parsed_more c.args.scripts.now c.loop-script.script-index _ c.loop-script-test.true _ c.loop-script.invariant c.in_ok-commands.commands.items c.in_ok-commands.ensures.script (good_behind c.args.passed _ _ c.in_ok-commands.ensures.good))
