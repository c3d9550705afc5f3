use Rattle.std.proofs.Common.{rules, ◌≡◌, None, Some, Err}
use Rattle.lrc_script.specs.Cuts.{IsLineRead}
use Rattle.lrc_script.proofs.FrontLemmas.{IsLineRead-front}
use Rattle.lrc_script.proofs.LineLemmas.{IsFirstBad-here, IsReadTo-next, IsScript-end, first_bad-end}
use Rattle.lrc_script.proofs.script.parse_script.Goals as goal
use Rattle.lrc_script.proofs.script.parse_script.Goals.{in-Some+in_ok-push, in_default+in-Some-parse_in_text+in_ok-push-2, in_default+in_default-parse_in_text+in_ok-behind+in-Some-2}

pub returns-in_err-behind-clause-bad : goal.returns-in_err-behind-clause-bad
returns-in_err-behind-clause-bad c =
    let error = c.in_err-behind.field-0.0 in
    let is : c.from_residual-in_err-behind.result ≡ Err error = search rules in
    let bad = c.in_err-behind.ensures.bad in
    rw is (IsFirstBad-here _ _ _ bad.line _ _ c.loop-command.invariant bad.behind error bad.cut bad.bad)

pub returns-in-None-clause-script : goal.returns-in-None-clause-script
returns-in-None-clause-script c =
    let read : IsLineRead _ _ _ None = rw c.in-None.is at c.in_ok-behind.ensures.read in
    IsScript-end _ _ _ read.line _ _ c.loop-command.invariant read.good _ read.added read.cut

pub returns-in-None-clause-good : goal.returns-in-None-clause-good
returns-in-None-clause-good c =
    let read : IsLineRead _ _ _ None = rw c.in-None.is at c.in_ok-behind.ensures.read in
    first_bad-end _ _ _ read.line _ _ c.loop-command.invariant read.good _ read.added read.cut

-- in each way the first line of the rest is read, and what follows it is left
pub loop-command-preserved : goal.loop-command-preserved
loop-command-preserved c =
    let read : IsLineRead c.loop-command.rest.now c.loop-command.commands.items c.match-parse_next.commands.items (Some c.match-parse_next.rest) =
    elim c.match-parse_next.branch [
      | in-Some+in_ok-push w ↦
          let found = w.in-Some in
          rw (w.commands-is, w.rest-is, w.in_ok-push.ensures.items)
          (IsLineRead-front _ _ found.command found.behind found.ensures.some.0 found.ensures.some.1)
      | in_default+in-Some-parse_in_text+in_ok-push-2 w ↦
          let found = w.in-Some-parse_in_text in
          rw (w.commands-is, w.rest-is, w.in_ok-push-2.ensures.items)
          (IsLineRead-front _ _ found.command found.behind found.ensures.0 found.ensures.1)
      | in_default+in_default-parse_in_text+in_ok-behind+in-Some-2 w ↦
          let left : IsLineRead _ _ _ (Some w.in-Some-2.behind) = rw w.in-Some-2.is at w.in_ok-behind.ensures.read in
          rw (w.commands-is, w.rest-is) left
    ]
    in
    IsReadTo-next _ _ _ read.line _ _ c.loop-command.invariant read.good _ read.added c.match-parse_next.rest read.cut
