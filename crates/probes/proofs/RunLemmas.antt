-- Sessions that are all of their manager still are after a run, whether it was made or not.
use Rattle.std.proofs.Common.{◌≡◌, ℕ, length, List, Vec, Global, Result, Ok, Err, IfOk, IfErr, sym, ap, subst}
use Rattle.lrc_code.specs.declared.fault.Fault.{Fault}
use Rattle.lrc_code.specs.declared.fault.Fault.TheVariants as fault
use Rattle.lrc_rules.specs.declared.command.Command.{Command}
use Rattle.lrc_sessions.specs.declared.track.Track.{Track}
use Rattle.lrc_sessions.specs.Views.{SessionView}
use Rattle.lrc_sessions.specs.Counts.{AreAll}
use Rattle.lrc_sessions.specs.Runs.{AreRun}
use Rattle.lrc_sessions.proofs.OpenedLemmas.{all_ran}

pub all_after : {Z : Type 0} (count limit most : ℕ) (may_stop : Type 0) (passes : ℕ → ℕ → Type 0) (scripts : List (Vec Command Z)) (before after : Vec SessionView Global)
    (ran : Result (Vec Track Global) Fault)
    → AreAll count before.items → length before.items ≡ length scripts
    → IfOk ran (λ tracks. AreRun limit most may_stop passes scripts before.items after.items tracks.items)
    → IfErr ran (λ e. (e ≡ fault.OutOfMemory) × (after ≡ before)) → AreAll count after.items
all_after count limit most may_stop passes scripts before after (Ok tracks) all len ok err =
    all_ran count limit most may_stop passes scripts before.items after.items tracks.items all len ok
all_after count limit most may_stop passes scripts before after (Err e) all len ok err =
    subst (AreAll count) (ap (λ v. v.items) (sym err.1)) all
