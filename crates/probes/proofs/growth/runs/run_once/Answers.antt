use Rattle.std.proofs.Common.{ℕ, length, sym, ap, ◌∙◌}
use Rattle.probes.proofs.RunLemmas.{all_after}
use Rattle.probes.proofs.growth.runs.run_once.Goals as goal

-- the open gate says nothing of a call
abbrev passes : ℕ → ℕ → Type 0
passes session n = Unit {0} × Unit {0}

pub returns-in-Ok-clause-all : goal.returns-in-Ok-clause-all
returns-in-Ok-clause-all g c count all =
    let ran = c.run_sessions-back in
    let long = c.requires.one ∙ sym (ap length c.as_slice.ensures.value ∙ c.in-Ok.ensures) in
    all_after count g.N.ViewNaming.limit 256 ⊥ passes c.as_slice.result.now c.args.sessions ran.result.0 ran.result.1 all long ran.ensures.ok ran.ensures.err
