use Rattle.std.proofs.Common.{[]}
use Rattle.lrc_stripes.proofs.VerdictLemmas.{kept-safe}
use Rattle.lrc_stripes.proofs.verdicts.Verdicts.keep_safe.Goals as goal

pub returns-in-Some : goal.returns-in-Some
returns-in-Some c = λ lost several are safe.
    kept-safe c.args.self.now c.args.domain c.args.stripe c.in-Some.safe.now c.insert.new.self c.in-Some.ensures.item.3.0 (c.in-Some.ensures.item.3.1 []) c.insert.ensures lost several are safe
