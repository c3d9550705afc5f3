use Rattle.lrc_rules.specs.declared.reply.Reply.TheVariants.{Ended, Refused}
use Rattle.lrc_rules.specs.declared.refusal.Refusal.TheVariants as refusal
use Rattle.lrc_rules.proofs.ReportedLemmas.{done-told, tell-done, tell-others, tell-offline}
use Rattle.lrc_rules.proofs.laws.leases.a_report_is_taken_from_the_holder_alone.Goals as goal

pub returns-clause-ended : goal.returns-clause-ended
returns-clause-ended c = λ nodes past st session s f e. (done-told nodes st session s f e Ended, tell-done nodes st session s f e)

pub returns-clause-others : goal.returns-clause-others
returns-clause-others c =
    λ nodes past st session s f e x. (done-told nodes st session s f e (Refused (refusal.NotHolder x)), tell-others nodes st session s f e x)

pub returns-clause-offline : goal.returns-clause-offline
returns-clause-offline c =
    λ nodes past st session s f e n. (done-told nodes st session s f e (Refused (refusal.TargetOffline n)), tell-offline nodes st session s f e n)
