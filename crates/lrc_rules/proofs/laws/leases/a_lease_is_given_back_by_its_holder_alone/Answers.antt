use Rattle.lrc_rules.specs.declared.reply.Reply.TheVariants.{Ended, Refused}
use Rattle.lrc_rules.specs.declared.refusal.Refusal.TheVariants as refusal
use Rattle.lrc_rules.proofs.GivenBackLemmas.{abandon-told, tell-ended, tell-others, abandon-left}
use Rattle.lrc_rules.proofs.laws.leases.a_lease_is_given_back_by_its_holder_alone.Goals as goal

pub returns-clause-ended : goal.returns-clause-ended
returns-clause-ended c = λ nodes past st session s f e. (abandon-told st session s f e Ended, tell-ended st session s f e)

pub returns-clause-others : goal.returns-clause-others
returns-clause-others c =
    λ nodes past st session s f e x. (abandon-told st session s f e (Refused (refusal.NotHolder x)), tell-others st session s f e x)

pub returns-clause-after : goal.returns-clause-after
returns-clause-after c = λ nodes past st session s f e told. abandon-left nodes st session s f e told
