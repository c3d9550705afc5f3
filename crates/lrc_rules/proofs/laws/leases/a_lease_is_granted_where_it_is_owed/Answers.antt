use Rattle.lrc_rules.specs.declared.reply.Reply.TheVariants.{Granted, Refused}
use Rattle.lrc_rules.specs.declared.refusal.Refusal.TheVariants as refusal
use Rattle.lrc_rules.proofs.ChoiceLemmas.{chosen-choice, choice-chosen, none-fitting, none-chosen}
use Rattle.lrc_rules.proofs.GrantingLemmas.{lease-told, tell-granted, tell-none, tell-unrecoverable}
use Rattle.lrc_rules.proofs.laws.leases.a_lease_is_granted_where_it_is_owed.Goals as goal

pub returns-clause-granted : goal.returns-clause-granted
returns-clause-granted c = λ nodes past st session s f l k known. (
  λ told. let says =
      lease-told nodes past st session s f (Granted l k) told in (says.0, chosen-choice nodes st s f l.target known says.1, says.2, says.3),
  λ so. tell-granted nodes past st session s f l k (so.0, choice-chosen nodes st s f l.target known so.1, so.2, so.3),
)

pub returns-clause-no_node : goal.returns-clause-no_node
returns-clause-no_node c = λ nodes past st session s f g. (
  λ told. let says =
      lease-told nodes past st session s f (Refused (refusal.NoLawfulNode g)) told in (says.0, says.1, none-fitting nodes st s f says.2),
  λ so. tell-none nodes past st session s f g (so.0, so.1, none-chosen nodes st s f so.2),
)

pub returns-clause-unrecoverable : goal.returns-clause-unrecoverable
returns-clause-unrecoverable c = λ nodes past st session s f. (
  lease-told nodes past st session s f (Refused refusal.Unrecoverable),
  tell-unrecoverable nodes past st session s f,
)
