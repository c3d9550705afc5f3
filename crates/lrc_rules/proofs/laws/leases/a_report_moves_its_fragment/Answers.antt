use Rattle.lrc_rules.proofs.MovedLemmas.{moved-lease, moved-home, homes-keep}
use Rattle.lrc_rules.proofs.laws.leases.a_report_moves_its_fragment.Goals as goal

pub returns-clause-moved : goal.returns-clause-moved
returns-clause-moved c =
    λ nodes past st session s f e l live told. (moved-lease nodes st session s f e l live told, moved-home nodes st session s f e l live told)

pub returns-clause-others : goal.returns-clause-others
returns-clause-others c = λ nodes past st session s r f g e apart. homes-keep nodes past st session s r f g apart e
