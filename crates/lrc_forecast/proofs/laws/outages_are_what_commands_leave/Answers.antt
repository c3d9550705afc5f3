use Rattle.std.proofs.Common.{◌≡◌, refl}
use Rattle.lrc_rules.specs.declared.node_command.NodeCommand.TheVariants as node
use Rattle.lrc_rules.specs.States.{State}
use Rattle.lrc_rules.specs.Steps.{changed_on}
use Rattle.lrc_rules.proofs.NodeCommandLemmas.{after-node}
use Rattle.lrc_forecast.proofs.RefusedLemmas.{stop-refused, lose-refused}
use Rattle.lrc_forecast.proofs.laws.outages_are_what_commands_leave.Goals as goal

pub returns-clause-stop : goal.returns-clause-stop
returns-clause-stop c = λ nodes past st session n told.
    after-node nodes st node.Down n (λ (next : State). next ≡ changed_on node.Down st n) (λ allowed. refl) told

pub returns-clause-lose : goal.returns-clause-lose
returns-clause-lose c = λ nodes past st session n told.
    after-node nodes st node.Fail n (λ (next : State). next ≡ changed_on node.Fail st n) (λ allowed. refl) told

pub returns-clause-stop_refused : goal.returns-clause-stop_refused
returns-clause-stop_refused c = λ nodes past st session n r s told. stop-refused nodes st n s r told

pub returns-clause-lose_refused : goal.returns-clause-lose_refused
returns-clause-lose_refused c = λ nodes past st session n r s seated told. lose-refused nodes st n s r seated told
