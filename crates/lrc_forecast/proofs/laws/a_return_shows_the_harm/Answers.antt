use Rattle.lrc_forecast.proofs.ReturnExampleLemmas.{online-shown, down-shown, upgrading-shown, target-shown}
use Rattle.lrc_forecast.proofs.laws.a_return_shows_the_harm.Goals as goal

pub returns-clause-online : goal.returns-clause-online
returns-clause-online c = online-shown

pub returns-clause-down : goal.returns-clause-down
returns-clause-down c = down-shown

pub returns-clause-upgrading : goal.returns-clause-upgrading
returns-clause-upgrading c = upgrading-shown

pub returns-clause-target : goal.returns-clause-target
returns-clause-target c = target-shown
