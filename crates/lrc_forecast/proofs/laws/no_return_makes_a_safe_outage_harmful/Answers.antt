use Rattle.lrc_forecast.proofs.FutureLemmas.{returns-agree, all-agree}
use Rattle.lrc_forecast.proofs.SafeLemmas.{safe-none}
use Rattle.lrc_forecast.proofs.laws.no_return_makes_a_safe_outage_harmful.Goals as goal

pub returns-clause-stripe : goal.returns-clause-stripe
returns-clause-stripe c = λ nodes past more st outage ns calls s seated all none. returns-agree nodes st ns s seated outage past more calls all none

pub returns-clause-all : goal.returns-clause-all
returns-clause-all c = λ nodes past more st outage ns calls s seated all safe there.
    returns-agree nodes st ns s seated outage past more calls all (safe-none nodes st outage ns safe s there)

pub returns-clause-with_up : goal.returns-clause-with_up
returns-clause-with_up c = λ nodes past more st outage ns calls s seated all none. all-agree nodes st ns s seated outage past more calls all none
