use Rattle.lrc_forecast.proofs.AlikeForecastLemmas.{alike-forecast}
use Rattle.lrc_forecast.proofs.laws.alike.alike_states_have_one_forecast.Goals as goal

pub returns : goal.returns
returns c = λ nodes st other outage ns seated seated' alike. alike-forecast nodes st other alike seated seated' outage ns
