use Rattle.lrc_forecast.proofs.SeatLemmas.{not-gone, seats-words}
use Rattle.lrc_forecast.proofs.laws.seats_in_words.Goals as goal

pub returns-clause-seats : goal.returns-clause-seats
returns-clause-seats c = λ nodes st ns s seated. seats-words nodes st seated ns s

pub returns-clause-standing : goal.returns-clause-standing
returns-clause-standing c = λ nodes st h seated. not-gone nodes st seated h
