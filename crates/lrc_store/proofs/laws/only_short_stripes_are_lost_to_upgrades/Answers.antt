use Rattle.lrc_store.proofs.UpgradeLemmas.{lost-first, first-lost}
use Rattle.lrc_store.proofs.ShortUpgradeLemmas.{lost-short, short-first, first-short}
use Rattle.lrc_store.proofs.laws.only_short_stripes_are_lost_to_upgrades.Goals as goal

pub returns-clause-short : goal.returns-clause-short
returns-clause-short c = λ nodes st u s seated none. lost-short nodes st seated u none s

pub returns-clause-first : goal.returns-clause-first
returns-clause-first c = λ nodes st u s seated none. (short-first nodes st seated u none s, first-short nodes st seated u none s)

pub returns-clause-refused : goal.returns-clause-refused
returns-clause-refused c = λ nodes st u s seated none. (
  λ is. lost-first nodes st u none s (short-first nodes st seated u none s is),
  λ told. first-short nodes st seated u none s (first-lost nodes st u none s told),
)
