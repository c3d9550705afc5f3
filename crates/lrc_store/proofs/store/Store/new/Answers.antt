use Rattle.std.proofs.Common.{rules}
use Rattle.lrc_store.proofs.OpeningLemmas.{opening-kept}
use Rattle.lrc_store.proofs.store.Store.new.Goals as goal

pub returns-clause-value : goal.returns-clause-value
returns-clause-value c = (search rules, opening-kept _ (search rules) (search rules) (search rules) (search rules) (search rules) (search rules) (search rules))
