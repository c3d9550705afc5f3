use Rattle.lrc_rules.proofs.LookLemmas.{missing-told, homes-told, mode-told, load-told}
use Rattle.lrc_rules.proofs.laws.states.answers_in_words.Goals as goal

pub returns-clause-missing : goal.returns-clause-missing
returns-clause-missing c = missing-told

pub returns-clause-homes : goal.returns-clause-homes
returns-clause-homes c = homes-told

pub returns-clause-mode : goal.returns-clause-mode
returns-clause-mode c = mode-told

pub returns-clause-load : goal.returns-clause-load
returns-clause-load c = load-told
