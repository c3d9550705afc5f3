use Rattle.lrc_rules.proofs.StateLemmas.{there-stripe, absent-stripe, stripe-absent}
use Rattle.lrc_rules.proofs.LookUpLemmas.{stripe-there}
use Rattle.lrc_rules.proofs.laws.states.stripes_in_words.Goals as goal

pub returns : goal.returns
returns c = record {
  there = λ st s. (stripe-there st s, there-stripe st s);
  absent = λ st s. (absent-stripe st s, stripe-absent st s);
}
