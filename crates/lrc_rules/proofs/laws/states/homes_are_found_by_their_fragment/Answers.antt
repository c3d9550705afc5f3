use Rattle.lrc_rules.proofs.StateLemmas.{found-home, none-home, home-none, home-found}
use Rattle.lrc_rules.proofs.laws.states.homes_are_found_by_their_fragment.Goals as goal

pub returns : goal.returns
returns c = record {
  own = found-home;
  none = λ homes s f. (none-home homes s f, home-none homes s f);
  each = λ homes h single. (home-found homes single h, found-home homes h.stripe h.fragment h.seat);
}
