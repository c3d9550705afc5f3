use Rattle.lrc_rules.proofs.StateLemmas.{found-lease, none-lease, lease-none, lease-found}
use Rattle.lrc_rules.proofs.laws.states.leases_are_found_by_their_fragment.Goals as goal

pub returns : goal.returns
returns c = record {
  own = found-lease;
  none = λ st s f. (none-lease st s f, lease-none st s f);
  each = λ st s f l single. (found-lease st s f l, lease-found st s f single l);
}
