use Rattle.lrc_terms.proofs.LeaseLemmas.{leases_in-own, leases_in-contains, contains-leases_in}
use Rattle.lrc_terms.proofs.laws.leases_are_found_in_their_list.Goals as goal

pub returns : goal.returns
returns c = record {
  own = λ leases s f l found. let own = leases_in-own leases s f l found in (leases_in-contains leases s f l found, own.0, own.1);
  each = λ leases l apart. (
    λ among. contains-leases_in leases l apart among,
    λ found. leases_in-contains leases l.stripe l.fragment.value l found,
  );
}
