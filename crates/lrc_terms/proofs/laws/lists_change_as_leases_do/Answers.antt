use Rattle.lrc_terms.proofs.LeaseLemmas.{leased_of-append, leased_of-less, leases_in-less_stripe, leases_in-kept, one_each-append, one_each-filter}
use Rattle.lrc_terms.proofs.laws.lists_change_as_leases_do.Goals as goal

pub returns : goal.returns
returns c = record {
  added = leased_of-append;
  taken_out = leased_of-less;
  stripe = leases_in-less_stripe;
  kept = leases_in-kept;
  one_more = one_each-append;
  fewer = one_each-filter;
}
