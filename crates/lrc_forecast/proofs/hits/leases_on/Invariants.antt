use Rattle.std.proofs.Common.{◌≡◌, ◌≤◌, take, get_or, None}
use Rattle.std.specs.Prelude.{count_by}
use Rattle.lrc_code.specs.Codes.{fragments, all_fragments}
use Rattle.lrc_book.specs.Books.{state_of}
use Rattle.lrc_forecast.specs.Hits.{has_lease_on_set}
use Rattle.lrc_forecast.proofs.hits.leases_on.Given as goal

-- the leases of the fragments so far
abbrev pub invariant-loop-fragment : goal.invariant-loop-fragment
invariant-loop-fragment l = record {
  counted : l.count ≡ count_by (has_lease_on_set l.nodes (state_of l.book) l.stripe (λ f. get_or l.homes f None)) (take l.fragment-index all_fragments);
  few : l.count ≤ l.fragment-index;
}
