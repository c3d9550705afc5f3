use Rattle.std.proofs.Common.{◌≡◌, ℕ, List, take, get_or, Option, None, arith, ap, ◌∙◌}
use Rattle.std.specs.Prelude.{count_by}
use Rattle.lrc_code.specs.Codes.{all_fragments}
use Rattle.lrc_topology.specs.declared.seat.Seat.{Seat}
use Rattle.lrc_book.specs.Books.{state_of}
use Rattle.lrc_forecast.specs.Hits.{has_lease_on_set}
use Rattle.lrc_forecast.proofs.hits.leases_on.Goals as goal

pub returns : goal.returns
returns c = λ of are.
    let test = has_lease_on_set c.args.nodes.now (state_of c.args.book.now) c.args.stripe in
    let end : c.loop-fragment.fragment-index ≡ 16 = omega (arith, c.loop-fragment-test.false, c.loop-fragment.auto.fragment-index-end) in
    c.loop-fragment.invariant.counted
    ∙ ap (λ (k : ℕ). count_by (test (λ f. get_or c.args.homes.now f None)) (take k all_fragments)) end
    ∙ ap (λ (homes : List (Option Seat)). count_by (test (λ f. get_or homes f None)) all_fragments) are
