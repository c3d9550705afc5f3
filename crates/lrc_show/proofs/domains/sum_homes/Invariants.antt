use Rattle.std.proofs.Common.{◌≡◌, ◌*◌, ◌≤◌, take, length}
use Rattle.std.specs.Prelude.{sum_by}
use Rattle.lrc_book.specs.Books.{state_of}
use Rattle.lrc_book.specs.Looks.{homes_on}
use Rattle.lrc_show.proofs.domains.sum_homes.Given as goal

abbrev pub invariant-loop-member : goal.invariant-loop-member
invariant-loop-member l = record {
  so_far : l.total ≡ sum_by (λ n. length (homes_on (state_of l.book) n.node.number)) (take l.member-index l.members);
  few : l.total ≤ l.member-index * 18446744073709551616;
}
