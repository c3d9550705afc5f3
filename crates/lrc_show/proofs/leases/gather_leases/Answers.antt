use Rattle.std.proofs.Common.{arith}
use Rattle.lrc_book.specs.Books.{state_of}
use Rattle.lrc_show.proofs.LeaseLemmas.{leases-all}
use Rattle.lrc_show.proofs.leases.gather_leases.Goals as goal

pub returns-clause-value : goal.returns-clause-value
returns-clause-value c =
    leases-all (state_of c.args.book.now) c.args.stripe c.loop-fragment.fragment-index c.loop-fragment.rows.items c.args.rows.now.items c.loop-fragment.invariant
    (omega (arith, c.loop-fragment-test.false, c.loop-fragment.auto.fragment-index-end))
