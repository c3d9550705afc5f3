use Rattle.std.proofs.Common.{arith}
use Rattle.lrc_feed.proofs.Ends.{read_some, count_is}
use Rattle.lrc_feed.proofs.end.FeedEnd.read.Goals as goal

pub returns-clause-some : goal.returns-clause-some
returns-clause-some c =
    let e = c.self.inside in let i = c.self.invariant in
    let long = count_is c.args.self.now e.calls.book e.calls.log e.count e.place c.self.view_is i.1 in (
      omega (arith, long, c.if-self-ge-FEED_LIMIT.false),
      read_some c.args.self.now e.calls.book c.read.new.calls.book e.calls.log c.read.new.calls.log e.count e.place c.in_ok-call.call c.self.view_is
          c.in_ok-call.ensures.feed c.in_ok-call.ensures.later i.1 c.in_ok-call.ensures.call,
    )
