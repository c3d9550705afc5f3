use Rattle.std.proofs.Common.{arith, ap, subst, List}
use mathlib.Core.List.{IsPrefix}
use Rattle.lrc_feed.specs.declared.feed.FedCall.{FedCall}
use Rattle.lrc_feed.specs.Feeds.{FeedAt}
use Rattle.lrc_feed.proofs.Prefixes.{takes_begin}
use Rattle.lrc_feed.proofs.Ends.{count_is}
use Rattle.lrc_feed.proofs.end.begins.Goals as goal

pub returns : goal.returns
returns c = λ le.
    let x = c.one.inside in let y = c.other.inside in
    let both = c.learn.new.self.log in
    let this : IsPrefix x.calls.log both = subst (λ (l : List FedCall). IsPrefix l both) (ap (λ s. s.log) c.again-both.ensures) c.learn.ensures.2 in
    let xs = count_is c.args.one.now x.calls.book x.calls.log x.count x.place c.one.view_is c.one.invariant.1 in
    let ys = count_is c.args.other.now y.calls.book y.calls.log y.count y.place c.other.view_is c.other.invariant.1 in
    rw (← ap (λ (e : FeedAt). e.calls) c.one.view_is, ← ap (λ (e : FeedAt). e.calls) c.other.view_is)
    (takes_begin x.calls.log y.calls.log both x.count y.count this c.learn.ensures.3 c.one.invariant.1 c.other.invariant.1 (omega (arith, le, xs, ys)))
