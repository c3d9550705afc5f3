use Rattle.lrc_feed.proofs.Ends.{unread_is}
use Rattle.lrc_feed.proofs.end.FeedEnd.unread.Goals as goal

pub returns : goal.returns
returns c = λ before last ends.
    let e = c.self.inside in unread_is c.args.self.now e.calls.book e.calls.log e.count e.place before last c.self.view_is c.self.invariant.1 ends
