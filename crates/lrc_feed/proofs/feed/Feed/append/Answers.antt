use Rattle.std.proofs.Common.{◌∙◌, ap}
use Rattle.lrc_feed.proofs.Adding.{adds_moves}
use Rattle.lrc_feed.proofs.feed.Feed.append.Goals as goal

pub compare_exchange-found-requires : goal.compare_exchange-found-requires
compare_exchange-found-requires c =
    let h = c.args.self.now.head_is in
    let offer = c.plain-offer.ensures in
    let pen = c.no_pen-pen.ensures in (
      ap (λ w. w.tracked) h,
      c.requires.feed,
      pen.0 ∙ c.requires.feed,
      offer.0,
      rw (ap (λ w. w.key) h, pen.1, offer.1, offer.3) (adds_moves c.args.calls.now.log c.args.call c.args.count c.requires.known),
    )
