use Rattle.std.proofs.Common.{◌≡◌, ◌<◌, ◌∙◌, Option, length, refl, sym, ap, subst}
use Rattle.std.specs.Prelude.{IfSome}
use Rattle.lrc_rules.specs.declared.entry.Entry.{Entry}
use Rattle.lrc_rules.specs.Histories.{outcome_in}
use Rattle.lrc_book.specs.Books.{world_of}
use Rattle.lrc_feed.specs.declared.feed.FedCall.{FedCall}
use Rattle.lrc_feed.specs.Feeds.{FeedAt, passed}
use Rattle.lrc_embed.proofs.PublishedLemmas.{followed_push, at_push}
use Rattle.lrc_embed.proofs.exports.follow.catch_up.Goals as goal

pub loop-preserved : goal.loop-preserved
loop-preserved c =
    let mid = c.loop.book in let after = c.add.new.self in let moved = c.next-next.new.self in
    let session = c.in-Some.call.session in let command = c.in-Some.call.command in
    let entry : Entry = record { session = session; command = command; reply = (outcome_in mid.nodes (world_of mid) session command).0 } in
    let same = c.add.ensures.same in
    let read = subst (λ (o : Option FedCall). IfSome o (λ (call : FedCall). (length c.loop.end.calls < 1048576)
    × (moved ≡ record (passed c.loop.end call) { known = moved.known }))) c.in-Some.is c.next-next.ensures.some in
    let past = read.1 in
    let grown = c.in_default-add.ensures.entry in
    record {
      followed = followed_push c.args.book.now mid after c.args.end.now c.loop.end moved entry c.loop.invariant.followed refl grown same.0 same.1 same.2 same.3 past;
      there = at_push mid after c.loop.end.place entry c.loop.invariant.there grown same.3 ∙ sym (ap (λ (e : FeedAt). e.place) past);
    }
