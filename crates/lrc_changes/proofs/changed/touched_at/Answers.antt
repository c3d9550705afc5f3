use Rattle.std.proofs.Common.{◌≡◌, ◌/◌, ◌%◌, Some, true, false, ap, ◌∙◌, rules}
use Rattle.lrc_book.specs.Books.{state_of}
use Rattle.lrc_walks.proofs.PlaceLemmas.{place-is}
use Rattle.lrc_changes.specs.declared.touch.Former.{Former}
use Rattle.lrc_changes.specs.Changes.{former}
use Rattle.lrc_changes.specs.Touched.{touches}
use Rattle.lrc_changes.proofs.HomeLemmas.{touched-some, touched-none}
use Rattle.lrc_changes.proofs.changed.touched_at.Goals as goal

pub returns-then-not-touches : goal.returns-then-not-touches
returns-then-not-touches c = λ low.
    let s = c.in_ok-stripe.stripe in
    let f = c.in_ok-fragment.fragment in
    let stripe : s.value ≡ c.args.place / 16 = search rules in
    let fragment : f.value ≡ c.args.place % 16 = search rules in
    let st = state_of c.args.book.now in
    let e = c.args.entry.now in
    let miss : touches e.command e.reply (former st (s, f)) ≡ false = search rules in
    touched-none st e.command e.reply c.args.place (s, f) (place-is c.args.place s f low stripe fragment) miss

pub returns : goal.returns
returns c = λ low.
    let s = c.in_ok-stripe.stripe in
    let f = c.in_ok-fragment.fragment in
    let stripe : s.value ≡ c.args.place / 16 = search rules in
    let fragment : f.value ≡ c.args.place % 16 = search rules in
    let st = state_of c.args.book.now in
    let e = c.args.entry.now in
    let hit : touches e.command e.reply (former st (s, f)) ≡ true = search rules in
    ap (λ (x : Former). Some x) c.former-former.ensures
    ∙ touched-some st e.command e.reply c.args.place (s, f) (place-is c.args.place s f low stripe fragment) hit
