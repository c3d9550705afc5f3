use Rattle.std.proofs.Common.{rules, ◌≡◌, Some, refl, sym, ◌∙◌, string_bytes}
use Rattle.lrc_rules.specs.States.{homes_shown, level_shown, missing_shown}
use Rattle.lrc_book.specs.Books.{state_of}
use Rattle.lrc_book.proofs.StripeLemmas.{level-told, mask-told}
use Rattle.lrc_show.proofs.RowLemmas.{code-some, stripe-told}
use Rattle.lrc_show.proofs.stripes.push_stripe.Goals as goal

pub unwrap-level-requires : goal.unwrap-level-requires
unwrap-level-requires c =
    let nodes = c.args.book.now.nodes in
    let st = state_of c.args.book.now in
    rw (c.level.ensures ∙ level-told nodes st c.args.stripe (code-some nodes st c.args.stripe c.in-Some.code (sym c.code.ensures ∙ c.in-Some.is))) refl

pub unwrap-missing-requires : goal.unwrap-missing-requires
unwrap-missing-requires c =
    let nodes = c.args.book.now.nodes in
    let st = state_of c.args.book.now in
    rw (c.missing.ensures ∙ mask-told nodes st c.args.stripe (code-some nodes st c.args.stripe c.in-Some.code (sym c.code.ensures ∙ c.in-Some.is))) refl

pub returns : goal.returns
returns c =
    let nodes = c.args.book.now.nodes in
    let st = state_of c.args.book.now in
    let s = c.args.stripe in
    let levelled : Some c.unwrap-level.result ≡ level_shown nodes st s = search rules in
    let masked : Some c.unwrap-missing.result ≡ missing_shown nodes st s = search rules in
    let homed : Some c.unwrap-homes.result ≡ homes_shown st s = search rules in
    stripe-told nodes st s c.in-Some.code c.unwrap-level.result c.unwrap-missing.result c.unwrap-homes.result (string_bytes c.args.out.now) _
    (sym c.code.ensures ∙ c.in-Some.is) levelled masked homed c.in_ok-push_row.ensures
