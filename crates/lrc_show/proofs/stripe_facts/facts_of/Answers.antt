use Rattle.std.proofs.Common.{rules, ◌≡◌, Some, refl, ◌∙◌}
use Rattle.lrc_rules.specs.States.{code_shown, homes_shown, level_shown, missing_shown}
use Rattle.lrc_book.specs.Books.{state_of}
use Rattle.lrc_book.proofs.StripeLemmas.{level-told, mask-told}
use Rattle.lrc_show.proofs.StripeLemmas.{facts-told}
use Rattle.lrc_show.proofs.stripe_facts.facts_of.Goals as goal

pub unwrap-requires : goal.unwrap-requires
unwrap-requires c = rw (c.level.ensures ∙ level-told c.args.book.now.nodes (state_of c.args.book.now) c.args.stripe c.requires) refl

pub unwrap-requires-2 : goal.unwrap-requires-2
unwrap-requires-2 c = rw (c.missing.ensures ∙ mask-told c.args.book.now.nodes (state_of c.args.book.now) c.args.stripe c.requires) refl

pub returns : goal.returns
returns c =
    let nodes = c.args.book.now.nodes in
    let st = state_of c.args.book.now in
    let s = c.args.stripe in
    let levelled : Some c.unwrap.result ≡ level_shown nodes st s = search rules in
    let coded : Some c.unwrap-code.result ≡ code_shown st s = search rules in
    let masked : Some c.unwrap-2.result ≡ missing_shown nodes st s = search rules in
    let homed : Some c.unwrap-homes.result ≡ homes_shown st s = search rules in
    facts-told nodes st s c.requires c.unwrap.result c.unwrap-code.result c.unwrap-2.result c.unwrap-homes.result c.homeless_of.result.bits c.size_in.result c.size_in-2.result
    levelled coded masked homed c.size_in.ensures c.homeless_of.ensures c.size_in-2.ensures
