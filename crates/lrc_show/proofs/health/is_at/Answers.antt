use Rattle.std.proofs.Common.{rules, ◌≡◌, Some, refl, ap, ◌∙◌}
use Rattle.std.proofs.lemmas.Option.{same_Some}
use Rattle.lrc_rules.specs.States.{level_shown}
use Rattle.lrc_book.specs.Books.{state_of}
use Rattle.lrc_book.proofs.StripeLemmas.{level-told}
use Rattle.lrc_show.specs.Summed.{is_level}
use Rattle.lrc_show.proofs.health.is_at.Goals as goal

pub unwrap-requires : goal.unwrap-requires
unwrap-requires c = rw (c.level.ensures ∙ level-told c.args.book.now.nodes (state_of c.args.book.now) c.args.stripe c.requires) refl

pub returns : goal.returns
returns c =
    let nodes = c.args.book.now.nodes in
    let st = state_of c.args.book.now in
    let levelled : Some c.unwrap.result ≡ level_shown nodes st c.args.stripe = search rules in
    c.is_same.ensures ∙ ap (is_level c.args.wanted) (same_Some _ _ (levelled ∙ level-told nodes st c.args.stripe c.requires))
