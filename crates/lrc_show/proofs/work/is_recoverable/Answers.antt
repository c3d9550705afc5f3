use Rattle.std.proofs.Common.{rules, ◌≡◌, Some, refl, ◌∙◌}
use Rattle.lrc_rules.specs.States.{code_shown, missing_shown}
use Rattle.lrc_book.specs.Books.{state_of}
use Rattle.lrc_book.proofs.StripeLemmas.{mask-told}
use Rattle.lrc_show.proofs.RowLemmas.{safe-told}
use Rattle.lrc_show.proofs.work.is_recoverable.Goals as goal

pub unwrap-missing-requires : goal.unwrap-missing-requires
unwrap-missing-requires c = rw (c.missing.ensures ∙ mask-told c.args.book.now.nodes (state_of c.args.book.now) c.args.stripe c.requires) refl

pub returns : goal.returns
returns c =
    let nodes = c.args.book.now.nodes in
    let st = state_of c.args.book.now in
    let coded : Some c.unwrap-code.result ≡ code_shown st c.args.stripe = search rules in
    let masked : Some c.unwrap-missing.result ≡ missing_shown nodes st c.args.stripe = search rules in
    c.recoverable_in.ensures.value ∙ safe-told nodes st c.args.stripe c.unwrap-code.result c.unwrap-missing.result c.requires coded masked
