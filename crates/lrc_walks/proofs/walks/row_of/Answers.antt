use Rattle.std.proofs.Common.{◌≡◌, Some, None, ap, ◌∙◌, rules}
use Rattle.lrc_rules.specs.States.{code_shown, level_shown, missing_shown}
use Rattle.lrc_book.specs.Books.{state_of}
use Rattle.lrc_records.specs.declared.stripe.LrcStripe.{LrcStripe}
use Rattle.lrc_walks.proofs.RowLemmas.{row-unmissing, row-unlevelled, row-told}
use Rattle.lrc_walks.proofs.walks.row_of.Goals as goal

pub returns-in_err-missing : goal.returns-in_err-missing
returns-in_err-missing c =
    let none : None ≡ missing_shown c.args.book.now.nodes (state_of c.args.book.now) c.args.stripe = search rules in
    let left : c.from_residual-in_err-missing.result ≡ None = search rules in
    left ∙ row-unmissing c.args.book.now.nodes (state_of c.args.book.now) c.args.stripe none

pub returns-in_err-level : goal.returns-in_err-level
returns-in_err-level c =
    let none : None ≡ level_shown c.args.book.now.nodes (state_of c.args.book.now) c.args.stripe = search rules in
    let left : c.from_residual-in_err-level.result ≡ None = search rules in
    left ∙ row-unlevelled c.args.book.now.nodes (state_of c.args.book.now) c.args.stripe none

pub returns : goal.returns
returns c =
    let nodes = c.args.book.now.nodes in
    let st = state_of c.args.book.now in
    let coded : Some c.in_ok-code.field-0 ≡ code_shown st c.args.stripe = search rules in
    let masked : Some c.in_ok-missing.field-0 ≡ missing_shown nodes st c.args.stripe = search rules in
    let levelled : Some c.in_ok-level.field-0 ≡ level_shown nodes st c.args.stripe = search rules in
    ap (λ (r : LrcStripe). Some r) c.of.ensures ∙ row-told nodes st c.args.stripe c.in_ok-code.field-0 c.in_ok-missing.field-0 c.in_ok-level.field-0 coded masked levelled
