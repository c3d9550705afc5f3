use Rattle.std.proofs.Common.{◌≡◌, None, ◌∙◌, rules}
use Rattle.lrc_rules.specs.States.{homes_shown}
use Rattle.lrc_book.specs.Books.{state_of}
use Rattle.lrc_changes.proofs.HomeLemmas.{shown-none}
use Rattle.lrc_changes.proofs.changed.home_of.Goals as goal

pub returns-in_err-packed_homes : goal.returns-in_err-packed_homes
returns-in_err-packed_homes c =
    let none : None ≡ homes_shown (state_of c.args.book.now) c.args.stripe = search rules in
    let left : c.from_residual.result ≡ None = search rules in
    left ∙ shown-none (state_of c.args.book.now) c.args.stripe c.args.fragment c.args.book.now.nodes c.requires.seated none
