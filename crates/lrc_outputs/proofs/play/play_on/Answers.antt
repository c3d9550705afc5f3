use Rattle.std.proofs.Common.{◌≡◌, ◌++◌, subst}
use Rattle.lrc_rules.specs.Histories.{World, state_from}
use Rattle.lrc_text.specs.Tables.{tables_text}
use Rattle.lrc_outputs.specs.Judged.{lists_of}
use Rattle.lrc_outputs.proofs.SessionLemmas.{played_with_tables}
use Rattle.lrc_outputs.proofs.play.play_on.Goals as goal

pub returns-clause-played : goal.returns-clause-played
returns-clause-played c =
    let old = c.args.book.now in
    let book = c.play_scripts.new.book in
    let lists = lists_of c.args.scripts.now in
    let text = c.in_ok-replies.replies.items in
    let whole = c.in_ok-whole.whole.items in
    let same = c.in_ok-replies.ensures.same in
    let printed = subst (λ (w : World). whole ≡ text ++ tables_text book.nodes (state_from book.nodes w book.history)) same.1 c.in_ok-whole.ensures.text in
    played_with_tables old.nodes book.nodes old.base old.before lists book.history text whole c.in_ok-replies.ensures.made same.0 printed
