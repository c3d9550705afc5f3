use Rattle.std.proofs.Common.{◌≡◌, List, sym, subst}
use Rattle.lrc_rules.specs.declared.entry.Entry.{Entry}
use Rattle.lrc_rules.specs.Histories.{IsLegalFrom}
use Rattle.lrc_board.specs.Batches.{AreMadeBehind}
use Rattle.lrc_outputs.proofs.PlayLemmas.{alone_made, alone_only}
use Rattle.lrc_outputs.proofs.play.make_alone.Goals as goal

pub returns-clause-legal : goal.returns-clause-legal
returns-clause-legal c =
    let old = c.args.book.now in
    c.in_ok-make_all.ensures.legal (subst (λ (h : List Entry). IsLegalFrom old.nodes old.base h) (sym c.requires.fresh.0) tt)

pub returns-clause-made : goal.returns-clause-made
returns-clause-made c =
    let after = c.make_all.new.book.history in
    let first : c.unwrap-only.result.value ≡ 1 = rw c.unwrap-only.ensures at c.new.ensures.value in
    alone_made c.unwrap-only.result c.args.commands.now after first (subst (λ (h : List Entry). AreMadeBehind h c.unwrap-only.result c.args.commands.now after) c.requires.fresh.0 c.in_ok-make_all.ensures.made)

pub returns-clause-only : goal.returns-clause-only
returns-clause-only c =
    let after = c.make_all.new.book.history in
    let first : c.unwrap-only.result.value ≡ 1 = rw c.unwrap-only.ensures at c.new.ensures.value in
    alone_only c.unwrap-only.result c.args.commands.now after first (subst (λ (h : List Entry). AreMadeBehind h c.unwrap-only.result c.args.commands.now after) c.requires.fresh.0 c.in_ok-make_all.ensures.made)
