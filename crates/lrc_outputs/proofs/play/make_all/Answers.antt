use Rattle.std.proofs.Common.{◌∷◌, [], ◌++◌, List, refl, sym, subst, ◌∙◌}
use Rattle.lrc_topology.specs.declared.NodeInfo.{NodeInfo}
use Rattle.lrc_rules.specs.declared.entry.Entry.{Entry}
use Rattle.lrc_rules.specs.Histories.{World, outcome_in, world_from, IsLegalFrom}
use Rattle.lrc_book.proofs.WorldLemmas.{legal_push}
use Rattle.lrc_board.proofs.BatchLemmas.{none_made, one_more_made}
use Rattle.lrc_outputs.proofs.PlayLemmas.{all_made}
use Rattle.lrc_outputs.proofs.play.make_all.Goals as goal

pub loop-command-init : goal.loop-command-init
loop-command-init c = record {
  nodes = refl;
  limit = refl;
  base = refl;
  before = refl;
  made = none_made c.args.book.now.history c.args.session;
  legal = λ legal. legal;
}

pub loop-command-preserved : goal.loop-command-preserved
loop-command-preserved c =
    let before = c.loop-command.invariant in
    let past = c.loop-command.book.history in
    let nodes = c.loop-command.book.nodes in
    let base = c.loop-command.book.base in
    let command = c.command-item.result in
    let entry : Entry = record { session = c.args.session; command = command; reply = (outcome_in nodes (world_from nodes base past) c.args.session command).0 } in
    record {
      nodes = c.in_ok-add.ensures.same.0 ∙ before.nodes;
      limit = c.in_ok-add.ensures.same.1 ∙ before.limit;
      base = c.in_ok-add.ensures.same.2 ∙ before.base;
      before = c.in_ok-add.ensures.same.3 ∙ before.before;
      made = rw c.in_ok-add.ensures.entry (one_more_made c.args.book.now.history past c.args.session c.args.commands.now c.loop-command.command-index entry before.made c.loop-command-test.true c.command-item.is refl);
      legal = λ legal.
          let old = c.args.book.now in
          let so_far : IsLegalFrom nodes base past = subst (λ (w : World). IsLegalFrom nodes w past) (sym before.base) (subst (λ (ns : List NodeInfo). IsLegalFrom ns old.base past) (sym before.nodes) (before.legal legal)) in
          let more : IsLegalFrom nodes base (past ++ entry ∷ []) = legal_push nodes base past entry so_far refl in
          rw c.in_ok-add.ensures.entry
          (subst (λ (w : World). IsLegalFrom old.nodes w (past ++ entry ∷ [])) before.base (subst (λ (ns : List NodeInfo). IsLegalFrom ns base (past ++ entry ∷ [])) before.nodes more));
    }

pub returns-clause-made : goal.returns-clause-made
returns-clause-made c =
    all_made c.args.book.now.history c.loop-command.book.history c.args.session c.args.commands.now c.loop-command.command-index c.loop-command.invariant.made c.loop-command-test.false
