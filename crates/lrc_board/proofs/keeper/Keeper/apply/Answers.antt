use Rattle.std.proofs.Common.{ap, ◌∙◌}
use Rattle.lrc_rules.specs.declared.entry.Entry.{Entry}
use Rattle.lrc_book.specs.Books.{BookView}
use Rattle.lrc_board.proofs.BatchLemmas.{made_once}
use Rattle.lrc_board.proofs.keeper.Keeper.apply.Goals as goal
use Rattle.lrc_board.proofs.keeper.Keeper.apply.Goals.{in_default-None, in_default-Some}

pub returns-clause-reply : goal.returns-clause-reply
returns-clause-reply g c = elim c.match-apply_all.branch [
  | in_default-None w ↦
      let all = c.apply_all.ensures in
      let one = all.all w.in_default-None.is-1 in
      let once = made_once c.args.self.now c.apply_all.new.self c.args.session c.args.command c.apply_all.result.0.count all.entries one all.legal all.same.0 all.same.2 in
      rw w.result-is (w.reply.ensures ∙ ap (λ (e : Entry). e.reply) (w.last_entry.ensures.last c.args.self.now.history once.0 (ap (λ (b : BookView). b.history) c.self.view_is ∙ once.1.behind)) ∙ once.1.reply)
  | in_default-Some w ↦ rw w.result-is tt
]
