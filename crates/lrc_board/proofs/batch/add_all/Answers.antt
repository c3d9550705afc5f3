use Rattle.std.proofs.Common.{◌≡◌, ◌≤◌, ◌+◌, length, refl, sym, ap, subst, ◌∙◌, arith}
use Rattle.lrc_rules.specs.declared.entry.Entry.{Entry}
use Rattle.lrc_rules.specs.Histories.{outcome_in}
use Rattle.lrc_book.specs.Books.{world_of, state_of}
use Rattle.lrc_board.specs.Refreshed.{ChangesView, both_changes, changes_by, OthersStay}
use Rattle.lrc_board.proofs.BatchLemmas.{one_more_made, one_more_stays, one_more_few}
use Rattle.lrc_board.proofs.batch.add_all.Goals as goal

pub loop-command-preserved : goal.loop-command-preserved
loop-command-preserved c =
    let so_far = c.loop-command.invariant in
    let first = c.args.book.now in
    let book = c.loop-command.book in
    let next = c.add.new.self in
    let n = c.loop-command.command-index in
    let then = c.in_default.ensures in
    let command = c.command-item.result in
    let entry : Entry = record { session = c.args.session; command = command; reply = (outcome_in book.nodes (world_of book) c.args.session command).0 } in
    let few = one_more_few c.loop-command.changes command entry.reply n so_far.stripes so_far.online in
    let noted : c.add-in-loop-command.new.self ≡ both_changes c.loop-command.changes (changes_by command entry.reply) =
    c.add-in-loop-command.ensures
    ∙ ap (λ (e : Entry). both_changes c.loop-command.changes (changes_by e.command e.reply)) (c.last_entry.ensures.last book.history entry then.entry) in
    record {
      counted = ap (λ k. k + 1) so_far.counted;
      nodes = then.same.0 ∙ so_far.nodes;
      limit = then.same.1 ∙ so_far.limit;
      base = then.same.2 ∙ so_far.base;
      before = then.same.3 ∙ so_far.before;
      made = rw then.entry (one_more_made first.history book.history c.args.session c.args.commands.now n entry so_far.made c.loop-command-test.true c.command-item.is refl);
      stay = subst (λ (x : ChangesView). OthersStay first.nodes x (state_of first) (state_of next)) (sym noted)
          (one_more_stays first book next c.loop-command.changes entry so_far.stay so_far.nodes then.same.0 then.same.2 then.entry refl);
      stripes = subst (λ (x : ChangesView). length x.stripes ≤ n + 1) (sym noted) few.0;
      online = subst (λ (x : ChangesView). length x.nodes ≤ n + 1) (sym noted) few.1;
      first = λ none. absurd (omega (arith, none));
    }
