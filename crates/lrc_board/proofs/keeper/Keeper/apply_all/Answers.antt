use Rattle.std.proofs.Common.{rules, take}
use Rattle.lrc_board.proofs.BatchLemmas.{taken_before}
use Rattle.lrc_board.proofs.keeper.Keeper.apply_all.Goals as goal

pub log_entries-requires-clause-lacks : goal.log_entries-requires-clause-lacks
log_entries-requires-clause-lacks g c =
    let made = c.add_all-count in
    let first = taken_before c.self.inside.book.history made.new.book.history c.args.session (take made.result.0 c.args.commands.now) made.ensures.entries in
    search (rules, first)
