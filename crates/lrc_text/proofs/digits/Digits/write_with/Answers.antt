use Rattle.std.proofs.Common.{rules, ◌≤◌, length}
use Rattle.lrc_text.proofs.PairLemmas.{written_with}
use Rattle.lrc_text.proofs.digits.Digits.write_with.Goals as goal

pub returns-clause-written : goal.returns-clause-written
returns-clause-written c =
    let short : c.args.self.start ≤ length c.args.self.room = search rules in
    written_with c.write_words-last.new.text c.write_words.new.text c.args.text.now c.args.self.room c.write_words.result c.write_words-last.result c.args.end c.args.pair c.args.self.start _
    c.requires.pair short c.write_words-last.ensures.written c.write_words.ensures.written
