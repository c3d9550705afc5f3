use Rattle.std.proofs.Common.{arith, ◌≡◌, ◌+◌, ◌-◌, ◌*◌, ◌∷◌, ◌++◌, drop, sym, ap, ◌∙◌}
use Rattle.std.proofs.lemmas.List.{drop_more}
use Rattle.lrc_text.specs.Texts.{lines_from}
use Rattle.lrc_text.proofs.PairLemmas.{told_with}
use Rattle.lrc_text.proofs.texts.write_hundred.Goals as goal

pub loop-left-preserved : goal.loop-left-preserved
loop-left-preserved c =
    let before = c.loop-left.invariant in
    let records = c.args.records.now in
    let left = c.loop-left.left - 1 in
    let back : left + 1 ≡ c.loop-left.left = omega (arith, c.loop-left-test.true) in
    let place = c.args.hundreds * 100 + (c.args.rest + left) in
    let next : c.args.hundreds * 100 + (c.args.rest + c.loop-left.left) ≡ place + 1 = omega (arith, back) in
    let behind = drop c.args.end c.args.text.now in
    let entry = c.index-records-left.result in
    let split : drop left records ≡ entry ∷ drop (left + 1) records =
    drop_more records left entry (omega (arith, before.left, back)) ∙ ap (λ e. e ∷ drop (left + 1) records) (sym c.index-records-left.is) in
    let later = before.written ∙ ap (λ k. lines_from k (drop c.loop-left.left records) ++ behind) next ∙ ap (λ k. lines_from (place + 1) (drop k records) ++ behind) (sym back) in
    let told = c.write_reply-start in
    let written = rw c.reply_ref.ensures at told.ensures.written in
    let line = c.write_with-at in
    let digits = c.of-digits.ensures in
    let least = c.requires in
    record {
      left = omega (arith, before.left);
      room = omega (arith, before.room, told.ensures.start, line.ensures.start, digits.start, back);
      used = omega (arith, before.used, told.ensures.start, line.ensures.start, digits.start, back);
      within = omega (arith, before.within, told.ensures.start, line.ensures.start, digits.start);
      written =
          told_with c.args.hundreds (c.args.rest + left) line.result told.result c.loop-left.at line.new.text told.new.text c.loop-left.text
          (drop c.of-digits.result.start c.of-digits.result.room) behind entry (drop (left + 1) records) digits.text least.hundreds.0
          (omega (arith, least.hundreds.1, least.rest, before.left, back)) (omega (arith, least.rest, before.left, back)) line.ensures.written written later
          ∙ ap (λ rs. lines_from place rs ++ behind) (sym split);
    }
