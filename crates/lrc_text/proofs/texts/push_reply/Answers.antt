use Rattle.std.proofs.Common.{◌≡◌, ◌+◌, ◌≤◌, length, rules, refl, arith}
use Rattle.std.proofs.lemmas.Grind.{common_steps}
use Rattle.lrc_answers.specs.Answers.{lent}
use Rattle.lrc_text.specs.Texts.{reply_text}
use Rattle.lrc_text.proofs.CutLemmas.{ends_behind, cut}
use Rattle.lrc_text.proofs.texts.push_reply.Goals as goal

pub slice_bounds-text-count : goal.slice_bounds-text-count
slice_bounds-text-count c =
    let written = c.write_reply-start in
    omega (arith, ends_behind written.new.text (reply_text (lent c.args.reply.now)) _ written.result written.ensures.written)

pub slice_bounds-text-start : goal.slice_bounds-text-start
slice_bounds-text-start c =
    let written = c.write_reply-start in
    let room : written.result + 2 ≤ 200 = omega (arith, ends_behind written.new.text (reply_text (lent c.args.reply.now)) _ written.result written.ensures.written) in
    search rules

pub returns : goal.returns
returns c =
    let written = c.write_reply-start in
    let text = cut written.new.text (reply_text (lent c.args.reply.now)) _ written.result written.ensures.written 199 (omega arith) refl in
    grind (arith, common_steps)
