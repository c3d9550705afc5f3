use Rattle.std.proofs.Common.{rules, ◌≡◌, ◌+◌, ◌-◌, ◌++◌, ◌≤◌, ℕ, List, length, take, drop, sym, ap, ◌∙◌, arith, subst}
use Rattle.std.proofs.lemmas.List.{take_all}
use Rattle.lrc_topology.specs.declared.NodeInfo.{NodeInfo}
use Rattle.lrc_rules.specs.Histories.{World, IsLegalFrom}
use Rattle.lrc_text.specs.Texts.{lines_from, script_text_behind}
use Rattle.lrc_board.specs.Batches.{AreMadeBehind}
use Rattle.lrc_outputs.proofs.SessionLemmas.{one_made, told_more}
use Rattle.lrc_outputs.proofs.PlayLemmas.{made_more, alone_more, long, begun, tail_told}
use Rattle.lrc_outputs.proofs.play.play_alone.Goals as goal

pub loop-made-preserved : goal.loop-made-preserved
loop-made-preserved c =
    let commands = c.args.commands.now in
    let past = c.loop-made.book.history in
    let after = c.make_all.new.book.history in
    let session = c.unwrap-session.result in
    let made = c.loop-made.made in
    let few = c.min-few.result in
    let before = c.loop-made.invariant in
    let entries = c.args.book.now.before in
    let nodes = c.args.book.now.nodes in
    let first : session.value ≡ 1 = rw c.unwrap-session.ensures at c.new.ensures.value in
    let most : few ≤ length commands - made = search (rules, c.min-few.ensures) in
    let same : made + few - made ≡ few = omega arith in
    let part : AreMadeBehind past session (take few (drop made commands)) after = subst (λ (n : ℕ). AreMadeBehind past session (take n (drop made commands)) after) same c.in_ok-make_all.ensures.made in
    let based = c.in_ok-make_all.ensures.same.2 ∙ before.base in
    let kept = c.in_ok-make_all.ensures.same.0 ∙ before.nodes in
    let alone = alone_more commands made few session past after first before.made before.within part before.alone in
    let told = before.printed ∙ ap (λ h. script_text_behind entries h 1) (sym (begun commands made few session past after first before.made before.within part)) in
    let next = tail_told c.history.result.now after made _ c.loop-made.text.items c.push_lines.new.out.items c.history.ensures.value c.in_ok-push_lines.ensures.lines in
    let place : _ ≡ entries + 1 + made = ap (λ n. n + 1 + made) c.before-2.ensures in
    let legal = subst (λ (w : World). IsLegalFrom c.make_all.new.book.nodes w after) based c.history.ensures.legal in
    record {
      nodes = kept;
      limit = c.in_ok-make_all.ensures.same.1 ∙ before.limit;
      base = based;
      within = omega (arith, most, before.within);
      legal = subst (λ (ns : List NodeInfo). IsLegalFrom ns c.args.book.now.base after) kept legal;
      made = made_more commands made few session past after first before.made before.within part;
      alone = alone;
      room = c.in_ok-push_lines.ensures.same ∙ before.room;
      printed = told_more entries after made c.loop-made.text.items c.push_lines.new.out.items alone (long commands made few session past after first before.made before.within part) told
          (next ∙ ap (λ n. c.loop-made.text.items ++ lines_from n (drop made after)) place);
    }

pub returns-clause-made : goal.returns-clause-made
returns-clause-made c =
    let before = c.loop-made.invariant in
    let book = c.args.book.now in
    let all = take_all c.loop-made.made c.args.commands.now c.loop-made-test.false in
    one_made book.nodes book.base book.before c.args.commands.now c.loop-made.book.history c.loop-made.text.items
    (record { legal = before.legal; made = before.made ∙ all; alone = before.alone }) before.printed
