use Rattle.std.proofs.Common.{◌+◌, ◌-◌, length, drop, sym, ◌∙◌, arith, length-drop}
use Rattle.std.proofs.lemmas.List.{take_all}
use Rattle.memchr.specs.Find.{is_byte, IsLastByte}
use Rattle.std.specs.Prelude.{Some, None}
use Rattle.lrc_outputs.proofs.EndLemmas.{last_line-behind, last_line-whole}
use Rattle.lrc_outputs.proofs.checking.last_line.Goals as goal

pub returns-in-Some : goal.returns-in-Some
returns-in-Some c =
    let text = c.args.text.now in
    let size = c.in-Some.end + 1 in
    let found : IsLastByte (is_byte 10) text (Some c.in-Some.end) = c.in-Some.ensures in
    take_all (length text - size) (drop size text) (omega (arith, length-drop size text)) ∙ sym (last_line-behind text c.in-Some.end found)

pub returns-in-None : goal.returns-in-None
returns-in-None c =
    let none : IsLastByte (is_byte 10) c.args.text.now None = c.in-None.ensures in
    sym (last_line-whole c.args.text.now none)
