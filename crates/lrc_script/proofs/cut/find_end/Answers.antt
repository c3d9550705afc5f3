use Rattle.std.proofs.Common.{◌≡◌, ◌≤◌, ◌-◌, length, take, drop, arith, rules, length-drop}
use Rattle.std.proofs.lemmas.List.{take_all}
use Rattle.memchr.specs.Find.{is_byte, Passes, Nowhere, NoneBefore}
use Rattle.lrc_script.proofs.CutLemmas.{nowhere_behind, passes_behind}
use Rattle.lrc_script.proofs.cut.find_end.Goals as goal
use Rattle.lrc_script.proofs.cut.find_end.Goals.{After-min-short}

-- as many bytes as the line has, or fewer
within : (c : After-min-short) → c.min-short.result ≤ length c.args.text.now
within c = search rules

-- what is searched then is all the rest
rest : (c : After-min-short) → take (length c.args.text.now - c.min-short.result) (drop c.min-short.result c.args.text.now) ≡ drop c.min-short.result c.args.text.now
rest c =
    let text = c.args.text.now in
    let short = c.min-short.result in
    take_all (length text - short) (drop short text) (omega (arith, length-drop short text))

pub returns-in-Some-memchr : goal.returns-in-Some-memchr
returns-in-Some-memchr c =
    let text = c.args.text.now in
    let short = c.min-short.result in
    let after = (goal.at.returns-in-Some-memchr c).After-min-short in
    let here = within after in
    let near : Nowhere (Passes (is_byte 10) (take short text)) 0 (length (take short text)) = search rules in
    let found : NoneBefore (Passes (is_byte 10) (drop short text)) 0 (length (drop short text)) c.in-Some-memchr.end × Passes (is_byte 10) (drop short text) c.in-Some-memchr.end =
    rw (rest after) at c.in-Some-memchr.ensures in (
      record {
        low = omega arith;
        high = omega (arith, found.0.high, here, length-drop short text);
        before = nowhere_behind (is_byte 10) text short c.in-Some-memchr.end here near found.0.before;
      },
      passes_behind (is_byte 10) text short c.in-Some-memchr.end found.1,
    )

pub returns-in-None-memchr : goal.returns-in-None-memchr
returns-in-None-memchr c =
    let text = c.args.text.now in
    let short = c.min-short.result in
    let after = (goal.at.returns-in-None-memchr c).After-min-short in
    let here = within after in
    let near : Nowhere (Passes (is_byte 10) (take short text)) 0 (length (take short text)) = search rules in
    let far : Nowhere (Passes (is_byte 10) (drop short text)) 0 (length (drop short text)) = rw (rest after) at c.in-None-memchr.ensures in
    λ k low high. nowhere_behind (is_byte 10) text short (length (drop short text)) here near far k low (omega (arith, high, here, length-drop short text))
