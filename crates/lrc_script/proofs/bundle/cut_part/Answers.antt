use Rattle.std.proofs.Common.{rules, ◌≡◌, ◌≢◌, ℕ, ◌+◌, ◌-◌, ◌≤◌, ◌⊎◌, inl, inr, true, codes, List, length, get_or, take, drop, count_by, ap, ◌∙◌, arith, length-drop}
use Rattle.std.proofs.lemmas.List.{take_all}
use Rattle.memchr.specs.Find.{is_byte, Passes, Nowhere, NoneBefore}
use Rattle.memchr.proofs.lemmas.CallerLemmas.{length-places}
use Rattle.lrc_script.specs.Cuts.{IsCut}
use Rattle.lrc_script.specs.Bundles.{is_parting}
use Rattle.lrc_script.proofs.PartLemmas.{PartsAt, nowhere_before, nowhere_past, not_inside, not_other, is_start, left_behind, IsCutAtParting-at, IsPart-whole}
use Rattle.lrc_script.proofs.bundle.cut_part.Goals as goal
use Rattle.lrc_script.proofs.bundle.cut_part.Goals.{then-at-eq0-via-then-at-eq0, then-at-eq0-via-else-at-eq0+then-text-at-eq10, then-at-eq0+else-eq, else-at-eq0+else-text-at-eq10}

-- a slice up to the end is all the rest
rest : (text : List ℕ) (n : ℕ) → take (length text - n) (drop n text) ≡ drop n text
rest text n = take_all (length text - n) (drop n text) (omega (arith, length-drop n text))

pub returns-then-eq : goal.returns-then-eq
returns-then-eq c =
    let text = c.args.text.now in
    let from = c.loop-found.from in
    let n = from + c.in-Some.found in
    let found : NoneBefore (Passes (is_byte 37) (drop from text)) 0 (length (drop from text)) c.in-Some.found × Passes (is_byte 37) (drop from text) c.in-Some.found = rw (rest text from) at c.in-Some.ensures in
    let within : n ≤ length text = omega (arith, found.0.high, length-drop from text) in
    let nowhere = nowhere_before text from c.in-Some.found c.loop-found.invariant.nowhere found.0.before in
    let begins : (n ≡ 0) ⊎ (get_or text (n - 1) 0 ≡ 10) = elim c.then-at-eq0.branch [
      | then-at-eq0-via-then-at-eq0 w ↦ inl w.if-at-eq0.true
      | then-at-eq0-via-else-at-eq0+then-text-at-eq10 w ↦ inr w.if-text-at-eq10.true
    ]
    in
    let cut : IsCut 10 (drop n text) c.cut_line.result.0.now c.cut_line.result.1 = rw (rest text n) at c.cut_line.ensures in
    let parts : is_parting c.cut_line.result.0.now ≡ true = search rules in
    let left : c.unwrap_or.result.now ≡ left_behind c.cut_line.result.1 = search rules in
    let count : c.count-lines.result ≡ count_by (is_byte 10) (take n text) = c.count-lines.ensures ∙ ap length c.memchr_iter.ensures.value ∙ length-places (is_byte 10) (take n text) in
    rw count (IsCutAtParting-at text n within nowhere (is_start text n within begins) c.cut_line.result.0.now c.unwrap_or.result.now c.cut_line.result.1 cut parts left)

pub loop-found-preserved : goal.loop-found-preserved
loop-found-preserved c =
    let text = c.args.text.now in
    let from = c.loop-found.from in
    let n = from + c.in-Some.found in
    let found : NoneBefore (Passes (is_byte 37) (drop from text)) 0 (length (drop from text)) c.in-Some.found × Passes (is_byte 37) (drop from text) c.in-Some.found = rw (rest text from) at c.in-Some.ensures in
    let not_here : ¬ PartsAt text n = elim c.if-at-eq0.branch [
      | then-at-eq0+else-eq w ↦
          let cut : IsCut 10 (drop n text) w.cut_line.result.0.now w.cut_line.result.1 = rw (rest text n) at w.cut_line.ensures in
          let other : w.cut_line.result.0.now ≢ codes "%%" = search rules in
          not_other text n w.cut_line.result.0.now w.cut_line.result.1 cut other
      | else-at-eq0+else-text-at-eq10 w ↦ not_inside text n w.if-at-eq0.false w.if-text-at-eq10.false
    ]
    in
    record {
      within = omega (arith, found.0.high, length-drop from text);
      nowhere = nowhere_past text n (nowhere_before text from c.in-Some.found c.loop-found.invariant.nowhere found.0.before) not_here;
    }

pub returns : goal.returns
returns c =
    let text = c.args.text.now in
    let from = c.loop-found.from in
    let none : Nowhere (Passes (is_byte 37) (drop from text)) 0 (length (drop from text)) = rw (rest text from) at c.in_default.ensures in
    let nowhere = nowhere_before text from (length (drop from text)) c.loop-found.invariant.nowhere none in
    IsPart-whole text (λ k low high. nowhere k low (omega (arith, high, length-drop from text)))
