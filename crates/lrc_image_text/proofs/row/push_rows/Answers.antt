use Rattle.std.proofs.Common.{◌≡◌, ℕ, ◌+◌, ◌<◌, List, ◌++◌, length, get_or, take, map, sym, ap, ◌∙◌}
use Rattle.std.proofs.lemmas.List.{take_all, map_more, flat_map_more}
use Rattle.lrc_image_text.specs.Lines.{Line, line_text, lines_text}
use Rattle.lrc_image_text.proofs.row.push_rows.Goals as goal

-- one more line
more : {R : Type 0} (line : R → Line) (old now next : List ℕ) (xs : List R) (i : ℕ) (x : R) → i < length xs → x ≡ get_or xs i x
    → now ≡ old ++ lines_text (map line (take i xs)) → next ≡ now ++ line_text (line x) → next ≡ old ++ lines_text (map line (take (i + 1) xs))
more line old now next xs i x within item so added =
    let before = map line (take i xs) in
    added ∙ ap (λ t. t ++ line_text (line x)) so ∙ ap (λ y. (old ++ lines_text before) ++ line_text (line y)) item ∙ flat_map_more line_text old before (line (get_or xs i x))
    ∙ ap (λ ls. old ++ lines_text ls) (sym (map_more line xs i x within))

pub loop-row-preserved : goal.loop-row-preserved
loop-row-preserved g c =
    more g.R.Row.line c.args.out.now.items c.loop-row.out.items c.push_to.new.out.items c.args.rows.now c.loop-row.row-index c.row-item.result c.loop-row-test.true c.row-item.is
    c.loop-row.invariant c.in_ok-push_to.ensures

pub returns : goal.returns
returns g c = c.loop-row.invariant ∙ ap (λ rows. c.args.out.now.items ++ lines_text (map g.R.Row.line rows)) (take_all c.loop-row.row-index c.args.rows.now c.loop-row-test.false)
