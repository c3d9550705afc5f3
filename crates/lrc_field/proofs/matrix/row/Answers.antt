use Rattle.std.proofs.Common.{ℕ, inl, inr, get_or, set, arith, sym, ap, ◌∙◌}
use Rattle.std.proofs.Math.ListN.{length-set}
use Rattle.std.proofs.lemmas.Bool.{cases_eq}
use Rattle.std.proofs.lemmas.List.{get_or-set_same, get_or-set_other}
use Rattle.lrc_field.specs.Stripes.{generator}
use Rattle.lrc_field.proofs.matrix.row.Goals as goal

pub loop-number-preserved : goal.loop-number-preserved
loop-number-preserved c =
    let n = c.loop-number.number in
    let row = c.loop-number.row in
    let is = c.loop-number.invariant in
    let v = c.entry.result in
    record {
      long = length-set row n v ∙ is.long;
      entries = λ d below. elim (cases_eq d n) [
        | inl same ↦
            ap (λ (k : ℕ). get_or (set row n v) k 0) same
            ∙ (get_or-set_same row n v 0 (let long = is.long in omega (arith, long)) ∙ (c.entry.ensures ∙ ap (generator c.args.code c.args.fragment.value) (sym same)))
        | inr other ↦ get_or-set_other row n d v 0 other ∙ is.entries d (omega (arith, below, other))
      ];
      rest = λ d past. get_or-set_other row n d v 0 (λ same. omega (arith, same, past)) ∙ is.rest d (omega (arith, past));
    }
