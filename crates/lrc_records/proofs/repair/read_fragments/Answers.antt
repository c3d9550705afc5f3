use Rattle.std.proofs.Common.{◌≡◌, get_or, map, ap, ◌∙◌, arith}
use Rattle.std.proofs.lemmas.Bool.{false≢true}
use Rattle.std.proofs.lemmas.List.{get_or-take}
use Rattle.lrc_records.proofs.ReadLemmas.{below_16}
use Rattle.lrc_records.proofs.repair.read_fragments.Goals as goal

pub returns-in_err-fragments-clause-none : goal.returns-in_err-fragments-clause-none
returns-in_err-fragments-clause-none g c = λ none fragments e.
    let same : get_or (map (λ f. f.value) fragments) c.loop-i.i 0 ≡ get_or c.args.numbers.now c.loop-i.i 0 =
    ap (λ ns. get_or ns c.loop-i.i 0) e ∙ get_or-take g.row.N c.args.numbers.now c.loop-i.i 0 (omega arith) in
    false≢true (c.in_err-fragments.ensures.valid.1 (omega (arith, same, below_16 fragments c.loop-i.i)))
