use Rattle.std.proofs.Common.{◌<◌, [], inl, inr, length, arith, ◌∙◌}
use Rattle.std.proofs.lemmas.Bool.{cases_eq}
use Rattle.std.proofs.lemmas.List.{get_or_default}
use Rattle.lrc_ranks.specs.Sets.{has}
use Rattle.lrc_stripes.proofs.VerdictLemmas.{removed-one}
use Rattle.lrc_stripes.proofs.verdicts.remove_from_all.Goals as goal

pub loop-index-preserved : goal.loop-index-preserved
loop-index-preserved c =
    let i = c.loop-index.index in
    let items = c.loop-index.sets.items in
    let before = c.loop-index.invariant in
    let within : i < length items = omega (arith, c.loop-index-test.true, before.end, before.long, c.loop-index.sets.ok.0) in
    record {
      room = before.room;
      long = before.long;
      end = before.end;
      each = λ k s there.
          let one = removed-one items i c.index_mut-set.result.now c.remove_all.new.self (has c.args.stripes.now) within (c.index_mut-set.ensures.value ∙ get_or_default items i c.index_mut-set.result.now [] within) c.remove_all.ensures k s there in
          let old = before.each k s one.0 in (
            old.0,
            λ low. elim (cases_eq k i) [
              | inl same ↦ one.1 same
              | inr other ↦ old.1 (omega (arith, low, other))
            ],
          );
    }
