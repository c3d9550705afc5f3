use Rattle.std.proofs.Common.{[], Bool, List, get_or, ap, sym, ◌∙◌}
use Rattle.lrc_ranks.specs.Sets.{has}
use Rattle.lrc_stripes.proofs.VerdictLemmas.{has-added}
use Rattle.lrc_stripes.proofs.verdicts.Verdicts.reach.Goals as goal

pub loop-domain-preserved : goal.loop-domain-preserved
loop-domain-preserved c = record {
  room = rw c.push_reserved.ensures.capacity c.loop-domain.invariant.room;
  same = λ lost several are.
      let before = c.loop-domain.invariant.same lost several are in
      record {
        room = rw c.push_reserved.ensures.capacity before.room;
        safe = λ u s there kept.
            before.safe u s (has-added c.loop-domain.self.safe.items c.new.result c.new.ensures u.value s (ap (λ (sets : List (List Bool)). has (get_or sets u.value []) s) (sym c.push_reserved.ensures.items) ∙ there)) kept;
        unchanged = before.unchanged;
        counted = before.counted;
      };
}
