use Rattle.std.proofs.Common.{◌≡◌, ◌-◌, ℕ, IfOk, List, subst, ap, ◌∙◌}
use Rattle.std.specs.List.{filter_map, range_with_len}
use Rattle.lrc_book.specs.Books.{state_of, world_of}
use Rattle.lrc_changes.specs.declared.touch.Former.{Former}
use Rattle.lrc_changes.specs.Touched.{touched_at}
use Rattle.lrc_changes.proofs.ReachLemmas.{all-found, reach-end}
use Rattle.lrc_changes.proofs.changed.changed_by.Goals as goal

pub returns-clause-value : goal.returns-clause-value
returns-clause-value c =
    let b = c.args.book.now in
    let e = c.args.entry.now in
    let all =
    ap (λ (w : ℕ × ℕ). filter_map (touched_at (state_of b) e.command e.reply) (range_with_len w.0 (w.1 - w.0))) c.reach-start.ensures
    ∙ all-found b.nodes (world_of b).past (state_of b) e.session e.command e.reply c.requires.step c.history.ensures.good.seated (reach-end e.command e.reply) in
    subst (λ (l : List Former). IfOk c.touched_from.result (λ rows. rows.items ≡ l)) all c.touched_from.ensures.value
