use Rattle.std.proofs.Common.{rules, ◌≡◌, ◌-◌, length, take, drop, ap, sym, ◌∙◌}
use Rattle.std.proofs.Math.Seq.{take-length}
use Rattle.std.proofs.lemmas.List.{length-drop, take-append-drop}
use Rattle.lrc_board.proofs.keeper.log_entries.Goals as goal

pub returns : goal.returns
returns g c =
    let before = c.args.before in
    let entries = c.history-history.result.now in
    let rest : take (length entries - before) (drop before entries) ≡ drop before entries =
    ap (λ k. take k (drop before entries)) (sym (length-drop before entries)) ∙ take-length (drop before entries) in
    let all = take-append-drop before c.args.book.now.history in
    search (rules, rest, all)
