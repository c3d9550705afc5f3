use Rattle.std.proofs.Common.{ℕ, ◌++◌, codes, string_bytes, ap, ◌∙◌}
use Rattle.std.specs.Prelude.{decimal}
use Rattle.lrc_show.specs.Summed.{value_row}
use Rattle.lrc_show.specs.Facts.{node_lines}
use Rattle.lrc_show.proofs.StatusLemmas.{row-join}
use Rattle.lrc_show.proofs.status.push_node_values.Goals as goal

pub returns : goal.returns
unfolding node_lines
returns c =
    let old = string_bytes c.args.out.now in
    let one = c.in_ok-push_value.ensures ∙ ap (λ (n : ℕ). old ++ value_row (codes "nodes_active") (decimal n)) c.count_active.ensures in
    let two = row-join old _ (codes "nodes_draining") _ _ _ _ one c.in_ok-push_value-2.ensures c.count_draining.ensures in
    let three = row-join old _ (codes "nodes_gone") _ _ _ _ two c.in_ok-push_value-3.ensures c.count_gone.ensures in
    let four = row-join old _ (codes "nodes_down") _ _ _ _ three c.in_ok-push_value-4.ensures c.count_down.ensures in
    row-join old _ (codes "nodes_online") _ _ _ _ four c.in_ok-push_value-5.ensures c.count_online.ensures
