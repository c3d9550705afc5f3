use Rattle.std.proofs.Common.{◌≡◌, ◌-◌, List, option_map, take, length, subst, ap, ◌∙◌, rules}
use Rattle.std.specs.Prelude.{slice_get}
use Rattle.std.specs.List.{filter_map, range_with_len}
use Rattle.lrc_rules.specs.declared.entry.Entry.{Entry}
use Rattle.lrc_records.specs.declared.entry.LrcEntry.{LrcEntry}
use Rattle.lrc_records.specs.Replies.{encoded_entry}
use Rattle.lrc_walks.specs.WalkRows.{AreFirstRows}
use Rattle.lrc_walks.proofs.WalkLemmas.{rows-found}
use Rattle.lrc_walks.proofs.walks.put_history.Goals as goal

pub returns : goal.returns
returns c =
    let history = c.args.book.now.history in
    let end : c.history-end.result.now ≡ history = c.history-end.ensures.value in
    let all =
    ap (λ (es : List Entry). filter_map (λ i. option_map encoded_entry (slice_get history i)) (range_with_len c.args.from (length es - c.args.from))) end
    ∙ rows-found encoded_entry history c.args.from in
    subst (λ (l : List LrcEntry). AreFirstRows (take (length c.args.rows.now) l) c.put_found.result c.args.rows.now c.put_found.new.rows) all
    (c.put_found.ensures (λ i. option_map encoded_entry (slice_get history i)) (λ i found low high is. search rules))
