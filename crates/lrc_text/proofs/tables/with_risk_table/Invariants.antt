use Rattle.std.proofs.Common.{◌≡◌, ◌++◌, take, flat_map}
use Rattle.lrc_book.specs.Books.{state_of}
use Rattle.lrc_text.specs.Tables.{risk_row}
use Rattle.lrc_text.specs.Writers.{text_in, IsBetweenRows}
use Rattle.lrc_text.proofs.tables.with_risk_table.Given as goal

abbrev pub invariant-loop-stripe : goal.invariant-loop-stripe
invariant-loop-stripe l = record {
  between : IsBetweenRows l.table;
  told : text_in l.table ≡ text_in l.initial.table ++ flat_map (risk_row l.book.nodes (state_of l.book)) (take l.stripe-index l.stripe-items);
}
