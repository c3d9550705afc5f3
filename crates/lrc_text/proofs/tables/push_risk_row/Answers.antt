use Rattle.std.proofs.Common.{◌≡◌, ◌++◌, List, ℕ, OnOk, subst, rules}
use Rattle.lrc_text.specs.Writers.{text_in}
use Rattle.lrc_text.proofs.FieldLemmas.{risk_written}
use Rattle.lrc_text.proofs.tables.push_risk_row.Goals as goal

pub returns-clause-row : goal.returns-clause-row
returns-clause-row c = subst (λ (t : List ℕ). OnOk c.push_row.result (text_in c.push_row.new.table ≡ text_in c.args.table.now ++ t))
    (risk_written c.args.stripe c.args.level c.args.code c.args.missing.bits c.margin_in.result c.as_bytes.result.now c.as_bytes-2.result.now c.as_bytes-3.result.now c.as_bytes-4.result.now
    (search rules) (search rules) (search rules) (search rules) (search rules) (search rules)) (search rules)
