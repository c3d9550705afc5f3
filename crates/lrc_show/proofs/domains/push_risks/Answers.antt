use Rattle.std.proofs.Common.{rules, ◌≡◌, ℕ, List, ◌++◌, string_bytes, ap, ◌∙◌}
use Rattle.lrc_show.proofs.DomainLemmas.{risks_of, risks-written}
use Rattle.lrc_show.proofs.domains.push_risks.Goals as goal

pub returns : goal.returns
returns c =
    let old = string_bytes c.args.out.now in
    let two = c.count_then-margin_2.result in
    let one = c.count_then-margin_1.result in
    let none = c.count_then-margin_0.result in
    let away = c.count_then-unavailable.result in
    let lost = c.count_then-lost.result in
    let raw : string_bytes c.write.new.self ≡ old ++ risks_of two one none away lost = search rules in
    raw
    ∙ ap (λ (t : List ℕ). old ++ t)
    (risks-written c.args.rows.now two one none away lost c.count_then-margin_2.ensures c.count_then-margin_1.ensures c.count_then-margin_0.ensures
    c.count_then-unavailable.ensures c.count_then-lost.ensures)
