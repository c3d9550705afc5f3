use Rattle.std.proofs.Common.{rules, ◌≡◌, ◌++◌, codes, flat_map, string_bytes, ap, ◌∙◌}
use Rattle.lrc_forecast.specs.declared.outlook.Outage.{Outage}
use Rattle.lrc_book.specs.Books.{state_of}
use Rattle.lrc_show.specs.Summed.{all_domains, shown_domain}
use Rattle.lrc_show.proofs.ListLemmas.{table-all}
use Rattle.lrc_show.proofs.domains.push_domains.Goals as goal

pub returns-clause-text : goal.returns-clause-text
returns-clause-text c =
    let nodes = c.args.book.now.nodes in
    let st = state_of c.args.book.now in
    let kind = c.args.kind in
    let items = c.as_slice-domain-items.result.now in
    let all : items ≡ all_domains nodes kind = search rules in
    let head = codes "domain,nodes,online,homes,targets,load,slots,stripes,whole,at_risk_margin_2,at_risk_margin_1,at_risk_margin_0,unavailable,lost\n" in
    let old = string_bytes c.args.out.now in
    table-all (shown_domain nodes st c.outage_for-outage.result) items (all_domains nodes kind) c.loop-domain.domain-index head old _ (string_bytes c.loop-domain.out)
    c.loop-domain-test.false c.loop-domain.invariant c.in_ok-push_str.ensures.bytes all
    ∙ ap (λ (o : Outage). old ++ (head ++ flat_map (shown_domain nodes st o) (all_domains nodes kind))) c.outage_for-outage.ensures
