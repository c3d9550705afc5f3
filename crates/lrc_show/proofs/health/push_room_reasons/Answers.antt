use Rattle.std.proofs.Common.{rules, ◌≡◌, ◌++◌, List, ℕ, map, filter, codes, decimal, string_bytes, ap, ◌∙◌}
use Rattle.lrc_terms.specs.Modes.{is_active}
use Rattle.lrc_book.specs.Books.{state_of}
use Rattle.lrc_groups.specs.declared.named.Named.{Named}
use Rattle.lrc_show.specs.declared.nodes.NodeFacts.{NodeFacts}
use Rattle.lrc_show.specs.Summed.{shown_number}
use Rattle.lrc_show.specs.Reasons.{reason_row, fragile_domains, room_reasons}
use Rattle.lrc_show.specs.Facts.{node_facts}
use Rattle.lrc_show.proofs.StatusLemmas.{join}
use Rattle.lrc_show.proofs.HealthLemmas.{slots-told}
use Rattle.lrc_show.proofs.health.push_room_reasons.Goals as goal

pub returns-clause-text : goal.returns-clause-text
unfolding room_reasons
returns-clause-text c =
    let nodes = c.args.book.now.nodes in
    let st = state_of c.args.book.now in
    let old = string_bytes c.args.out.now in
    let fragile : c.as_slice.result.now ≡ fragile_domains nodes st = search rules in
    let first : c.as_slice-2.result.now ≡ filter (λ (n : NodeFacts). is_active n.mode) (map (node_facts st) nodes) = search rules in
    let second : c.as_slice-3.result.now ≡ filter (λ (n : NodeFacts). is_active n.mode) (map (node_facts st) nodes) = search rules in
    let domains = c.in_ok-push_domains_reason.ensures
    ∙ ap (λ (ds : List Named). string_bytes c.push_upgrading.new.out ++ reason_row (codes "fault_domains") (λ d. decimal (shown_number d)) ds) fragile in
    let slots = c.in_ok-push_slots.ensures
    ∙ ap (λ (t : List ℕ). string_bytes c.push_domains_reason.new.out ++ t)
    (slots-told nodes st c.as_slice-2.result.now c.as_slice-3.result.now c.sum_slots.result c.sum_loads.result first second c.sum_slots.ensures c.sum_loads.ensures) in
    let two = join old _ _ _ _ c.in_ok-push_upgrading.ensures domains in
    join old _ _ _ _ two slots
