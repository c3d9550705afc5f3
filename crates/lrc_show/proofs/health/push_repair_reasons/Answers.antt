use Rattle.std.proofs.Common.{rules, ◌≡◌, ◌++◌, List, filter, codes, string_bytes, ap, ◌∙◌}
use Rattle.lrc_terms.specs.Stripes.{StripeFragment}
use Rattle.lrc_book.specs.Books.{state_of}
use Rattle.lrc_book.specs.Looks.{is_granted_now}
use Rattle.lrc_show.specs.Reasons.{reason_row, fragment_words, needing, finds_no_node, ending_fragments, repair_reasons}
use Rattle.lrc_show.proofs.StatusLemmas.{join}
use Rattle.lrc_show.proofs.health.push_repair_reasons.Goals as goal

pub returns-clause-text : goal.returns-clause-text
unfolding repair_reasons
returns-clause-text c =
    let nodes = c.args.book.now.nodes in
    let st = state_of c.args.book.now in
    let old = string_bytes c.args.out.now in
    let all = needing nodes st in
    let stuck : c.as_slice-3.result.now ≡ filter (finds_no_node nodes st) all = search rules in
    let granted : c.as_slice-4.result.now ≡ filter (λ (p : StripeFragment). is_granted_now nodes st p.0 p.1) all = search rules in
    let ending : c.as_slice-5.result.now ≡ ending_fragments st = search rules in
    let one = c.in_ok-push_fragments_reason.ensures ∙ ap (λ (l : List StripeFragment). old ++ reason_row (codes "no_node") fragment_words l) stuck in
    let two = join old _ _ _ _ one (c.in_ok-push_fragments_reason-2.ensures
    ∙ ap (λ (l : List StripeFragment). string_bytes c.push_fragments_reason.new.out ++ reason_row (codes "waiting") fragment_words l) granted) in
    join old _ _ _ _ two (c.in_ok-push_fragments_reason-3.ensures
    ∙ ap (λ (l : List StripeFragment). string_bytes c.push_fragments_reason-2.new.out ++ reason_row (codes "ending") fragment_words l) ending)
