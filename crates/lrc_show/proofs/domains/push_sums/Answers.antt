use Rattle.std.proofs.Common.{rules, ◌≡◌, List, ℕ, ◌++◌, length, string_bytes, ap, ◌∙◌}
use Rattle.lrc_book.specs.Books.{state_of}
use Rattle.lrc_show.proofs.DomainLemmas.{sums_of, sums-written}
use Rattle.lrc_show.proofs.domains.push_sums.Goals as goal

pub returns-clause-text : goal.returns-clause-text
returns-clause-text c =
    let ns = c.args.members.now in
    let old = string_bytes c.args.out.now in
    let raw : string_bytes c.write.new.self ≡ old
    ++ sums_of (length ns) c.count_online-online.result c.in_ok-homes.homes c.sum_targets-targets.result c.sum_loads-load.result c.sum_slots-slots.result = search rules in
    raw
    ∙ ap (λ (t : List ℕ). old ++ t)
    (sums-written (state_of c.args.book.now) c.args.leases.now ns c.count_online-online.result c.in_ok-homes.homes c.sum_targets-targets.result c.sum_loads-load.result
    c.sum_slots-slots.result c.count_online-online.ensures c.in_ok-homes.ensures.value c.sum_targets-targets.ensures c.sum_loads-load.ensures c.sum_slots-slots.ensures)
