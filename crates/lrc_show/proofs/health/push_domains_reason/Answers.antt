use Rattle.std.proofs.Common.{rules, ◌++◌, ◌<◌, List, ℕ, length, codes, string_bytes, ap, ◌∙◌, arith}
use Rattle.lrc_show.proofs.HealthLemmas.{domains-reason}
use Rattle.lrc_show.proofs.health.push_domains_reason.Goals as goal

pub returns : goal.returns
returns c =
    let ds = c.args.domains.now in
    let some : 0 < length ds = search (rules, arith) in
    c.in_ok-push_reason.ensures
    ∙ ap (λ (t : List ℕ). string_bytes c.args.out.now ++ t)
    (domains-reason (codes "fault_domains") ds _ _ c.shown_number-first.result some (search rules) c.shown_number-first.ensures)
