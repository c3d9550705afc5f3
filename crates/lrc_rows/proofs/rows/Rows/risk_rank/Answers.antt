use Rattle.std.proofs.Common.{Option, option_and_then, sym, ap, ◌∙◌}
use Rattle.std.specs.Option.{option_copied}
use Rattle.lrc_rows.specs.declared.row.Row.{Row}
use Rattle.lrc_rows.specs.NodeStates.{states_in}
use Rattle.lrc_ranks.specs.Ranks.{is_at}
use Rattle.lrc_homes.specs.Masks.{risk_rank}
use Rattle.lrc_rows.proofs.FreshLemmas.{freshened-there}
use Rattle.lrc_rows.proofs.rows.Rows.risk_rank.Goals as goal

pub returns-clause-rank : goal.returns-clause-rank
returns-clause-rank c = λ k.
    let online = (states_in c.args.node_table.now).online in
    let row = c.in_ok-row.row.now in
    let found = sym c.get.ensures ∙ ap option_copied c.in_ok-row.was in
    ap (λ (o : Option Row). is_at k (option_and_then (λ r. risk_rank r.losses) o)) (freshened-there online c.args.self.now.list c.args.stripe row found)
    ∙ ap (is_at k) (sym (c.risk_rank.ensures.value ∙ ap risk_rank c.losses_kept.ensures))

pub losses_kept-requires-clause-domains : goal.losses_kept-requires-clause-domains
losses_kept-requires-clause-domains c = c.requires.kept.domains c.args.stripe c.in_ok-row.row.now (sym c.get.ensures ∙ ap option_copied c.in_ok-row.was)
