use Rattle.std.proofs.Common.{sym, ◌∙◌, ap}
use Rattle.std.specs.Option.{option_copied}
use Rattle.lrc_stripes.proofs.ShownLemmas.{homes_shown-there, homes_shown-absent}
use Rattle.lrc_stripes.proofs.stripes.Stripes.packed_homes.Goals as goal

pub returns-in_err-row : goal.returns-in_err-row
returns-in_err-row c =
    let s = c.self.inside in
    rw (c.from_residual.ensures, ← c.self.view_is)
    (sym (homes_shown-absent s.node_table s.rows.list c.self.invariant.kept c.args.stripe
    (sym c.get.ensures ∙ ap option_copied c.in_err-row.was)))

pub returns : goal.returns
returns c =
    let s = c.self.inside in
    let row = c.in_ok-row.row.now in
    rw (← c.self.view_is, c.again.ensures)
    (sym (homes_shown-there s.node_table s.rows.list c.self.invariant.kept c.args.stripe row row.sixteen
    (sym c.get.ensures ∙ ap option_copied c.in_ok-row.was)))
