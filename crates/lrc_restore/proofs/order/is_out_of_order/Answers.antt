use Rattle.std.proofs.Common.{not, sym, ap, ◌∙◌}
use Rattle.lrc_restore.proofs.WalkLemmas.{last-tells}
use Rattle.lrc_restore.proofs.order.is_out_of_order.Goals as goal

pub returns-in-Some : goal.returns-in-Some
returns-in-Some g c =
    ap not c.comes_before.ensures
    ∙ sym (last-tells g.R.Ordered.first g.met.R.Ordered.joins c.args.before.now c.requires c.in-Some.last.now (sym c.in-Some.ensures.value) c.args.row.now)
