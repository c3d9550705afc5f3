use Rattle.std.proofs.Common.{sym, ap, ◌∙◌, option_map}
use Rattle.lrc_slots.specs.Tables.{slots_of}
use Rattle.lrc_bars.specs.Neighbouring.{barred_by}
use Rattle.lrc_bars.proofs.OpenLemmas.{open_seat, open-next}
use Rattle.lrc_store.proofs.store.Store.next_beside.Goals as goal

pub returns : goal.returns
returns c =
    ap (option_map open_seat) (sym c.in_ok-next.was)
    ∙ open-next (slots_of c.args.self.now.table) (barred_by c.args.neighbours.now) c.open_beside.result c.open_beside.ensures.node c.open_beside.ensures.slot
