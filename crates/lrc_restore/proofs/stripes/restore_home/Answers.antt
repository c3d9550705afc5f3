use Rattle.std.proofs.Common.{sym}
use Rattle.lrc_restore.proofs.SeatLemmas.{home-slot, home-unused, home-kept}
use Rattle.lrc_restore.proofs.stripes.restore_home.Goals as goal

pub set_home-requires-clause-slot : goal.set_home-requires-clause-slot
set_home-requires-clause-slot c =
    let tied = c.requires.tied in
    home-slot tied.0 c.args.store.now tied.1 c.args.stripe c.args.fragment c.args.seat (sym (c.in_default.ensures tied.0 tied.1)) c.requires.there c.requires.homeless

pub set_home-requires-clause-unused : goal.set_home-requires-clause-unused
set_home-requires-clause-unused c =
    let tied = c.requires.tied in
    home-unused tied.0 c.args.store.now tied.1 c.args.stripe c.args.fragment c.args.seat (sym (c.in_default.ensures tied.0 tied.1)) c.requires.there c.requires.homeless

pub returns-clause-kept : goal.returns-clause-kept
returns-clause-kept c = λ st kept.
    home-kept st c.args.store.now kept c.args.stripe c.args.fragment c.args.seat (sym (c.in_default.ensures st kept)) c.requires.there c.requires.homeless
    c.take_slot.new.self c.set_home.new.self c.take_slot.ensures c.set_home.ensures
