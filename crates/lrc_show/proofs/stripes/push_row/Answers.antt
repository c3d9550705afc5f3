use Rattle.std.proofs.Common.{string_bytes}
use Rattle.lrc_show.proofs.RowLemmas.{row-told}
use Rattle.lrc_show.proofs.stripes.push_row.Goals as goal

pub returns : goal.returns
returns c = λ m of is homed.
    row-told c.args.stripe c.args.code c.args.level m of (string_bytes c.args.out.now) c.args.homes.now c.args.missing.bits c.homeless_of.result.bits c.margin_in.result
    _ _ _ _ _ (string_bytes c.push_str.new.self) is homed (c.homeless_of.ensures of homed) c.margin_in.ensures.value
    c.in_ok-push_head.ensures c.in_ok-push_margin.ensures c.in_ok-push_set.ensures c.in_ok-push_set-2.ensures c.in_ok-push_homes.ensures c.in_ok-push_str.ensures.bytes
