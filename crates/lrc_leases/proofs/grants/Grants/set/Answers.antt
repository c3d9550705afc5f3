use Rattle.std.proofs.Common.{◌≡◌, ◌+◌, ◌*◌, ◌/◌, ◌%◌, arith}
use Rattle.lrc_leases.proofs.CountLemmas.{counted-set}
use Rattle.lrc_leases.proofs.grants.Grants.set.Goals as goal

pub returns : goal.returns
returns c =
    let count = c.args.count in
    let parts : (count / 256) * 256 + count % 256 ≡ count = omega arith in
    rw (← c.self.view_is)
    (counted-set c.self.inside.lows.items c.write.new.values.items c.self.inside.highs.items c.write-2.new.values.items c.args.stripe c.args.fragment
    c.spot_of-spot.result count (count % 256) (count / 256) c.spot_of-spot.ensures.value parts c.write.ensures.value c.write-2.ensures.value)
