use Rattle.std.proofs.Common.{◌≡◌, ◌++◌, take, string_bytes}
use Rattle.std.specs.Prelude.{flat_map}
use Rattle.lrc_show.specs.Listed.{shown_lease}
use Rattle.lrc_show.proofs.leases.push_leases.Given as goal

abbrev pub invariant-loop-lease : goal.invariant-loop-lease
invariant-loop-lease l = string_bytes l.out ≡ string_bytes l.initial.out ++ flat_map shown_lease (take l.lease-index l.lease-items)
