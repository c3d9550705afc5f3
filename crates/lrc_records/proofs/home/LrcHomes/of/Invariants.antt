use Rattle.std.proofs.Common.{◌≡◌, take, map, length}
use Rattle.lrc_records.specs.Shown.{encoded_home}
use Rattle.lrc_records.proofs.home.LrcHomes.of.Given as goal

abbrev pub invariant-loop-i : goal.invariant-loop-i
invariant-loop-i l = record {
  written : take l.i l.encoded ≡ map encoded_home (take l.i l.homes);
  sixteen : length l.encoded ≡ 16;
}
