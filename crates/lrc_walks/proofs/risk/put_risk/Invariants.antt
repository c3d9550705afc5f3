use Rattle.std.proofs.Common.{◌≡◌, take, drop, map, length}
use Rattle.lrc_records.specs.Shown.{encoded_risk}
use Rattle.lrc_walks.proofs.risk.put_risk.Given as goal

abbrev pub invariant-loop-i : goal.invariant-loop-i
invariant-loop-i l = record {
  written : take l.i l.rows ≡ map encoded_risk (take l.i l.risk);
  rest : drop l.i l.rows ≡ drop l.i l.initial.rows;
  as_long : length l.rows ≡ length l.initial.rows;
}
