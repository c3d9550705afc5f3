use Rattle.std.proofs.Common.{◌≡◌, take}
use Rattle.lrc_code.specs.Codes.{all_fragments}
use Rattle.lrc_slots.specs.Barred.{Barred, joined}
use Rattle.lrc_slots.specs.BarredNodes.{AreBarredNodes}
use Rattle.lrc_slots.specs.Tables.{slots_of}
use Rattle.lrc_bars.specs.Neighbouring.{domains_bar}
use Rattle.lrc_bars.proofs.neighbours.OtherSeats.bar.Given as goal

abbrev pub invariant-loop-fragment : goal.invariant-loop-fragment
invariant-loop-fragment l = record {
  barred_are : (b : Barred) → AreBarredNodes (slots_of l.table).nodes b l.initial.barred_nodes → AreBarredNodes (slots_of l.table).nodes (joined b
      (domains_bar l.self.domains.now.faults l.self.domains.now.upgrades l.self.others.bits l.self.members.bits (take l.fragment-index l.fragment-items))) l.barred_nodes;
  all : l.fragment-items ≡ all_fragments;
}
