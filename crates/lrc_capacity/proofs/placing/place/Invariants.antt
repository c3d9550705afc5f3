use Rattle.std.proofs.Common.{◌≡◌, [], take, None}
use Rattle.lrc_code.specs.Codes.{fragments}
use Rattle.lrc_capacity.specs.Trials.{trial_of}
use Rattle.lrc_capacity.proofs.placing.place.Given as goal

-- the trial of the fragments so far, which are those of the code
abbrev pub invariant-loop-fragment : goal.invariant-loop-fragment
invariant-loop-fragment l = record {
  so_far : record { rooms = l.rooms; beside = l.beside.items; refused = l.refused }
      ≡ trial_of l.code (record { rooms = l.fn.rooms; beside = []; refused = None }) (take l.fragment-index l.fragment-items);
  all : l.fragment-items ≡ fragments l.code;
}
