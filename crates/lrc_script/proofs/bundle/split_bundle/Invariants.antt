use Rattle.std.proofs.Common.{◌+◌, ◌≤◌, length, vec_len}
use Rattle.std.specs.Option.{option_map_or}
use Rattle.lrc_script.proofs.BundleLemmas.{IsSplit}
use Rattle.lrc_script.proofs.bundle.split_bundle.Given as goal

abbrev pub invariant-loop-behind : goal.invariant-loop-behind
invariant-loop-behind l = record { split : IsSplit l.bundle l.scripts.items l.passed l.behind; few : vec_len l.scripts ≤ l.most }

abbrev pub decreases-loop-behind : goal.decreases-loop-behind
decreases-loop-behind l = option_map_or (λ rest. length rest.now + 1) l.behind 0
