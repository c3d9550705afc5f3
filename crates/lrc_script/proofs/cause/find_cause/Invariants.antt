use Rattle.std.proofs.Common.{◌≡◌, drop}
use Rattle.lrc_script.specs.Scripts.{words_of, words_cause}
use Rattle.lrc_script.specs.Cuts.{words_behind}
use Rattle.lrc_script.proofs.TableLemmas.{left_cause}
use Rattle.lrc_script.proofs.cause.find_cause.Given as goal

-- the words and bounds that are left decide, with the cause of those before
abbrev pub invariant-loop-bound : goal.invariant-loop-bound
invariant-loop-bound l = words_cause (words_of l.line) ≡ left_cause l.cause (words_behind l.rest) (drop l.bound-index l.bounds)
