use Rattle.std.proofs.Common.{◌≡◌, ◌-◌, ◌<◌, length}
use Rattle.lrc_bits.specs.Flags.{words_left}
use Rattle.lrc_bits.proofs.members.Members.next_member.Given as goal

abbrev pub invariant-loop-rest : goal.invariant-loop-rest
invariant-loop-rest l = record {
  within : l.index < length l.self-inside.words.now;
  same : words_left l.self-inside.words.now l.index l.rest ≡ words_left l.self-inside.words.now l.self-inside.index l.self-inside.rest;
}

abbrev pub decreases-loop-rest : goal.decreases-loop-rest
decreases-loop-rest l = length l.self-inside.words.now - l.index
