use Rattle.std.proofs.Common.{ap}
use Rattle.lrc_bits.specs.Flags.{flags}
use Rattle.lrc_bits.proofs.MembersLemmas.{left-first}
use Rattle.lrc_bits.proofs.members.Members.new.Goals as goal

pub returns : goal.returns
returns c = ap flags (left-first c.args.words.now c.requires.some)
