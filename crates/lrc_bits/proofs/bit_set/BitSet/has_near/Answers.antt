use Rattle.std.proofs.Common.{arith, ◌/◌}
use Rattle.lrc_bits.proofs.FlagLemmas.{word-within}
use Rattle.lrc_bits.proofs.FirstFlagLemmas.{near-some, near-none, is_zero, is_not_zero}
use Rattle.lrc_bits.proofs.bit_set.BitSet.has_near.Goals as goal

pub bounds-self-inside-number : goal.bounds-self-inside-number
bounds-self-inside-number g c = word-within c.self.inside.words c.args.self.now c.args.number g.row.W c.self.told c.self.view_is c.requires

pub returns-clause-some : goal.returns-clause-some
returns-clause-some g c = λ yes. near-some c.self.inside.words c.args.self.now c.self.view_is (c.args.number / 64) (is_not_zero _ yes) (omega arith)

pub returns-clause-none : goal.returns-clause-none
returns-clause-none g c = λ no. near-none c.self.inside.words c.args.self.now c.self.view_is (c.args.number / 64) (is_zero _ no)
