use Rattle.std.proofs.Common.{arith}
use Rattle.lrc_bits.proofs.FlagLemmas.{word-below, word-bits}
use Rattle.lrc_bits.proofs.bit_set.BitSet.word.Goals as goal

pub offset_bounds-stored-index : goal.offset_bounds-stored-index
offset_bounds-stored-index g c =
    let within = word-below c.self.inside.words c.args.self.now c.args.index g.row.W c.self.told c.self.view_is c.requires in
    omega (arith, within, c.self.told, c.self.invariant)

pub bounds-stored-index : goal.bounds-stored-index
bounds-stored-index g c = word-below c.self.inside.words c.args.self.now c.args.index g.row.W c.self.told c.self.view_is c.requires

pub returns : goal.returns
returns g c = λ k small. word-bits c.self.inside.words c.args.self.now c.args.index k c.self.view_is small
