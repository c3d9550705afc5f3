use Rattle.std.proofs.Common.{arith, get_or, ◌∷◌, []}
use Rattle.lrc_bits.proofs.FlagLemmas.{word-below, length-flags, alone-word}
use Rattle.lrc_bits.proofs.bit_set.BitSet.of_word.Goals as goal

pub offset_bounds-words-index : goal.offset_bounds-words-index
offset_bounds-words-index g c =
    let within = word-below c.self.inside.words c.args.self.now c.args.index g.row.W c.self.told c.self.view_is c.requires in
    omega (arith, within, c.self.told, c.self.invariant)

pub bounds-words-index : goal.bounds-words-index
bounds-words-index g c = word-below c.self.inside.words c.args.self.now c.args.index g.row.W c.self.told c.self.view_is c.requires

pub returns-clause-long : goal.returns-clause-long
returns-clause-long g c = length-flags (get_or c.self.inside.words c.args.index 0 ∷ [])

pub returns-clause-same : goal.returns-clause-same
returns-clause-same g c = λ k small. alone-word c.self.inside.words c.args.self.now c.args.index k c.self.view_is small
