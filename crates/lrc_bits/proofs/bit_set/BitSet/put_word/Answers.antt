use Rattle.std.proofs.Common.{◌<◌, length, arith}
use Rattle.lrc_bits.proofs.FlagLemmas.{word-below, flags-length_set, flags-put_word}
use Rattle.lrc_bits.proofs.bit_set.BitSet.put_word.Goals as goal

pub offset_bounds-words-index : goal.offset_bounds-words-index
offset_bounds-words-index g c =
    let within = word-below c.self.inside.words c.args.self.now c.args.index g.row.W c.self.told c.self.view_is c.requires in
    omega (arith, within, c.self.told, c.self.invariant)

pub bounds-words-index : goal.bounds-words-index
bounds-words-index g c = word-below c.self.inside.words c.args.self.now c.args.index g.row.W c.self.told c.self.view_is c.requires

pub returns-clause-same : goal.returns-clause-same
returns-clause-same g c = flags-length_set c.self.inside.words c.args.self.now c.args.index c.args.word c.self.view_is

pub returns-clause-put : goal.returns-clause-put
returns-clause-put g c =
    let words = c.self.inside.words in
    let within = word-below words c.args.self.now c.args.index g.row.W c.self.told c.self.view_is c.requires in
    let inside : c.args.index < length words = let long = c.self.told in omega (arith, within, long) in
    flags-put_word words c.args.self.now c.args.index c.args.word c.self.view_is inside
