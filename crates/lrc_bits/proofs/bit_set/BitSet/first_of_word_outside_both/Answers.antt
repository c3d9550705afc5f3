use Rattle.std.proofs.Common.{arith, get_or, bit_or, ◌-◌, ◌^◌}
use Rattle.std.proofs.lemmas.Nat.{and_le_l}
use Rattle.lrc_bits.proofs.FlagLemmas.{word-below}
use Rattle.lrc_bits.proofs.OutsideLemmas.{found-of_word_both, none-of_word_both}
use Rattle.lrc_bits.proofs.UnionLemmas.{or-small}
use Rattle.lrc_bits.proofs.bit_set.BitSet.first_of_word_outside_both.Goals as goal

pub offset_bounds-one-inside-index : goal.offset_bounds-one-inside-index
offset_bounds-one-inside-index g c =
    let within = word-below c.self.inside.words c.args.self.now c.args.index g.row.W c.self.told c.self.view_is c.requires in
    omega (arith, within, c.self.told, c.self.invariant)

pub bounds-one-inside-index : goal.bounds-one-inside-index
bounds-one-inside-index g c = word-below c.self.inside.words c.args.self.now c.args.index g.row.W c.self.told c.self.view_is c.requires

pub offset_bounds-other-inside-index : goal.offset_bounds-other-inside-index
offset_bounds-other-inside-index g c =
    let within = word-below c.self.inside.words c.args.self.now c.args.index g.row.W c.self.told c.self.view_is c.requires in
    omega (arith, within, c.self.told, c.self.invariant)

pub bounds-other-inside-index : goal.bounds-other-inside-index
bounds-other-inside-index g c = word-below c.self.inside.words c.args.self.now c.args.index g.row.W c.self.told c.self.view_is c.requires

pub offset_bounds-words-index : goal.offset_bounds-words-index
offset_bounds-words-index g c =
    let within = word-below c.self.inside.words c.args.self.now c.args.index g.row.W c.self.told c.self.view_is c.requires in
    omega (arith, within, c.self.told, c.self.invariant)

pub bounds-words-index : goal.bounds-words-index
bounds-words-index g c = word-below c.self.inside.words c.args.self.now c.args.index g.row.W c.self.told c.self.view_is c.requires

pub overflow_add-result : goal.overflow_add-result
overflow_add-result g c =
    let words = c.self.inside.words in
    let ones = c.one.inside.words in
    let others = c.other.inside.words in
    let i = c.args.index in
    let lacks = bit_or (get_or ones i 0) (get_or others i 0) in
    let found = found-of_word_both ones others (omega arith) c.args.one.now c.args.other.now c.one.view_is c.other.view_is words c.args.self.now c.self.view_is i
    (or-small (get_or ones i 0) (get_or others i 0) (omega arith) (omega arith)) c.if-left-ne0.true
    (omega (arith, and_le_l (get_or words i 0) (2 ^ 64 - 1 - lacks))) in
    let within = word-below words c.args.self.now i g.row.W c.self.told c.self.view_is c.requires in
    omega (arith, found.near, within, c.self.told, c.self.invariant)

pub returns-then-left-ne0 : goal.returns-then-left-ne0
returns-then-left-ne0 g c =
    let words = c.self.inside.words in
    let ones = c.one.inside.words in
    let others = c.other.inside.words in
    let i = c.args.index in
    let lacks = bit_or (get_or ones i 0) (get_or others i 0) in
    found-of_word_both ones others (omega arith) c.args.one.now c.args.other.now c.one.view_is c.other.view_is words c.args.self.now c.self.view_is i
    (or-small (get_or ones i 0) (get_or others i 0) (omega arith) (omega arith)) c.if-left-ne0.true
    (omega (arith, and_le_l (get_or words i 0) (2 ^ 64 - 1 - lacks)))

pub returns : goal.returns
returns g c =
    let words = c.self.inside.words in
    let ones = c.one.inside.words in
    let others = c.other.inside.words in
    let i = c.args.index in
    none-of_word_both ones others (omega arith) c.args.one.now c.args.other.now c.one.view_is c.other.view_is words c.args.self.now c.self.view_is i
    (or-small (get_or ones i 0) (get_or others i 0) (omega arith) (omega arith)) c.if-left-ne0.false
