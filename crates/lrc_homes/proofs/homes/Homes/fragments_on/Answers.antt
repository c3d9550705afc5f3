use Rattle.std.proofs.Common.{Fits, bit_and, eqb, w16, sym, ap, subst, ◌∙◌, arith}
use Rattle.std.proofs.Math.Facts.{Fits-of_lt}
use Rattle.std.proofs.lemmas.Simd.{bitmask_splat}
use Rattle.lrc_homes.proofs.MaskLemmas.{alike, alike-few, alike-set}
use Rattle.lrc_homes.proofs.HomesLemmas.{homes-on}
use Rattle.lrc_homes.proofs.homes.Homes.fragments_on.Goals as goal

pub overflow_cast-alike : goal.overflow_cast-alike
overflow_cast-alike c =
    let nodes = c.self.inside.nodes in
    let long = c.self.invariant.nodes_long in
    subst (Fits w16) (sym (bitmask_splat w16 eqb nodes 16 c.args.node.value long (omega arith))) (Fits-of_lt (alike-few nodes c.args.node.value long))

pub returns-clause-on : goal.returns-clause-on
returns-clause-on c = λ f.
    let h = c.self.inside in
    let n = c.args.node.value in
    let long = c.self.invariant.nodes_long in
    rw (← c.self.view_is) (
    homes-on h.nodes h.slots h.homed.bits (alike h.nodes n) c.from_bits.result.bits c.args.node c.self.invariant.few (λ g. alike-set h.nodes n g long)
    (c.from_bits.ensures ∙ ap (λ m. bit_and m h.homed.bits) (bitmask_splat w16 eqb h.nodes 16 n long (omega arith))) f)
