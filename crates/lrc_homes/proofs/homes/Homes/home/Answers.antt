use Rattle.std.proofs.Common.{refl, sym, ◌∙◌}
use Rattle.lrc_homes.proofs.HomesLemmas.{home-of}
use Rattle.lrc_homes.proofs.homes.Homes.home.Goals as goal

pub returns-then-not-contains : goal.returns-then-not-contains
returns-then-not-contains c =
    let h = c.self.inside in
    rw (← c.self.view_is) (sym (home-of h.nodes h.slots h.homed.bits c.args.fragment.value c.self.invariant.few ∙ rw (← c.contains.ensures, c.if-not-contains.true) refl))

pub returns : goal.returns
returns c =
    let h = c.self.inside in
    rw (← c.self.view_is) (sym (home-of h.nodes h.slots h.homed.bits c.args.fragment.value c.self.invariant.few ∙ rw (← c.contains.ensures, c.if-not-contains.false) refl))
