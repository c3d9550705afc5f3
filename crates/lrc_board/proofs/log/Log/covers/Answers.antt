use Rattle.std.proofs.Common.{List, ap, sym, ◌∙◌, subst}
use mathlib.Core.List.{IsPrefix}
use Rattle.lrc_board.specs.declared.line.Line.{Line}
use Rattle.lrc_board.proofs.PrefixLemmas.{prefix_trans}
use Rattle.lrc_board.proofs.WrittenLemmas.{unused_moves, covered}
use Rattle.lrc_board.proofs.log.Log.covers.Goals as goal

pub compare_exchange-requires : goal.compare_exchange-requires
compare_exchange-requires g c =
    let log = c.self.inside in
    let i = c.self.invariant in
    let offer = c.plain-offer.ensures in
    let book = sym (ap (λ w. w.book) i.1) in (
      ap (λ w. w.tracked) i.1,
      c.learn.ensures.0 ∙ (ap (λ s. s.book) c.again-both.ensures ∙ (i.0 ∙ book)),
      i.2 ∙ book,
      offer.0,
      rw (ap (λ w. w.key) i.1, offer.3) (unused_moves c.learn.new.self.log log.permit.nib c.plain-offer.result.ask i.3),
    )

pub returns-clause-covers : goal.returns-clause-covers
returns-clause-covers g c =
    let log = c.self.inside in
    let i = c.self.invariant in
    let seen : List Line = c.args.seen.now.log in
    let both : List Line = c.learn.new.self.log in
    let all : List Line = c.compare_exchange.new.seen.log in
    let own : IsPrefix log.prefix.log both = subst (λ (l : List Line). IsPrefix l both) (ap (λ s. s.log) c.again-both.ensures) c.learn.ensures.2 in
    let on : IsPrefix both all = c.compare_exchange.ensures.6 in
    rw (← c.self.view_is) (covered g.N.ViewNaming.start log.permit.nib.key log.prefix.log seen all i.4
    (prefix_trans log.prefix.log both all own on) (prefix_trans seen both all c.learn.ensures.3 on) c.compare_exchange.ensures.7.0)
