use Rattle.std.proofs.Common.{List, ap, sym, ◌∙◌, ◌++◌}
use Rattle.lrc_rules.specs.declared.entry.Entry.{Entry}
use Rattle.lrc_board.proofs.WrittenLemmas.{append_moves, asked_added}
use Rattle.lrc_board.proofs.log.Log.add.Goals as goal

pub compare_exchange-requires : goal.compare_exchange-requires
compare_exchange-requires g c =
    let log = c.self.inside in
    let i = c.self.invariant in
    let offer = c.plain-offer.ensures in
    let book = sym (ap (λ w. w.book) i.1) in (
      ap (λ w. w.tracked) i.1,
      i.0 ∙ book,
      i.2 ∙ book,
      offer.0,
      rw (ap (λ w. w.key) i.1, offer.3) (append_moves log.prefix.log log.permit.nib c.plain-offer.result.ask i.3),
    )

pub invariant_of-self : goal.invariant_of-self
invariant_of-self g c =
    let log = c.self.inside in
    let i = c.self.invariant in
    let then = c.compare_exchange.ensures.7 in
    let done = asked_added g.N.ViewNaming.start log.permit.nib.key log.prefix.log then.0 c.compare_exchange.new.seen.log c.plain-offer.result.ask
    c.args.entries.now c.new_permit.result.nib.key i.4 then.1 then.2 c.plain-offer.ensures.1 then.3 in
    (c.compare_exchange.ensures.0 ∙ i.0, i.1, c.new_permit.ensures.0 ∙ i.0, c.new_permit.ensures.1, done.0)

pub returns : goal.returns
returns g c =
    let log = c.self.inside in
    let i = c.self.invariant in
    let then = c.compare_exchange.ensures.7 in
    let done = asked_added g.N.ViewNaming.start log.permit.nib.key log.prefix.log then.0 c.compare_exchange.new.seen.log c.plain-offer.result.ask
    c.args.entries.now c.new_permit.result.nib.key i.4 then.1 then.2 c.plain-offer.ensures.1 then.3 in
    done.1 ∙ ap (λ (l : List Entry). l ++ c.args.entries.now) c.self.view_is
