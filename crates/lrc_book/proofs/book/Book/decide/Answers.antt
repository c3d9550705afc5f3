use Rattle.std.proofs.Common.{List, sym, ap, ◌∙◌, ◌++◌, arith}
use Rattle.lrc_rules.specs.declared.entry.Entry.{Entry}
use Rattle.lrc_rules.specs.Histories.{world_from}
use Rattle.lrc_rules.specs.Steps.{step}
use Rattle.lrc_rules.proofs.GoodLemmas.{past-from}
use Rattle.lrc_book.specs.Books.{base_world}
use Rattle.lrc_book.proofs.CountedLemmas.{few-grants}
use Rattle.lrc_book.proofs.ShownLemmas.{shown-after}
use Rattle.lrc_book.proofs.book.Book.decide.Goals as goal

pub returns-clause-step : goal.returns-clause-step
returns-clause-step c =
    let b = c.self.inside in
    let base = base_world b.base in
    let w = world_from b.store.value.topology base b.history.items in
    let told = (rw c.deref.ensures at c.reply-reply.ensures) w.state (base.past ++ b.history.items) c.self.invariant.store_is c.self.invariant.counted c.self.invariant.cursor_is in
    rw (← c.self.view_is)
    (sym (told ∙ ap (λ (past : List Entry). (step b.store.value.topology past w.state c.args.session c.args.command).0) (sym (past-from b.store.value.topology base b.history.items))))

pub returns-clause-shown : goal.returns-clause-shown
returns-clause-shown c =
    shown-after c.args.self.now (record { session = c.args.session; command = c.args.command; reply = c.reply-reply.result }) (returns-clause-step c)

pub returns-clause-room : goal.returns-clause-room
returns-clause-room c =
    rw (← c.self.view_is) (omega (arith, c.self.invariant.few, c.len.ensures))

pub reply-reply-requires-clause-few : goal.reply-reply-requires-clause-few
reply-reply-requires-clause-few c = few-grants c.self.inside.store.value c.self.inside.grants c.self.inside.repair_cursor c.self.inside.limit (base_world c.self.inside.base) c.self.inside.history.items c.self.invariant (omega (arith, c.self.invariant.few, c.len.ensures, c.if-len-self.false))
