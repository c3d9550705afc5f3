use Rattle.std.proofs.Common.{[], ◌≡◌, List, ◌++◌, ◌∷◌, sym, ap, ◌∙◌}
use Rattle.lrc_rules.specs.declared.entry.Entry.{Entry}
use Rattle.lrc_rules.specs.declared.reply.Reply.{Reply}
use Rattle.lrc_rules.specs.Histories.{world_from, outcome_in}
use Rattle.lrc_rules.specs.Steps.{step}
use Rattle.lrc_book.specs.Books.{base_world}
use Rattle.lrc_answers.specs.Answers.{told}
use Rattle.lrc_rules.proofs.GoodLemmas.{past-from}
use Rattle.lrc_book.proofs.WorldLemmas.{clock-early}
use Rattle.lrc_book.proofs.CountedLemmas.{few-grants}
use Rattle.lrc_book.proofs.book.Book.make_call.Goals as goal
use Rattle.lrc_book.proofs.book.Book.make_call.Goals.{After-answer_to-answer}

-- the answer is the reply of the step
is_reply : (c : After-answer_to-answer) → (outcome_in c.self.inside.store.value.topology (world_from c.self.inside.store.value.topology (base_world c.self.inside.base) c.self.inside.history.items) c.args.session c.args.command).0
    ≡ told c.answer_to-answer.result
is_reply c =
    let b = c.self.inside in
    let nodes = b.store.value.topology in
    let h = b.history.items in
    let base = base_world b.base in
    let w = world_from nodes base h in
    ap (λ (past : List Entry). (step nodes past w.state c.args.session c.args.command).0) (past-from nodes base h)
    ∙ sym ((rw (c.deref.ensures ∙ c.look_ahead.ensures ∙ c.deref_mut.ensures.value) at c.answer_to-answer.ensures) w.state (base.past ++ h) c.self.invariant.store_is c.self.invariant.counted c.self.invariant.cursor_is)

pub enter-requires-clause-step : goal.enter-requires-clause-step
enter-requires-clause-step c =
    let reply = is_reply (goal.at.enter-requires-clause-step c).After-answer_to-answer in
    rw (c.deref_mut-2.ensures.value ∙ c.look_ahead.ensures ∙ c.deref_mut.ensures.value, c.new.ensures) reply

pub answer_to-answer-requires-clause-few : goal.answer_to-answer-requires-clause-few
answer_to-answer-requires-clause-few c =
    let b = c.self.inside in
    few-grants b.store.value b.grants b.repair_cursor b.limit (base_world b.base) b.history.items c.self.invariant (rw (← c.self.view_is) at c.requires.room)

pub enter-requires-clause-few : goal.enter-requires-clause-few
enter-requires-clause-few c =
    let b = c.self.inside in
    few-grants b.store.value b.grants b.repair_cursor b.limit (base_world b.base) b.history.items c.self.invariant (rw (← c.self.view_is) at c.requires.room)

pub enter-requires-clause-early : goal.enter-requires-clause-early
enter-requires-clause-early c =
    let b = c.self.inside in
    rw (c.deref_mut-2.ensures.value ∙ c.look_ahead.ensures ∙ c.deref_mut.ensures.value)
    (clock-early b.store.value b.grants b.repair_cursor b.limit (base_world b.base) b.history.items c.self.invariant (rw (← c.self.view_is) at c.requires.room))

pub invariant_of-self : goal.invariant_of-self
invariant_of-self c =
    (rw (c.deref_mut-2.ensures.value ∙ c.look_ahead.ensures ∙ c.deref_mut.ensures.value) at c.enter.ensures.kept) c.self.inside.limit c.self.invariant (rw (← c.self.view_is) at c.requires.room)

pub returns-clause-history : goal.returns-clause-history
returns-clause-history c =
    let reply = is_reply (goal.at.returns-clause-history c).After-answer_to-answer in
    rw (← c.self.view_is)
    (c.enter.ensures.history
    ∙ ap (λ (e : Entry). c.self.inside.history.items ++ e ∷ []) c.new.ensures
    ∙ ap (λ (r : Reply). c.self.inside.history.items ++ record { session = c.args.session; command = c.args.command; reply = r } ∷ []) (sym reply))
