use Rattle.lrc_book.specs.Books.{base_world}
use Rattle.lrc_book.proofs.WorldLemmas.{clock-early}
use Rattle.lrc_book.proofs.CountedLemmas.{few-grants}
use Rattle.lrc_book.proofs.book.Book.commit.Goals as goal

pub enter-requires-clause-early : goal.enter-requires-clause-early
enter-requires-clause-early c =
    let b = c.self.inside in
    rw c.deref_mut.ensures.value
    (clock-early b.store.value b.grants b.repair_cursor b.limit (base_world b.base) b.history.items c.self.invariant (rw (← c.self.view_is) at c.requires.room))

pub enter-requires-clause-few : goal.enter-requires-clause-few
enter-requires-clause-few c =
    let b = c.self.inside in
    few-grants b.store.value b.grants b.repair_cursor b.limit (base_world b.base) b.history.items c.self.invariant (rw (← c.self.view_is) at c.requires.room)

pub invariant_of-self : goal.invariant_of-self
invariant_of-self c =
    (rw c.deref_mut.ensures.value at c.enter.ensures.kept) c.self.inside.limit c.self.invariant (rw (← c.self.view_is) at c.requires.room)
