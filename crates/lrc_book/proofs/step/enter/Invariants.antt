use Rattle.lrc_rules.specs.Histories.{state_from}
use Rattle.lrc_book.specs.Books.{base_world}
use Rattle.lrc_book.proofs.step.enter.Given as goal

abbrev pub ghost-make : goal.ghost-make
ghost-make a = state_from a.store.now.topology (base_world a.base.now) a.past.now
