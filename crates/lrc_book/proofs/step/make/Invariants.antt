use Rattle.lrc_book.proofs.step.make.Given as goal

abbrev pub ghost-make_change : goal.ghost-make_change
ghost-make_change g a = g.st

abbrev pub ghost-grant : goal.ghost-grant
ghost-grant g a = g.st
