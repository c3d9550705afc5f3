use Rattle.std.proofs.Common.{sym, ◌∙◌}
use Rattle.lrc_store.proofs.ClearLemmas.{clear-taken, clear-none, free-kept}
use Rattle.lrc_store.proofs.store.Store.free_home.Goals as goal

pub free-requires : goal.free-requires
free-requires c =
    clear-taken c.requires.tied.0 c.args.self.now c.requires.tied.1 c.args.stripe c.args.fragment c.in-Some.seat (sym c.home.ensures ∙ c.in-Some.is)

pub returns-in-Some-clause-table : goal.returns-in-Some-clause-table
returns-in-Some-clause-table c = λ st kept.
    free-kept st c.args.self.now kept c.args.stripe c.args.fragment c.in-Some.seat (sym c.home.ensures ∙ c.in-Some.is) c.free.new.self c.free.ensures

pub returns-in_default-clause-table : goal.returns-in_default-clause-table
returns-in_default-clause-table c = λ st kept.
    (clear-none st c.args.self.now kept c.args.stripe c.args.fragment (sym c.home.ensures ∙ c.in_default.is)).table_is
