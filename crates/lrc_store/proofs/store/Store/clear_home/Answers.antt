use Rattle.std.proofs.Common.{sym, ◌∙◌}
use Rattle.lrc_store.proofs.ClearLemmas.{own-kept, clear-taken, clear-kept, clear-none}
use Rattle.lrc_store.proofs.store.Store.clear_home.Goals as goal

pub free-requires : goal.free-requires
free-requires c = clear-taken c.requires.tied.0 c.args.self.now c.requires.tied.1 c.args.stripe c.args.fragment c.in-Some.seat (sym c.home.ensures ∙ c.in-Some.is)

pub clear_home-requires-clause-code : goal.clear_home-requires-clause-code
clear_home-requires-clause-code c =
    own-kept c.requires.tied.0 c.args.self.now c.requires.tied.1 c.args.stripe c.args.fragment c.in-Some.seat (sym c.home.ensures ∙ c.in-Some.is)

pub returns-in-Some-clause-kept : goal.returns-in-Some-clause-kept
returns-in-Some-clause-kept c = λ st kept.
    clear-kept st c.args.self.now kept c.args.stripe c.args.fragment c.in-Some.seat (sym c.home.ensures ∙ c.in-Some.is) c.free.new.self c.clear_home.new.self c.free.ensures c.clear_home.ensures

pub returns-in_default-clause-kept : goal.returns-in_default-clause-kept
returns-in_default-clause-kept c = λ st kept. clear-none st c.args.self.now kept c.args.stripe c.args.fragment (sym c.home.ensures ∙ c.in_default.is)
