use Rattle.lrc_homes.proofs.losses.Losses.all.Goals as goal

pub returns-clause-all : goal.returns-clause-all
returns-clause-all c = record { homeless = c.all_of-all.ensures; missing = c.all_of-all.ensures; needs = c.all_of-all.ensures }
