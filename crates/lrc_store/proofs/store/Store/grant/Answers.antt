use Rattle.lrc_store.proofs.EndLemmas.{grant-may}
use Rattle.lrc_store.proofs.store.Store.grant.Goals as goal

pub add_lease-requires : goal.add_lease-requires
add_lease-requires g c = (g.st, c.requires.0, grant-may g.st c.args.self.now c.requires.0 c.args.lease.now c.requires.1)

pub returns-clause-kept : goal.returns-clause-kept
returns-clause-kept g c =
    c.add_lease.ensures.kept g.st c.requires.0 (grant-may g.st c.args.self.now c.requires.0 c.args.lease.now c.requires.1)
