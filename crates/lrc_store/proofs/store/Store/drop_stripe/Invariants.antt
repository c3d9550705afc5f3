use Rattle.lrc_code.specs.Codes.{all_fragments}
use Rattle.lrc_store.specs.Dropping.{unleased}
use Rattle.lrc_store.proofs.store.Store.drop_stripe.Given as goal

abbrev pub ghost-end_leases : goal.ghost-end_leases
ghost-end_leases g a = g.st

abbrev pub ghost-free_homes : goal.ghost-free_homes
ghost-free_homes g a = unleased g.st a.stripe all_fragments
