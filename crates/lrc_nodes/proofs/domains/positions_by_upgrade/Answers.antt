use Rattle.lrc_nodes.specs.Kept.{AreDomains}
use Rattle.std.proofs.Common.{List, Bool, sym, subst}
use Rattle.lrc_nodes.proofs.FirstLemmas.{domains-none}
use Rattle.lrc_nodes.proofs.domains.positions_by_upgrade.Goals as goal

pub loop-position-init : goal.loop-position-init
loop-position-init c = subst (λ (sets : List (List Bool)). AreDomains c.args.nodes.now.items 0 sets) (sym c.in_ok-domains.ensures) (domains-none c.args.nodes.now.items)
