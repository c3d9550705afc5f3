-- Of which codes no stripe can be placed on a list of nodes, and the lines that say so.
use Rattle.std.specs.Prelude.{ℕ, max, Bool, ◌||◌, if◌then◌else◌, nat_lt, nat_eq, List, [], ◌++◌, length, map, codes, decimal}
use Rattle.std.specs.Set.{distinct_count}
use Rattle.lrc_code.specs.declared.codes.Code.{Code}
use Rattle.lrc_code.specs.declared.codes.Code.TheVariants.{Wide, Narrow}
use Rattle.lrc_code.specs.declared.codes.Class.TheVariants.{A, B, G}
use Rattle.lrc_code.specs.Codes.{fragment_count, code_name, members}
use Rattle.lrc_topology.specs.declared.NodeInfo.{NodeInfo}
use Rattle.lrc_warnings.specs.declared.domains.Domains.{Domains}

-- how many different fault domains the nodes are in, and how many different upgrade domains
abbrev pub domains_of : List NodeInfo → Domains
domains_of nodes =
    record { faults = distinct_count nat_eq (map (λ n. n.fault.value) nodes); upgrades = distinct_count nat_eq (map (λ n. n.upgrade.value) nodes) }

-- how many domains a stripe of the code needs: a fault domain for each fragment, and as many upgrade domains as its largest class has fragments
abbrev pub needed_domains : Code → Domains
needed_domains code = record { faults = fragment_count code; upgrades = max (length (members code A)) (max (length (members code B)) (length (members code G))) }

-- a stripe of the code needs more domains than these
abbrev pub are_too_few : Code → Domains → Bool
are_too_few code domains = nat_lt domains.faults (needed_domains code).faults || nat_lt domains.upgrades (needed_domains code).upgrades

-- the line that says of a code that there are too few domains, for its name, the domains that there are and those that a stripe needs
abbrev pub shortage_line : List ℕ → Domains → Domains → List ℕ
shortage_line name found needed =
    codes "lrcman: no " ++ name ++ codes " stripe can be placed: " ++ decimal found.faults ++ codes " of " ++ decimal needed.faults ++ codes " fault domains, "
    ++ decimal found.upgrades ++ codes " of " ++ decimal needed.upgrades ++ codes " upgrade domains\n"

-- the warning of a code: that line, if there are too few
abbrev pub warning : Code → Domains → List ℕ
warning code domains = if are_too_few code domains then shortage_line (code_name code) domains (needed_domains code) else []

-- what is warned of nodes: the warnings of both codes
abbrev pub warnings : List NodeInfo → List ℕ
warnings nodes = warning Wide (domains_of nodes) ++ warning Narrow (domains_of nodes)
