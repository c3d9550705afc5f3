-- The table of capacity: how many more stripes of each code the rules place, and why no more.
use Rattle.std.specs.Prelude.{ℕ, not, List, [], ◌∷◌, ◌++◌, codes, decimal, filter, Option, Some, None}
use Rattle.lrc_code.specs.declared.codes.Code.{Code}
use Rattle.lrc_code.specs.declared.codes.Code.TheVariants.{Wide, Narrow}
use Rattle.lrc_code.specs.declared.numbers.StripeNo.{StripeNo}
use Rattle.lrc_code.specs.Codes.{code_name}
use Rattle.lrc_topology.specs.declared.NodeInfo.{NodeInfo}
use Rattle.lrc_rules.specs.States.{State, has_stripe}
use Rattle.lrc_book.specs.Looks.{stripe_numbers}
use Rattle.lrc_capacity.specs.declared.capacity.Capacity.{Capacity}
use Rattle.lrc_capacity.specs.declared.shortage.Shortage.{Shortage}
use Rattle.lrc_capacity.specs.Capacities.{capacity}
use Rattle.lrc_text.specs.Tables.{table_line}

-- the numbers that no stripe has, in rising order
abbrev pub unused : State → List StripeNo
unused st = filter (λ s. not (has_stripe st s)) stripe_numbers

-- how many more stripes of the code are placed, with unused numbers in rising order
unfoldable pub capacity_for : List NodeInfo → State → Code → Capacity
capacity_for nodes st code = capacity nodes st code (unused st)

-- the fragment that then has no node, and how many nodes each condition rules out; nothing where no stripe is refused
abbrev pub shortage_fields : Option Shortage → List (List ℕ)
shortage_fields (Some s) =
    decimal s.fragment.value ∷ decimal s.not_active ∷ decimal s.offline ∷ decimal s.full
    ∷ decimal s.fault_domain ∷ decimal s.upgrade_domain ∷ []
shortage_fields None = [] ∷ [] ∷ [] ∷ [] ∷ [] ∷ [] ∷ []

-- the row of a code of which so many are placed, where so many slots stay free
abbrev pub capacity_line : Code → ℕ → Option Shortage → ℕ → List ℕ
capacity_line code stripes why free = table_line (code_name code ∷ decimal stripes ∷ shortage_fields why ++ decimal free ∷ [])

-- the row of a code
abbrev pub capacity_row : Code → Capacity → List ℕ
capacity_row code c = capacity_line code c.stripes c.shortage c.free_slots

-- a row for each code
abbrev pub capacity_table : List NodeInfo → State → List ℕ
capacity_table nodes st =
    codes "code,stripes,fragment,not_active,offline,full,fault_domain,upgrade_domain,free_slots\n"
    ++ capacity_row Wide (capacity_for nodes st Wide) ++ capacity_row Narrow (capacity_for nodes st Narrow)
