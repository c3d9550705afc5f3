-- Whether a node is online, as a book shows its mode.
use Rattle.std.proofs.Common.{◌≡◌, Bool, false, List, Option, Some, None, option_map, refl, ap, ◌∙◌}
use Rattle.std.specs.Option.{option_map_or}
use Rattle.lrc_code.specs.declared.numbers.NodeNo.{NodeNo}
use Rattle.lrc_topology.specs.declared.NodeInfo.{NodeInfo}
use Rattle.lrc_topology.specs.Nodes.{node_at}
use Rattle.lrc_terms.specs.declared.mode.Mode.{Mode}
use Rattle.lrc_rules.specs.States.{State, mode_of, is_online, online_at, mode_shown}

module _ (nodes : List NodeInfo) (st : State) (n : NodeNo) where
  by : (o : Option NodeInfo) → option_map_or (λ (p : Mode × Bool). p.1) (option_map (λ m. (mode_of st m.number, is_online st m)) o) false ≡ option_map_or (is_online st) o false
  by None = refl
  by (Some m) = refl

  shown-online : (o : Option (Mode × Bool)) → o ≡ mode_shown nodes st n → option_map_or (λ (p : Mode × Bool). p.1) o false ≡ online_at nodes st n
  shown-online o is = ap (λ (x : Option (Mode × Bool)). option_map_or (λ (p : Mode × Bool). p.1) x false) is ∙ by (node_at nodes n)

  pub online-some : (p : Mode × Bool) → Some p ≡ mode_shown nodes st n → p.1 ≡ online_at nodes st n
  online-some p is = shown-online (Some p) is

  pub online-none : None ≡ mode_shown nodes st n → false ≡ online_at nodes st n
  online-none is = shown-online None is
