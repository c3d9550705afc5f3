use Rattle.std.proofs.Common.{◌≡◌, ℕ, ◌+◌, ◌<◌, List, [], ◌∷◌, ◌++◌, length, get_or, take, map, sym, ap, ◌∙◌, append_assoc}
use Rattle.std.proofs.lemmas.List.{take_all, map_more}
use Rattle.lrc_code.specs.declared.numbers.NodeNo.{NodeNo}
use Rattle.lrc_topology.specs.declared.NodeInfo.{NodeInfo}
use Rattle.lrc_groups.proofs.group.push_upgrade.Goals as goal

-- one more element
more : {X A : Type 0} (f : X → A) (old now next : List A) (xs : List X) (i : ℕ) (d : X) → i < length xs → now ≡ old ++ map f (take i xs)
    → next ≡ now ++ f (get_or xs i d) ∷ [] → next ≡ old ++ map f (take (i + 1) xs)
more f old now next xs i d within so added =
    added ∙ ap (λ ys. ys ++ f (get_or xs i d) ∷ []) so ∙ append_assoc old (map f (take i xs)) (f (get_or xs i d) ∷ []) ∙ ap (λ ys. old ++ ys) (sym (map_more f xs i d within))

abbrev number : NodeInfo → NodeNo
number n = n.number

pub loop-node-preserved : goal.loop-node-preserved
loop-node-preserved c =
    more number c.args.numbers.now.items c.loop-node.numbers.items c.push.new.self.items c.nodes_in-node-items.result.now c.loop-node.node-index _ c.loop-node-test.true
    c.loop-node.invariant c.in_ok-push.ensures.items

pub returns : goal.returns
returns c =
    c.loop-node.invariant
    ∙ ap (λ (nodes : List NodeInfo). c.args.numbers.now.items ++ map number nodes)
    (take_all c.loop-node.node-index c.nodes_in-node-items.result.now c.loop-node-test.false ∙ c.nodes_in-node-items.ensures)
