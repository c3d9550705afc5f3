use Rattle.std.proofs.Common.{◌≡◌, ℕ, ◌+◌, ◌<◌, List, [], ◌++◌, length, get_or, take, sym, ap, ◌∙◌}
use Rattle.std.specs.Prelude.{flat_map}
use Rattle.std.proofs.lemmas.List.{take_all, take_more, flat_map_more}
use Rattle.lrc_groups.specs.Groups.{named_nodes}
use Rattle.lrc_groups.proofs.group.numbers_in.Goals as goal

-- one more element
more : {X A : Type 0} (f : X → List A) (now next : List A) (xs : List X) (i : ℕ) (d : X) → i < length xs → now ≡ flat_map f (take i xs)
    → next ≡ now ++ f (get_or xs i d) → next ≡ flat_map f (take (i + 1) xs)
more f now next xs i d within so added =
    added ∙ ap (λ ys. ys ++ f (get_or xs i d)) so ∙ flat_map_more f [] (take i xs) (get_or xs i d) ∙ ap (flat_map f) (sym (take_more xs i d within))

pub loop-one-preserved : goal.loop-one-preserved
loop-one-preserved c =
    more (named_nodes c.args.topology.now) c.loop-one.numbers.items c.push_numbers.new.numbers.items c.args.named.now c.loop-one.one-index _ c.loop-one-test.true
    c.loop-one.invariant c.in_ok-push_numbers.ensures

pub returns : goal.returns
returns c = c.loop-one.invariant ∙ ap (flat_map (named_nodes c.args.topology.now)) (take_all c.loop-one.one-index c.args.named.now c.loop-one-test.false)
