use Rattle.std.proofs.Common.{rules, ◌≢◌, [], ◌∷◌, get_or, codes, refl}
use Rattle.lrc_script.proofs.FrontLemmas.{has, lacks, is, is_not, no_command-but, no_line-numbers}
use Rattle.lrc_script.proofs.front.done_or_other.Goals as goal

pub returns-in-None-clause-none : goal.returns-in-None-clause-none
returns-in-None-clause-none c =
    no_command-but c.args.text.now (has 0 100 ∷ has 2 110 ∷ []) (is _ 100 c.requires.first, (is _ 110 c.in-110.is, tt)) (codes "done") (4096 ∷ 16 ∷ 4294967296 ∷ []) refl refl
    (no_line-numbers c.args.text.now (codes "done") 4096 (16 ∷ 4294967296 ∷ []) c.in-None.ensures.none)

pub returns-in-None-stripe_behind-clause-none : goal.returns-in-None-stripe_behind-clause-none
returns-in-None-stripe_behind-clause-none c =
    no_command-but c.args.text.now (has 0 100 ∷ has 2 111 ∷ []) (is _ 100 c.requires.first, (is _ 111 c.in-111.is, tt)) (codes "drop") (4096 ∷ []) refl refl
    (no_line-numbers c.args.text.now (codes "drop") 4096 [] c.in-None-stripe_behind.ensures.none)

pub returns-in-None-node_behind-clause-none : goal.returns-in-None-node_behind-clause-none
returns-in-None-node_behind-clause-none c =
    no_command-but c.args.text.now (has 0 100 ∷ has 2 119 ∷ []) (is _ 100 c.requires.first, (is _ 119 c.in-119.is, tt)) (codes "down") (65536 ∷ []) refl refl
    (no_line-numbers c.args.text.now (codes "down") 65536 [] c.in-None-node_behind.ensures.none)

pub returns-in-None-node_behind-2-clause-none : goal.returns-in-None-node_behind-2-clause-none
returns-in-None-node_behind-2-clause-none c =
    let other_n : get_or c.args.text.now 2 0 ≢ 110 = search rules in
    let other_o : get_or c.args.text.now 2 0 ≢ 111 = search rules in
    let other_w : get_or c.args.text.now 2 0 ≢ 119 = search rules in
    no_command-but c.args.text.now (has 0 100 ∷ lacks 2 110 ∷ lacks 2 111 ∷ lacks 2 119 ∷ []) (is _ 100 c.requires.first, (is_not _ 110 other_n, (is_not _ 111 other_o, (is_not _ 119 other_w, tt)))) (codes "drain") (65536 ∷ []) refl refl
    (no_line-numbers c.args.text.now (codes "drain") 65536 [] c.in-None-node_behind-2.ensures.none)
