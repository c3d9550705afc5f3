use Rattle.std.proofs.Common.{rules, ◌≢◌, [], ◌∷◌, get_or, codes, refl}
use Rattle.lrc_script.proofs.FrontLemmas.{has, lacks, is, is_not, no_command-but, no_line-numbers}
use Rattle.lrc_script.proofs.front.revoke_or_retire.Goals as goal

pub returns-in-None-clause-none : goal.returns-in-None-clause-none
returns-in-None-clause-none c =
    no_command-but c.args.text.now (has 0 114 ∷ has 2 118 ∷ []) (is _ 114 c.requires.first, (is _ 118 c.in-118.is, tt)) (codes "revoke") (4096 ∷ 16 ∷ []) refl refl
    (no_line-numbers c.args.text.now (codes "revoke") 4096 (16 ∷ []) c.in-None.ensures.none)

pub returns-in-None-node_behind-clause-none : goal.returns-in-None-node_behind-clause-none
returns-in-None-node_behind-clause-none c =
    let other : get_or c.args.text.now 2 0 ≢ 118 = search rules in
    no_command-but c.args.text.now (has 0 114 ∷ lacks 2 118 ∷ []) (is _ 114 c.requires.first, (is_not _ 118 other, tt)) (codes "retire") (65536 ∷ []) refl refl
    (no_line-numbers c.args.text.now (codes "retire") 65536 [] c.in-None-node_behind.ensures.none)
