use Rattle.std.proofs.Common.{[], ◌∷◌, codes, refl}
use Rattle.lrc_script.proofs.FrontLemmas.{has, is, no_command-but, no_line-numbers}
use Rattle.lrc_script.proofs.front.parse_command.Goals as goal

pub returns-in-None-clause-none : goal.returns-in-None-clause-none
returns-in-None-clause-none g c =
    no_command-but c.args.text.now (has 0 97 ∷ []) (is _ 97 c.in-97.is, tt) (codes "abandon") (4096 ∷ 16 ∷ 4294967296 ∷ []) refl refl
    (no_line-numbers c.args.text.now (codes "abandon") 4096 (16 ∷ 4294967296 ∷ []) c.in-None.ensures.none)

pub returns-in-None-node_behind-clause-none : goal.returns-in-None-node_behind-clause-none
returns-in-None-node_behind-clause-none g c =
    no_command-but c.args.text.now (has 0 102 ∷ []) (is _ 102 c.in-102.is, tt) (codes "fail") (65536 ∷ []) refl refl
    (no_line-numbers c.args.text.now (codes "fail") 65536 [] c.in-None-node_behind.ensures.none)

pub returns-in-None-node_behind-2-clause-none : goal.returns-in-None-node_behind-2-clause-none
returns-in-None-node_behind-2-clause-none g c =
    no_command-but c.args.text.now (has 0 106 ∷ []) (is _ 106 c.in-106.is, tt) (codes "join") (65536 ∷ []) refl refl
    (no_line-numbers c.args.text.now (codes "join") 65536 [] c.in-None-node_behind-2.ensures.none)

pub returns-in-None-pair_behind-clause-none : goal.returns-in-None-pair_behind-clause-none
returns-in-None-pair_behind-clause-none g c =
    no_command-but c.args.text.now (has 0 108 ∷ []) (is _ 108 c.in-108.is, tt) (codes "lease") (4096 ∷ 16 ∷ []) refl refl
    (no_line-numbers c.args.text.now (codes "lease") 4096 (16 ∷ []) c.in-None-pair_behind.ensures.none)
