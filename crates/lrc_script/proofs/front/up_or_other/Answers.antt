use Rattle.std.proofs.Common.{[], ◌∷◌, codes, refl}
use Rattle.lrc_script.proofs.FrontLemmas.{has, is, no_command-but, no_line-numbers}
use Rattle.lrc_script.proofs.front.up_or_other.Goals as goal

pub returns-in-None-clause-none : goal.returns-in-None-clause-none
returns-in-None-clause-none c =
    no_command-but c.args.text.now (has 0 117 ∷ has 2 32 ∷ []) (is _ 117 c.requires.first, (is _ 32 c.in-32.is, tt)) (codes "up") (65536 ∷ []) refl refl
    (no_line-numbers c.args.text.now (codes "up") 65536 [] c.in-None.ensures.none)

pub returns-in-None-node_behind-clause-none : goal.returns-in-None-node_behind-clause-none
returns-in-None-node_behind-clause-none c =
    no_command-but c.args.text.now (has 0 117 ∷ has 2 100 ∷ []) (is _ 117 c.requires.first, (is _ 100 c.in-100.is, tt)) (codes "undrain") (65536 ∷ []) refl refl
    (no_line-numbers c.args.text.now (codes "undrain") 65536 [] c.in-None-node_behind.ensures.none)
