use Rattle.std.proofs.Common.{rules, ◌≢◌, [], ◌∷◌, get_or, codes, refl}
use Rattle.lrc_script.proofs.FrontLemmas.{has, lacks, is, is_not, no_command-but, no_line-numbers}
use Rattle.lrc_script.proofs.front.upgrade_or_upgraded.Goals as goal

pub returns-in-None-clause-none : goal.returns-in-None-clause-none
returns-in-None-clause-none c =
    no_command-but c.args.text.now (has 0 117 ∷ lacks 2 32 ∷ lacks 2 100 ∷ has 7 32 ∷ []) (is _ 117 c.requires.first, (is_not _ 32 c.requires.third.0, (is_not _ 100 c.requires.third.1, (is _ 32 c.in-32.is, tt)))) (codes "upgrade") (256 ∷ []) refl refl
    (no_line-numbers c.args.text.now (codes "upgrade") 256 [] c.in-None.ensures.none)

pub returns-in-None-domain_behind-clause-none : goal.returns-in-None-domain_behind-clause-none
returns-in-None-domain_behind-clause-none c =
    let other : get_or c.args.text.now 7 0 ≢ 32 = search rules in
    no_command-but c.args.text.now (has 0 117 ∷ lacks 2 32 ∷ lacks 2 100 ∷ lacks 7 32 ∷ []) (is _ 117 c.requires.first, (is_not _ 32 c.requires.third.0, (is_not _ 100 c.requires.third.1, (is_not _ 32 other, tt)))) (codes "upgraded") (256 ∷ []) refl refl
    (no_line-numbers c.args.text.now (codes "upgraded") 256 [] c.in-None-domain_behind.ensures.none)
