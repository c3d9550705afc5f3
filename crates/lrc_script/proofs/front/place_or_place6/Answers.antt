use Rattle.std.proofs.Common.{rules, ◌≢◌, [], ◌∷◌, get_or, codes, refl}
use Rattle.lrc_script.proofs.FrontLemmas.{has, lacks, is, is_not, no_command-but, no_line-numbers}
use Rattle.lrc_script.proofs.front.place_or_place6.Goals as goal

pub returns-in-None-clause-none : goal.returns-in-None-clause-none
returns-in-None-clause-none c =
    no_command-but c.args.text.now (has 0 112 ∷ has 5 32 ∷ []) (is _ 112 c.requires.first, (is _ 32 c.in-32.is, tt)) (codes "place") (4096 ∷ []) refl refl
    (no_line-numbers c.args.text.now (codes "place") 4096 [] c.in-None.ensures.none)

pub returns-in-None-stripe_behind-clause-none : goal.returns-in-None-stripe_behind-clause-none
returns-in-None-stripe_behind-clause-none c =
    let other : get_or c.args.text.now 5 0 ≢ 32 = search rules in
    no_command-but c.args.text.now (has 0 112 ∷ lacks 5 32 ∷ []) (is _ 112 c.requires.first, (is_not _ 32 other, tt)) (codes "place6") (4096 ∷ []) refl refl
    (no_line-numbers c.args.text.now (codes "place6") 4096 [] c.in-None-stripe_behind.ensures.none)
