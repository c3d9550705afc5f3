use Rattle.std.proofs.Common.{◌<◌, ◌+◌, ◌++◌, ℕ, List, length, drop, replicate, ap, ◌∙◌}
use Rattle.lrc_script.proofs.CutLemmas.{drop_ends}
use Rattle.lrc_script.proofs.script.end_line.Goals as goal

pub returns : goal.returns
returns c =
    let n = length c.args.line.now in
    let within : n < 27 = c.requires in
    let ends : List ℕ = replicate 27 10 in
    (drop (n + 1) ends, ap (λ t. t ++ drop n ends) c.copy_from_slice.ensures.after ∙ ap (λ t. c.args.line.now ++ t) (drop_ends n within))
