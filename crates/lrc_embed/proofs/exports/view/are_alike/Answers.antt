use Rattle.std.proofs.Common.{◌≡◌, sym, ◌∙◌}
use Rattle.std.proofs.lemmas.Slice.Eq.{slice_eq-Decides}
use Rattle.lrc_embed.proofs.SameNodes.{node-Decides}
use Rattle.lrc_embed.proofs.exports.view.are_alike.Goals as goal

pub returns : goal.returns
returns c =
    let same = slice_eq-Decides node-Decides c.as_slice.result.now c.as_slice-2.result.now _ c.eq.ensures in
    let others : c.as_slice.result.now ≡ c.args.other.now = c.as_slice.ensures.value ∙ c.in_ok-others.ensures in
    let ones : c.as_slice-2.result.now ≡ c.args.one.now = c.as_slice-2.ensures.value ∙ c.in_ok-ones.ensures in
    (λ yes. sym others ∙ same.0 yes ∙ ones, λ is. same.1 (others ∙ is ∙ sym ones))
