use Rattle.std.proofs.Common.{◌≡◌, List, ℕ, Some, IfSome, true, sym, ap, subst, ◌∙◌}
use Rattle.lrc_code.specs.Losses.{bits_set}
use Rattle.lrc_coding.specs.Answers.{IsNumberOf, IsMissing}
use Rattle.lrc_coding.proofs.AnswerLemmas.{answered}
use Rattle.lrc_coding.proofs.recipes.recipe_for.Goals as goal

pub returns : goal.returns
returns c =
    let bits = c.from_bits-losses.result.bits in
    let f = c.in_ok-fragment.fragment in
    let there : c.args.mask ≡ Some bits = c.in_ok-ok_or.ensures.ok_part ∙ ap Some (sym c.from_bits-losses.ensures) in
    let named : IsNumberOf c.args.code c.as_bytes.result.now f.value =
    subst (λ o. IfSome o (λ g. IsNumberOf c.args.code c.as_bytes.result.now g.value)) c.in_ok-fragment.ensures.ok_part c.parse_fragment.ensures.some in
    let lost : bits_set bits f.value ≡ true = sym c.contains.ensures ∙ c.if-not-contains.false in
    let missing : IsMissing c.args.code bits c.args.word.now f.value = (subst (λ (word : List ℕ). IsNumberOf c.args.code word f.value) c.as_bytes.ensures.value named, lost) in
    let told = answered c.args.code bits c.args.word.now f c.of.result missing c.of.ensures.recipe c.of.ensures.some in
    rw (there, c.ok_or-3.ensures.value) told
