use Rattle.std.proofs.Common.{◌≡◌, ◌+◌, ◌++◌, List, [], ◌∷◌, take, string_bytes, ap, ◌∙◌}
use Rattle.std.proofs.lemmas.List.{take_all}
use Rattle.lrc_code.specs.declared.numbers.Fragment.{Fragment}
use Rattle.lrc_show.specs.Listed.{fragments_field}
use Rattle.lrc_show.proofs.FieldLemmas.{number-added, not-start, item-more}
use Rattle.lrc_show.proofs.words.push_fragments.Goals as goal

pub loop-fragment-preserved : goal.loop-fragment-preserved
loop-fragment-preserved c =
    let xs = c.args.fragments.now in
    let i = c.loop-fragment.fragment-index in
    let f = c.fragment-item.result in
    let more : take (i + 1) xs ≡ take i xs ++ f ∷ [] = item-more xs i f c.loop-fragment-test.true c.fragment-item.is in
    record {
      told = number-added (take i xs) (take (i + 1) xs) f more (string_bytes c.args.out.now) (string_bytes c.loop-fragment.out) c.loop-fragment.is_first _
          c.loop-fragment.invariant.told c.loop-fragment.invariant.first c.in_ok-push_number.ensures;
      first = not-start (take i xs) (take (i + 1) xs) f more;
    }

pub returns : goal.returns
returns c =
    c.loop-fragment.invariant.told
    ∙ ap (λ (fs : List Fragment). string_bytes c.args.out.now ++ fragments_field fs) (take_all c.loop-fragment.fragment-index c.args.fragments.now c.loop-fragment-test.false)
