use Rattle.std.proofs.Common.{◌≡◌, ℕ, ◌+◌, ◌<◌, List, ◌++◌, length, get_or, take, map, codes, sym, ap, ◌∙◌, append_assoc}
use Rattle.std.proofs.lemmas.List.{take_all, map_more, flat_map_more}
use Rattle.lrc_image_text.specs.Lines.{spaced}
use Rattle.lrc_image_text.proofs.word.push_words.Goals as goal

-- one more word, and the space before it
more : {W : Type 0} (word : W → List ℕ) (old now apart next : List ℕ) (xs : List W) (i : ℕ) (x : W) → i < length xs → x ≡ get_or xs i x
    → now ≡ old ++ spaced (map word (take i xs)) → apart ≡ now ++ codes " " → next ≡ apart ++ word x → next ≡ old ++ spaced (map word (take (i + 1) xs))
more word old now apart next xs i x within item so space added =
    let before = map word (take i xs) in
    added ∙ ap (λ t. t ++ word x) (space ∙ ap (λ t. t ++ codes " ") so) ∙ append_assoc (old ++ spaced before) (codes " ") (word x)
    ∙ ap (λ y. (old ++ spaced before) ++ (codes " " ++ word y)) item ∙ flat_map_more (λ w. codes " " ++ w) old before (word (get_or xs i x))
    ∙ ap (λ ws. old ++ spaced ws) (sym (map_more word xs i x within))

pub loop-word-preserved : goal.loop-word-preserved
loop-word-preserved g c =
    more g.W.Word.word c.args.out.now.items c.loop-word.out.items c.extend_from_slice.new.self.items c.push_to.new.out.items c.args.words.now c.loop-word.word-index c.word-item.result
    c.loop-word-test.true c.word-item.is c.loop-word.invariant c.in_ok-extend_from_slice.ensures.items c.in_ok-push_to.ensures

pub returns : goal.returns
returns g c = c.loop-word.invariant ∙ ap (λ words. c.args.out.now.items ++ spaced (map g.W.Word.word words)) (take_all c.loop-word.word-index c.args.words.now c.loop-word-test.false)
