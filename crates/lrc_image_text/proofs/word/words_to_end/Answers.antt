use Rattle.std.proofs.Common.{◌≡◌, ◌∙◌, ◌+◌, ◌<◌, nat_eq, ℕ, List, ◌∷◌, ◌++◌, length, map, take, set, sym, ap, subst, arith}
use Rattle.std.proofs.lemmas.List.{take_more_set, length-set}
use Rattle.std.proofs.lemmas.List.Elements.{All-push}
use Rattle.lrc_image_text.specs.Fronts.{end_byte, spaced_on}
use Rattle.lrc_image_text.proofs.SpacedLemmas.{spaced_on-next, only_next, none_there, inner}
use Rattle.lrc_image_text.proofs.word.words_to_end.Goals as goal

pub loop-at-preserved : goal.loop-at-preserved
loop-at-preserved g c =
    let word = g.W.Word.word in
    let words = c.loop-at.words in
    let at = c.loop-at.at in
    let before = c.loop-at.invariant in
    let within : at < length words = c.loop-at-test.true in
    let space = ap (λ b. b ∷ c.loop-at.rest.now) (inner at (length words) within) in
    let read = c.in-Some.ensures.some in
    let long = length-set words at c.read_word.new.word in
    record {
      within = omega (arith, within, long);
      size = long ∙ before.size;
      fits = rw (take_more_set words at c.read_word.new.word within) (All-push g.W.Word.fits (take at words) c.read_word.new.word before.fits read.0);
      text_is = subst (λ n. 32 ∷ c.args.text.now ≡ spaced_on (map word (take (at + 1) (set words at c.read_word.new.word))) (end_byte (nat_eq (at + 1) n) ∷ c.in-Some.behind.now)) (sym long)
          (spaced_on-next word c.args.text.now c.loop-at.rest.now c.in-Some.behind.now words at c.read_word.new.word (end_byte (nat_eq (at + 1) (length words))) within
          (before.text_is ∙ ap (λ t. spaced_on (map word (take at words)) t) space) read.1);
      only = λ ws more size all is.
          only_next word g.W.Word.fits c.loop-at.rest.now c.in-Some.behind.now ws at (length (set words at c.read_word.new.word)) c.read_word.new.word more (omega (arith, within, size, long)) size all
          (subst (λ n. (v : g.row.W.Denot) (r : List ℕ) → g.W.Word.fits v → c.loop-at.rest.now ≡ word v ++ end_byte (nat_eq (at + 1) n) ∷ r → r ≡ c.in-Some.behind.now) (sym long) c.in-Some.ensures.only)
          (sym space ∙ before.only ws more (size ∙ long) all is);
    }

pub returns-in-None-clause-none : goal.returns-in-None-clause-none
returns-in-None-clause-none g c = λ ws rest size all is.
    let words = c.loop-at.words in
    let at = c.loop-at.at in
    let before = c.loop-at.invariant in
    let within : at < length words = c.loop-at-test.true in
    let space = ap (λ b. b ∷ c.loop-at.rest.now) (inner at (length words) within) in
    none_there g.W.Word.word g.W.Word.fits c.loop-at.rest.now ws at (length words) c.index-words-at.result rest (omega (arith, within, size, before.size)) (size ∙ sym before.size) all
    c.in-None.ensures.none (sym space ∙ before.only ws rest (size ∙ sym before.size) all is)
