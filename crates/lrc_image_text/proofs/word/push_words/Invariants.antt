use Rattle.std.proofs.Common.{◌≡◌, ◌++◌, map, take}
use Rattle.lrc_image_text.specs.Lines.{spaced}
use Rattle.lrc_image_text.proofs.word.push_words.Given as goal

abbrev pub invariant-loop-word : goal.invariant-loop-word
invariant-loop-word g l = l.out.items ≡ l.initial.out.items ++ spaced (map g.W.Word.word (take l.word-index l.words))
