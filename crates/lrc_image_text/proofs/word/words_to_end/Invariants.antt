use Rattle.std.proofs.Common.{◌≡◌, ◌≤◌, ◌-◌, ℕ, nat_eq, List, ◌∷◌, length, map, take, drop}
use Rattle.std.specs.List.{All}
use Rattle.lrc_image_text.specs.Fronts.{end_byte, spaced_on, words_on}
use Rattle.lrc_image_text.proofs.word.words_to_end.Given as goal

abbrev pub invariant-loop-at : goal.invariant-loop-at
invariant-loop-at g l = record {
  within : l.at ≤ length l.words;
  size : length l.words ≡ length l.initial.words;
  fits : All g.W.Word.fits (take l.at l.words);
  text_is : 32 ∷ l.text ≡ spaced_on (map g.W.Word.word (take l.at l.words)) (end_byte (nat_eq l.at (length l.words)) ∷ l.rest);
  only : (ws : List g.row.W.Denot) (more : List ℕ) → length ws ≡ length l.words → All g.W.Word.fits ws → 32 ∷ l.text ≡ words_on (map g.W.Word.word ws) more
      → end_byte (nat_eq l.at (length l.words)) ∷ l.rest ≡ spaced_on (map g.W.Word.word (drop l.at ws)) (10 ∷ more);
}

abbrev pub decreases-loop-at : goal.decreases-loop-at
decreases-loop-at g l = length l.words - l.at
