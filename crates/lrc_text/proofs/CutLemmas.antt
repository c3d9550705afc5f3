-- A text that is cut out between a space and the end of its line.
use Rattle.std.proofs.Common.{◌≡◌, ℕ, ◌+◌, ◌-◌, List, ◌++◌, length, take, drop, codes, sym, ap, ◌∙◌, arith, append_assoc, length-append, length-drop}
use Rattle.std.proofs.lemmas.List.{drop-drop}
use Rattle.std.proofs.Math.Seq.{take-append_seam}

module _ (room text rest : List ℕ) (start : ℕ) (written : drop start room ≡ (codes " " ++ (text ++ codes "\n")) ++ rest) where
  -- the text has a byte on each side
  pub ends_behind : start + (length text + 2) + length rest ≡ length room
  ends_behind = omega (arith, length-drop start room, ap length written, length-append (codes " " ++ (text ++ codes "\n")) rest, length-append text (codes "\n"))

  pub cut : (end : ℕ) → end + 1 ≡ length room → length rest ≡ 0 → take (end - (start + 1)) (drop (start + 1) room) ≡ text
  cut end last none =
      let long : end - (start + 1) ≡ length text = omega (arith, ends_behind) in
      ap (λ n. take n (drop (start + 1) room)) long
      ∙ (ap (take (length text)) (sym (drop-drop 1 start room) ∙ (ap (drop 1) written ∙ append_assoc text (codes "\n") rest))
      ∙ take-append_seam text (codes "\n" ++ rest))
