-- What stands behind the last LF of a text.
use Rattle.std.proofs.Common.{◌≡◌, ℕ, ◌+◌, ◌<◌, Bool, true, false, cond, nat_eq, List, [], ◌∷◌, ◌++◌, length, get_or, take, drop, All, Option, Some, None, unwrap_or, refl, sym, ap, ◌∙◌, arith, length-drop}
use borrow.Author.Tests.{eqb-true}
use Rattle.std.specs.List.{onto_first, last_or}
use Rattle.std.proofs.lemmas.List.{get_or-drop, get_or_default, drop_more, take-append-drop}
use Rattle.std.proofs.lemmas.List.Splits.{slice_split-cons_yes, slice_split_none}
use Rattle.memchr.specs.Find.{Passes, Nowhere, IsLastByte, is_byte}
use Rattle.lrc_script.specs.Scripts.{lines_of}
use Rattle.lrc_script.proofs.ScriptLemmas.{not_so}
use Rattle.lrc_outputs.specs.Checks.{last_line}

abbrev is_end_byte : ℕ → Bool
is_end_byte b = nat_eq b 10

-- the last line is the same with one byte more in front
one_more : (b : Bool) (x : ℕ) (lines : List (List ℕ)) (head : List ℕ) (front : List (List ℕ)) (last : List ℕ) → lines ≡ head ∷ (front ++ last ∷ [])
    → (h : List ℕ) × (f : List (List ℕ)) × (cond b ([] ∷ lines) (onto_first x lines) ≡ h ∷ (f ++ last ∷ []))
one_more true x lines head front last is = ([], head ∷ front, ap (λ ls. [] ∷ ls) is)
one_more false x lines head front last is = (x ∷ head, front, ap (onto_first x) is)

behind_end : (before rest : List ℕ) → All (λ b. is_end_byte b ≡ false) rest → (head : List ℕ) × (front : List (List ℕ)) × (lines_of (before ++ 10 ∷ rest) ≡ head ∷ (front ++ rest ∷ []))
behind_end [] rest none = ([], [], slice_split-cons_yes is_end_byte 10 rest refl ∙ ap (λ ls. [] ∷ ls) (slice_split_none is_end_byte rest none))
behind_end (x ∷ before) rest none =
    let (head, front, is) = behind_end before rest none in
    one_more (is_end_byte x) x (lines_of (before ++ 10 ∷ rest)) head front rest is

last_or-end : (o : Option (List ℕ)) (front : List (List ℕ)) (last : List ℕ) → last_or o (front ++ last ∷ []) ≡ Some last
last_or-end o [] last = refl
last_or-end o (line ∷ front) last = last_or-end (Some line) front last

none_in : (text : List ℕ) (k : ℕ) → Nowhere (Passes (is_byte 10) text) k (length text) → All (λ b. is_end_byte b ≡ false) (drop k text)
none_in text k nowhere i d within =
    let inside : k + i < length text = omega (arith, within, length-drop k text) in
    let there = get_or-drop k text i d ∙ get_or_default text (k + i) d 0 inside in
    not_so (is_end_byte (get_or (drop k text) i d)) (λ e. nowhere (k + i) (omega arith) inside (ap is_end_byte (sym there) ∙ e))

-- the last line stands behind the last LF
pub last_line-behind : (text : List ℕ) (k : ℕ) → IsLastByte (is_byte 10) text (Some k) → last_line text ≡ drop (k + 1) text
last_line-behind text k (last, found) =
    let rest = drop (k + 1) text in
    let byte : get_or text k 0 ≡ 10 = eqb-true (get_or text k 0) 10 found in
    let parts : text ≡ take k text ++ 10 ∷ rest =
    sym (take-append-drop k text) ∙ ap (λ r. take k text ++ r) (drop_more text k 0 last.high ∙ ap (λ b. b ∷ rest) byte) in
    let (head, front, is) = behind_end (take k text) rest (none_in text (k + 1) last.after) in
    ap (λ ls. unwrap_or (last_or None ls) []) (ap lines_of parts ∙ is) ∙ ap (λ o. unwrap_or o []) (last_or-end (Some head) front rest)

-- a text without an LF is one line
pub last_line-whole : (text : List ℕ) → IsLastByte (is_byte 10) text None → last_line text ≡ text
last_line-whole text nowhere = ap (λ ls. unwrap_or (last_or None ls) []) (slice_split_none is_end_byte text (none_in text 0 nowhere))
