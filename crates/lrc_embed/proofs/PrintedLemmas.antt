-- The line of one entry, and a text that is put into a buffer.
use Rattle.std.proofs.Common.{◌≡◌, ℕ, zero, suc, ◌+◌, ◌-◌, ◌<◌, Some, List, [], ◌∷◌, length, take, drop, refl, ap, subst, ◌∙◌, append-nil, arith}
use Rattle.std.specs.List.{slice_get, slice_range}
use Rattle.lrc_rules.specs.declared.entry.Entry.{Entry}
use Rattle.lrc_text.specs.Texts.{reply_line, lines_from}
use Rattle.lrc_embed.specs.Printed.{IsTextPut, IsTooLong}

one_taken : (number : ℕ) (h : List Entry) (i : ℕ) → i < length h
    → (e : Entry) × (slice_get h i ≡ Some e) × (lines_from number (take 1 (drop i h)) ≡ reply_line number e.reply)
one_taken number [] i within = absurd (omega (arith, within))
one_taken number (e ∷ es) zero within = (e, refl, append-nil (reply_line number e.reply))
one_taken number (e ∷ es) (suc i) within = one_taken number es i (omega (arith, within))

-- the lines of the entry at an index alone
pub one_line : (number : ℕ) (h : List Entry) (i : ℕ) → i < length h
    → (e : Entry) × (slice_get h i ≡ Some e) × (lines_from number (slice_range h i (i + 1)) ≡ reply_line number e.reply)
one_line number h i within =
    let one = one_taken number h i within in
    let alone : i + 1 - i ≡ 1 = omega arith in
    (one.0, one.1, ap (λ (n : ℕ). lines_from number (take n (drop i h))) alone ∙ one.2)

-- what is put is this text
pub put_other : (text other before after : List ℕ) (n : ℕ) → other ≡ text → IsTextPut other before after n → IsTextPut text before after n
put_other text other before after n is put = subst (λ (t : List ℕ). IsTextPut t before after n) is put

pub too_long_other : (text other before : List ℕ) (n : ℕ) → other ≡ text → IsTooLong other before n → IsTooLong text before n
too_long_other text other before n is long = subst (λ (t : List ℕ). IsTooLong t before n) is long
