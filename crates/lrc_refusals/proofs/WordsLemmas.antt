-- The words can be told from the line.
use Rattle.std.proofs.Common.{◌≡◌, ℕ, zero, suc, ◌<◌, ◌==◌, inl, inr, Bool, true, false, ◌&&◌, if◌then◌else◌, nat_eq, List, [], ◌∷◌, ◌++◌, get_or, drop, codes, decimal, refl, ap, ◌∙◌, ◌≤◌, ◌+◌, ◌/◌, ◌%◌, append_assoc, arith}
use Rattle.std.specs.List.{list_all}
use Rattle.std.specs.Char.{is_ascii_digit}
use Rattle.std.specs.Fmt.{digit_glyph, digits_onto, digits}
use Rattle.std.proofs.Math.Nat.{mod-lt}
use Rattle.std.proofs.lemmas.Bool.{cases_Bool}
use Rattle.std.proofs.lemmas.Bool.Decides.{nat_tests}
use Rattle.std.proofs.lemmas.Fmt.{decimal_digit, decimal_step}
use Rattle.lrc_topology.specs.declared.error.TopologyError.{TopologyError}
use Rattle.lrc_topology.specs.declared.error.TopologyError.TheVariants as topology
use Rattle.lrc_images.specs.declared.cause.Cause.{Cause as RowCause}
use Rattle.lrc_images.specs.declared.cause.Cause.TheVariants as row
use Rattle.lrc_images.specs.CauseNumbers.{row_cause_number}
use Rattle.lrc_script.specs.declared.script.Cause.{Cause as LineCause}
use Rattle.lrc_script.specs.declared.script.Cause.TheVariants as cause
use Rattle.lrc_groups.specs.declared.named.Named.{Named}
use Rattle.lrc_groups.specs.declared.named.Named.TheVariants as named
use Rattle.lrc_refusals.specs.declared.refusal.InputRefusal.{InputRefusal}
use Rattle.lrc_refusals.specs.declared.refusal.InputRefusal.TheVariants as refusal
use Rattle.lrc_refusals.specs.Refusals.{cause_number, refusal_line, topology_words, line_words, row_words, input_refusal_words}

-- ---- what stands behind a number

pub past_digits : List ℕ → List ℕ
past_digits [] = []
past_digits (d ∷ ds) = if is_ascii_digit d then past_digits ds else d ∷ ds

both : (b c : Bool) → (b && c) ≡ true → (b ≡ true) × (c ≡ true)
both true c h = (refl, h)
both false c h = absurd (let no : false ≡ true = h in cc)

past-all : (ds rest : List ℕ) → list_all is_ascii_digit ds ≡ true → past_digits (ds ++ rest) ≡ past_digits rest
unfolding past_digits
past-all [] rest all = refl
past-all (d ∷ ds) rest all = let parts = both (is_ascii_digit d) (list_all is_ascii_digit ds) all in rw parts.0 (past-all ds rest parts.1)

digit-glyph : (d : ℕ) → d < 10 → is_ascii_digit (digit_glyph false d) ≡ true
digit-glyph d low = grind (arith, nat_tests)

-- a number of any size is written in digits
digits-own : (k n : ℕ) (acc : List ℕ) → list_all is_ascii_digit acc ≡ true → list_all is_ascii_digit (digits_onto k 10 false n acc) ≡ true
digits-own zero n acc all = all
digits-own (suc k) n acc all =
    let digit = digit-glyph (n % 10) (mod-lt n (omega arith)) in
    let more : list_all is_ascii_digit (digit_glyph false (n % 10) ∷ acc) ≡ true = rw (digit, all) refl in
    elim (cases_Bool (n / 10 == 0)) [
      | inl last ↦ rw last more
      | inr next ↦ rw next (digits-own k (n / 10) (digit_glyph false (n % 10) ∷ acc) more)
    ]

decimal-own : (n : ℕ) → list_all is_ascii_digit (decimal n) ≡ true
unfolding digits
decimal-own n = digits-own 64 n [] refl

past-decimal : (n : ℕ) (rest : List ℕ) → past_digits (decimal n ++ rest) ≡ past_digits rest
past-decimal n rest = past-all (decimal n) rest (decimal-own n)

-- ---- the words of a line

abbrev at : List ℕ → ℕ → ℕ
at text k = get_or text k 0

abbrev topology_words_at : ℕ → List ℕ
topology_words_at digit =
    if nat_eq digit 49 then topology_words topology.Syntax
    else (if nat_eq digit 50 then topology_words topology.NoNodes
    else (if nat_eq digit 51 then topology_words (topology.BadField 0)
    else (if nat_eq digit 52 then topology_words (topology.OutOfRange 0)
    else (if nat_eq digit 53 then topology_words (topology.DoubleNode (record { value = 0 })) else topology_words topology.TooMany))))

-- behind the number of a line stands ` cause ` and a digit
abbrev line_words_at : ℕ → List ℕ
line_words_at digit =
    if nat_eq digit 49 then line_words cause.UnknownWord
    else (if nat_eq digit 50 then line_words cause.WordCount
    else (if nat_eq digit 51 then line_words cause.NotANumber else (if nat_eq digit 52 then line_words cause.OutOfRange else line_words cause.TooLong)))

-- the words of a cause of one digit, and of one of two
abbrev low_words : ℕ → List ℕ
low_words digit =
    if nat_eq digit 49 then row_words row.UnknownDomain
    else (if nat_eq digit 50 then row_words row.TooManyEntries
    else (if nat_eq digit 51 then row_words row.TooManyTicks
    else (if nat_eq digit 52 then row_words row.OutOfOrder
    else (if nat_eq digit 53 then row_words row.SaysNothing
    else (if nat_eq digit 54 then row_words row.UnknownNode
    else (if nat_eq digit 55 then row_words row.GoneAndDown else (if nat_eq digit 56 then row_words row.UnknownFragment else row_words row.UnknownSlot)))))))

abbrev high_words : ℕ → List ℕ
high_words digit =
    if nat_eq digit 48 then row_words row.NodeGone
    else (if nat_eq digit 49 then row_words row.SeatTaken
    else (if nat_eq digit 50 then row_words row.NotLawful
    else (if nat_eq digit 51 then row_words row.TooManyGrants
    else (if nat_eq digit 52 then row_words row.UnknownStripe else (if nat_eq digit 53 then row_words row.NeverGranted else row_words row.WrongExpiry)))))

abbrev image_words_at : List ℕ → List ℕ
image_words_at behind =
    if nat_eq (at behind 0) 10 then input_refusal_words (refusal.ImageLine 0)
    else (if nat_eq (at behind 0) 102 then input_refusal_words refusal.FullImage
    else (if nat_eq (at behind 8) 10 then low_words (at behind 7) else high_words (at behind 8)))

abbrev pub words_at : List ℕ → List ℕ
words_at line =
    if nat_eq (at line 0) 98 then (if nat_eq (at line 7) 49 then input_refusal_words refusal.TooLong else input_refusal_words refusal.TooManyScripts)
    else (if nat_eq (at line 0) 116 then topology_words_at (at line 9)
    else (if nat_eq (at line 0) 108 then line_words_at (at (past_digits (drop 5 line)) 7)
    else (if nat_eq (at line 0) 105 then image_words_at (past_digits (drop 6 line))
    else (if nat_eq (at line 0) 110 then input_refusal_words (refusal.Lacking (named.Node (record { value = 0 })))
    else (if nat_eq (at line 0) 102 then input_refusal_words (refusal.Lacking (named.Fault (record { value = 0 })))
    else (if nat_eq (at line 0) 117 then input_refusal_words (refusal.Lacking (named.Upgrade (record { value = 0 }))) else topology_words topology.OutOfMemory))))))

two-digits : (n : ℕ) → 10 ≤ n → n < 20 → decimal n ≡ 49 ∷ (48 + n % 10) ∷ []
two-digits n low high =
    let ten : n / 10 ≡ 1 = omega (arith, low, high) in
    decimal_step n low (omega (arith, high)) ∙ ap (λ ds. ds ++ (48 + n % 10) ∷ []) (ap decimal ten ∙ decimal_digit 1 (omega arith))

line-cause : (c : LineCause) → line_words_at (at (past_digits (codes " cause " ++ decimal (cause_number c) ++ codes "\n")) 7) ≡ line_words c
unfolding past_digits
line-cause cause.UnknownWord = rw (decimal_digit 1 (omega arith)) refl
line-cause cause.WordCount = rw (decimal_digit 2 (omega arith)) refl
line-cause cause.NotANumber = rw (decimal_digit 3 (omega arith)) refl
line-cause cause.OutOfRange = rw (decimal_digit 4 (omega arith)) refl
line-cause cause.TooLong = rw (decimal_digit 5 (omega arith)) refl

row-cause : (c : RowCause) → image_words_at (past_digits (codes " cause " ++ decimal (row_cause_number c) ++ codes "\n")) ≡ row_words c
unfolding past_digits
row-cause row.UnknownDomain = rw (decimal_digit 1 (omega arith)) refl
row-cause row.TooManyEntries = rw (decimal_digit 2 (omega arith)) refl
row-cause row.TooManyTicks = rw (decimal_digit 3 (omega arith)) refl
row-cause row.OutOfOrder = rw (decimal_digit 4 (omega arith)) refl
row-cause row.SaysNothing = rw (decimal_digit 5 (omega arith)) refl
row-cause row.UnknownNode = rw (decimal_digit 6 (omega arith)) refl
row-cause row.GoneAndDown = rw (decimal_digit 7 (omega arith)) refl
row-cause row.UnknownFragment = rw (decimal_digit 8 (omega arith)) refl
row-cause row.UnknownSlot = rw (decimal_digit 9 (omega arith)) refl
row-cause row.NodeGone = rw (two-digits 10 (omega arith) (omega arith)) refl
row-cause row.SeatTaken = rw (two-digits 11 (omega arith) (omega arith)) refl
row-cause row.NotLawful = rw (two-digits 12 (omega arith) (omega arith)) refl
row-cause row.TooManyGrants = rw (two-digits 13 (omega arith) (omega arith)) refl
row-cause row.UnknownStripe = rw (two-digits 14 (omega arith) (omega arith)) refl
row-cause row.NeverGranted = rw (two-digits 15 (omega arith) (omega arith)) refl
row-cause row.WrongExpiry = rw (two-digits 16 (omega arith) (omega arith)) refl

topology-told : (e : TopologyError) → words_at (refusal_line (refusal.Topology e)) ≡ topology_words e
topology-told topology.Syntax = refl
topology-told topology.NoNodes = refl
topology-told (topology.BadField _) = refl
topology-told (topology.OutOfRange _) = refl
topology-told (topology.DoubleNode _) = refl
topology-told topology.TooMany = refl
topology-told topology.OutOfMemory = refl

lacking-told : (n : Named) → words_at (refusal_line (refusal.Lacking n)) ≡ input_refusal_words (refusal.Lacking n)
lacking-told (named.Node _) = refl
lacking-told (named.Fault _) = refl
lacking-told (named.Upgrade _) = refl

at-line : (rest : List ℕ) → words_at (codes "line " ++ rest) ≡ line_words_at (at (past_digits rest) 7)
at-line rest = refl

at-image : (rest : List ℕ) → words_at (codes "image " ++ rest) ≡ image_words_at (past_digits rest)
at-image rest = refl

at-end : image_words_at (past_digits (codes "\n")) ≡ input_refusal_words (refusal.ImageLine 0)
unfolding past_digits
at-end = refl

at-full : image_words_at (past_digits (codes "full\n")) ≡ input_refusal_words refusal.FullImage
unfolding past_digits
at-full = refl

three : (a b c : List ℕ) → a ++ b ++ c ≡ a ++ (b ++ c)
three a b c = simp append_assoc

five : (a b c d e : List ℕ) → a ++ b ++ c ++ d ++ e ≡ a ++ (b ++ (c ++ d ++ e))
five a b c d e = simp append_assoc

pub words-told : (r : InputRefusal) → words_at (refusal_line r) ≡ input_refusal_words r
words-told refusal.TooLong = refl
words-told refusal.TooManyScripts = refl
words-told (refusal.Topology e) = topology-told e
words-told (refusal.Line n c) =
    let rest = codes " cause " ++ decimal (cause_number c) ++ codes "\n" in
    ap words_at (five (codes "line ") (decimal n) (codes " cause ") (decimal (cause_number c)) (codes "\n")) ∙ at-line (decimal n ++ rest) ∙ ap (λ behind. line_words_at (at behind 7)) (past-decimal n rest) ∙ line-cause c
words-told (refusal.ImageLine n) =
    ap words_at (three (codes "image ") (decimal n) (codes "\n")) ∙ at-image (decimal n ++ codes "\n") ∙ ap image_words_at (past-decimal n (codes "\n")) ∙ at-end
words-told (refusal.Row n c) =
    let rest = codes " cause " ++ decimal (row_cause_number c) ++ codes "\n" in
    ap words_at (five (codes "image ") (decimal n) (codes " cause ") (decimal (row_cause_number c)) (codes "\n")) ∙ at-image (decimal n ++ rest) ∙ ap image_words_at (past-decimal n rest) ∙ row-cause c
words-told refusal.FullImage = at-image (codes "full\n") ∙ at-full
words-told (refusal.Lacking n) = lacking-told n
