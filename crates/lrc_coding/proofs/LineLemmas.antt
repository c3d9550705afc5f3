-- Lines and rows, as they are written.
use Rattle.std.proofs.Common.{◌≡◌, ℕ, zero, suc, ◌+◌, ◌<◌, ◌≤◌, Bool, true, false, if◌then◌else◌, nat_eq, List, [], ◌∷◌, ◌++◌, length, get_or, take, map, flat_map, codes, refl, sym, ap, subst, ◌∙◌, append_assoc, append-nil, arith}
use Rattle.std.specs.List.{join_with_byte}
use Rattle.std.proofs.lemmas.List.{take_more, map-append}
use Rattle.std.proofs.lemmas.List.Concat.{flat_map-append}
use Rattle.std.proofs.lemmas.Bool.{ne_eqb, lt-ltb, le-ltb}
use Rattle.lrc_code.specs.declared.codes.Code.{Code}
use Rattle.lrc_code.specs.declared.codes.Code.TheVariants.{Wide, Narrow}
use Rattle.lrc_code.specs.declared.numbers.Fragment.{Fragment}
use Rattle.lrc_code.specs.Codes.{all_fragments, fragment_count, has_fragment, data_count}
use Rattle.lrc_field.specs.Stripes.{data_of, generator, IsRow}
use Rattle.lrc_coding.specs.Told.{bytes_line, matrix_line, matrix_text}

-- ---- words with a byte between

abbrev is_none : List (List ℕ) → Bool
is_none [] = true
is_none (word ∷ words) = false

join-more : (c : ℕ) (words : List (List ℕ)) (word : List ℕ) → join_with_byte c (words ++ word ∷ []) ≡ join_with_byte c words ++ ((if is_none words then [] else c ∷ []) ++ word)
join-more c [] word = refl
join-more c (a ∷ []) word = refl
join-more c (a ∷ b ∷ words) word =
    ap (λ t. a ++ (c ∷ t)) (join-more c (b ∷ words) word) ∙ sym (append_assoc a (c ∷ join_with_byte c (b ∷ words)) ((c ∷ []) ++ word))

none-so_far : (of : ℕ → List ℕ) (bytes : List ℕ) (i : ℕ) → i ≤ length bytes → is_none (map of (take i bytes)) ≡ nat_eq i 0
none-so_far of bytes zero within = refl
none-so_far of [] (suc i) within = absurd (omega (arith, within))
none-so_far of (byte ∷ bytes) (suc i) within = sym (ne_eqb (suc i) 0 (omega arith))

-- one byte more
pub byte-more : (of : ℕ → List ℕ) (bytes : List ℕ) (i b : ℕ) (start old mark new : List ℕ) → i < length bytes → mark ≡ (if nat_eq i 0 then [] else codes " ")
    → old ≡ start ++ join_with_byte 32 (map of (take i bytes)) → new ≡ old ++ (mark ++ of (get_or bytes i b))
    → new ≡ start ++ join_with_byte 32 (map of (take (i + 1) bytes))
byte-more of bytes i b start old mark new within begun so_far next =
    let words = map of (take i bytes) in
    let word = of (get_or bytes i b) in
    next ∙ ap (λ t. t ++ (mark ++ word)) so_far ∙ append_assoc start (join_with_byte 32 words) (mark ++ word)
    ∙ ap (λ m. start ++ (join_with_byte 32 words ++ (m ++ word))) (begun ∙ ap (λ (none : Bool). if none then [] else codes " ") (sym (none-so_far of bytes i (omega (arith, within)))))
    ∙ ap (λ t. start ++ t) (sym (join-more 32 words word))
    ∙ ap (λ (ws : List (List ℕ)). start ++ join_with_byte 32 ws) (sym (ap (map of) (take_more bytes i b within) ∙ map-append of (take i bytes) (get_or bytes i b ∷ [])))

-- ---- the bytes of a row

-- this many numbers, from one on
abbrev upto : ℕ → ℕ → List ℕ
upto k zero = []
upto k (suc n) = k ∷ upto (k + 1) n

firsts : (g : ℕ → ℕ) (xs : List ℕ) (n k : ℕ) → n ≤ length xs → ((d : ℕ) → d < n → get_or xs d 0 ≡ g (k + d)) → take n xs ≡ map g (upto k n)
firsts g xs zero k long entries = refl
firsts g [] (suc n) k long entries = absurd (omega (arith, long))
firsts g (x ∷ xs) (suc n) k long entries =
    let first : x ≡ g k = entries 0 (omega arith) ∙ ap g (let e : k + 0 ≡ k = omega arith in e) in
    let others = firsts g xs n (k + 1) (omega (arith, long))
    (λ d few. entries (suc d) (omega (arith, few)) ∙ ap g (let e : k + suc d ≡ k + 1 + d = omega arith in e)) in
    ap (λ y. y ∷ take n xs) first ∙ ap (λ ys. g k ∷ ys) others

plain : (d : ℕ) → d ≡ 0 + d
plain d = omega arith

pub row_bytes : (code : Code) (f : ℕ) (row : List ℕ) → IsRow code f row → take (data_count code) row ≡ map (generator code f) (data_of code)
row_bytes Wide f row is = firsts (generator Wide f) row 12 0 (let long = is.long in omega (arith, long)) (λ d few. is.entries d few ∙ ap (generator Wide f) (plain d))
row_bytes Narrow f row is = firsts (generator Narrow f) row 6 0 (let long = is.long in omega (arith, long)) (λ d few. is.entries d few ∙ ap (generator Narrow f) (plain d))

-- ---- the lines of a matrix

abbrev pub own_line : Code → Fragment → List ℕ
own_line code f = if has_fragment code f.value then matrix_line code f.value else []

pub matrix-all : (code : Code) → flat_map (own_line code) all_fragments ≡ matrix_text code
matrix-all Wide = refl
matrix-all Narrow = refl

pub line-more : (of : Fragment → List ℕ) (items : List Fragment) (i : ℕ) (d : Fragment) (start old new : List ℕ) → items ≡ all_fragments → i < 16
    → old ≡ start ++ flat_map of (take i all_fragments) → new ≡ old ++ of (get_or items i d) → new ≡ start ++ flat_map of (take (i + 1) all_fragments)
line-more of items i d start old new all within so_far next =
    next ∙ ap (λ t. t ++ of (get_or items i d)) so_far ∙ append_assoc start (flat_map of (take i all_fragments)) (of (get_or items i d))
    ∙ ap (λ (fs : List Fragment). start ++ (flat_map of (take i fs) ++ of (get_or items i d))) (sym all)
    ∙ ap (λ t. start ++ t) (sym (
    ap (flat_map of) (take_more items i d (subst (λ (fs : List Fragment). i < length fs) (sym all) within)) ∙ flat_map-append of (take i items) (get_or items i d ∷ [])
    ∙ ap (λ t. flat_map of (take i items) ++ t) (append-nil (of (get_or items i d)))
    ))
    ∙ ap (λ (fs : List Fragment). start ++ flat_map of (take (i + 1) fs)) all

-- a fragment that the code has, and one that it lacks
pub line-there : (code : Code) (f : Fragment) (row old new : List ℕ) → f.value < fragment_count code → IsRow code f.value row
    → new ≡ old ++ bytes_line (take (data_count code) row) → new ≡ old ++ own_line code f
unfolding matrix_line
line-there code f row old new within is next =
    next ∙ ap (λ bytes. old ++ bytes_line bytes) (row_bytes code f.value row is)
    ∙ ap (λ (b : Bool). old ++ (if b then bytes_line (map (generator code f.value) (data_of code)) else [])) (sym (lt-ltb f.value (fragment_count code) within))

pub line-away : (code : Code) (f : Fragment) (old : List ℕ) → fragment_count code ≤ f.value → old ≡ old ++ own_line code f
line-away code f old past = sym (ap (λ (b : Bool). old ++ (if b then matrix_line code f.value else [])) (le-ltb f.value (fragment_count code) past) ∙ append-nil old)
