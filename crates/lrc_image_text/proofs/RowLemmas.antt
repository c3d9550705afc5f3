-- The parts of a row's line, one behind the other.
use Rattle.std.proofs.Common.{◌≡◌, ◌≢◌, ℕ, ◌^◌, ◌<◌, ◌≤◌, ◌⊎◌, inl, inr, Bool, true, false, List, [], ◌∷◌, ◌++◌, length, map, take, drop, codes, decimal, refl, sym, ap, ◌∙◌, append_assoc, length-take, arith}
use Rattle.std.proofs.lemmas.Bool.{true≢false}
use Rattle.std.proofs.lemmas.List.{append_cancel_left, length-map}
use Rattle.lrc_code.specs.declared.codes.Code.{Code}
use Rattle.lrc_code.specs.declared.codes.Code.TheVariants.{Wide, Narrow}
use Rattle.lrc_code.specs.Codes.{fragment_count}
use Rattle.lrc_images.specs.declared.image.StripeRow.{StripeRow}
use Rattle.lrc_terms.specs.declared.mode.Mode.{Mode}
use Rattle.lrc_terms.specs.declared.mode.Mode.TheVariants.{Active, Draining, Gone}
use Rattle.lrc_image_text.specs.Lines.{Stripe, standing_words, code_word, home_word, IsStripeRow}
use Rattle.lrc_image_text.specs.Fronts.{words_on, line_on, HasLine, HasNone}
use Rattle.lrc_image_text.proofs.WordLemmas.{same_number}

-- ---- numbers behind a word

-- the text starts with the word, a number below 2 ^ 64 and a space: another such number before a space is the same
pub behind_number : (text word : List ℕ) (n m : ℕ) (rest more : List ℕ) → n < 2 ^ 64 → m < 2 ^ 64 → text ≡ word ++ (decimal n ++ 32 ∷ rest) → text ≡ word ++ (decimal m ++ 32 ∷ more) → rest ≡ more
behind_number text word n m rest more below below' found is =
    (same_number n m 32 rest more below below' refl (append_cancel_left word (decimal n ++ 32 ∷ rest) (decimal m ++ 32 ∷ more) (sym found ∙ is))).1

-- the same where words follow
pub behind_words : (text word : List ℕ) (n m : ℕ) (rest after tail : List ℕ) → n < 2 ^ 64 → m < 2 ^ 64 → text ≡ word ++ (decimal n ++ 32 ∷ rest) → after ≡ 32 ∷ tail → text ≡ word ++ (decimal m ++ after) → 32 ∷ rest ≡ after
behind_words text word n m rest after tail below below' found starts is =
    ap (λ t. 32 ∷ t) (behind_number text word n m rest tail below below' found (is ∙ ap (λ t. word ++ (decimal m ++ t)) starts)) ∙ sym starts

-- words of a line start with a space
pub words_space : (ws : List (List ℕ)) (rest : List ℕ) → 0 < length ws → (tail : List ℕ) × (words_on ws rest ≡ 32 ∷ tail)
words_space [] rest some = absurd (omega (arith, some))
words_space (w ∷ ws) rest some = (_, refl)

-- ---- how a node stands

pub standing_space : (mode : Mode) (is_down : Bool) (rest : List ℕ) → HasLine mode is_down → (tail : List ℕ) × (words_on (standing_words mode is_down) rest ≡ 32 ∷ tail)
standing_space Active false rest has = absurd (true≢false (sym (has refl)))
standing_space Active true rest has = (_, refl)
standing_space Draining false rest has = (_, refl)
standing_space Draining true rest has = (_, refl)
standing_space Gone false rest has = (_, refl)
standing_space Gone true rest has = (_, refl)

module _ (text : List ℕ) where
  abbrev Lacks : List ℕ → Type 0
  Lacks word = (rest : List ℕ) → text ≢ word ++ rest

  pub no_standing : Lacks (codes "down\n") → Lacks (codes "draining\n") → Lacks (codes "draining down\n") → Lacks (codes "gone\n") → Lacks (codes "gone down\n")
      → (mode : Mode) (is_down : Bool) (rest : List ℕ) → HasLine mode is_down → 32 ∷ text ≢ words_on (standing_words mode is_down) rest
  no_standing a b c d e Active false rest has is = true≢false (sym (has refl))
  no_standing a b c d e Active true rest has is = a rest (ap (drop 1) is)
  no_standing a b c d e Draining false rest has is = b rest (ap (drop 1) is)
  no_standing a b c d e Draining true rest has is = c rest (ap (drop 1) is)
  no_standing a b c d e Gone false rest has is = d rest (ap (drop 1) is)
  no_standing a b c d e Gone true rest has is = e rest (ap (drop 1) is)

-- ---- words of the same kind

pub some_words : {X : Type 0} (word : X → List ℕ) (xs : List X) (n : ℕ) → length xs ≡ n → 0 < n → 0 < length (map word xs)
some_words word xs n size some = omega (arith, length-map xs word, size, some)

-- the fragments that a code has
pub coded : {X : Type 0} (code : Code) (xs : List X) → length xs ≡ 16 → (length (take (fragment_count code) xs) ≡ fragment_count code) × (0 < fragment_count code)
coded Wide xs size = (omega (arith, length-take 16 xs, size), omega arith)
coded Narrow xs size = (omega (arith, length-take 10 xs, size), omega arith)

pub sized : {X : Type 0} (n m : ℕ) (xs : List X) → length xs ≡ 16 → m ≡ n → n ≤ 16 → n ≡ length (take m xs)
sized n m xs size same few = omega (arith, length-take m xs, size, same, few)

pub stripe_on : (row : StripeRow) (code : Code) → row.code ≡ code → (rest : List ℕ) → line_on (Stripe row) rest
    ≡ (code_word code ++ codes " ") ++ (decimal row.stripe.value ++ words_on (map home_word (take (fragment_count code) row.homes)) rest)
stripe_on row code same rest =
    ap (λ c. code_word c ++ 32 ∷ (decimal row.stripe.value ++ words_on (map home_word (take (fragment_count c) row.homes)) rest)) same
    ∙ sym (append_assoc (code_word code) (32 ∷ []) (decimal row.stripe.value ++ words_on (map home_word (take (fragment_count code) row.homes)) rest))

code_cases : (code : Code) → (code ≡ Wide) ⊎ (code ≡ Narrow)
code_cases Wide = inl refl
code_cases Narrow = inr refl

abbrev pub HasNoStripe : List ℕ → Code → Type 0
HasNoStripe text code = (row : StripeRow) (rest : List ℕ) → row.code ≡ code → IsStripeRow row → text ≢ line_on (Stripe row) rest

-- no stripe of either code
pub no_stripe : (text : List ℕ) → HasNoStripe text Wide → HasNoStripe text Narrow → HasNone Stripe text
no_stripe text wide narrow row rest readable is = elim (code_cases row.code) [
  | inl same ↦ wide row rest same readable is
  | inr same ↦ narrow row rest same readable is
]
