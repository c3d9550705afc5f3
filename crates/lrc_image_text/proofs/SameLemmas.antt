-- A line that is in front of a text is the only one.
use Rattle.std.proofs.Common.{◌≡◌, ℕ, ◌<◌, Bool, true, false, nat_eq, if◌then◌else◌, Option, None, List, [], ◌∷◌, ◌++◌, length, map, get_or, take, drop, decimal, refl, sym, ap, ◌∙◌, length-take, length-drop, arith}
use Rattle.std.specs.List.{All}
use Rattle.std.proofs.lemmas.List.{take-append-drop}
use Rattle.std.proofs.lemmas.List.Elements.{All-head, All-tail, All-take}
use Rattle.lrc_topology.specs.declared.seat.Seat.{Seat}
use Rattle.lrc_terms.specs.declared.mode.Mode.{Mode}
use Rattle.lrc_terms.specs.declared.mode.Mode.TheVariants.{Active, Draining, Gone}
use Rattle.lrc_image_text.specs.Lines.{home_word, standing_words, IsHome}
use Rattle.lrc_image_text.specs.Fronts.{end_byte, words_on, HasLine}
use Rattle.lrc_image_text.proofs.WordLemmas.{same_number, same_home, end_other}
use Rattle.lrc_image_text.proofs.SpacedLemmas.{ends}

-- ---- words

module _ {X : Type 0} (word : X → List ℕ) (fits : X → Type 0)
    (one : (x y : X) (last : Bool) (r q : List ℕ) → fits x → fits y → word x ++ end_byte last ∷ r ≡ word y ++ end_byte last ∷ q → (x ≡ y) × (r ≡ q)) where
  pub same_words : (xs ys : List X) (a b : List ℕ) → length xs ≡ length ys → All fits xs → All fits ys → words_on (map word xs) a ≡ words_on (map word ys) b → (xs ≡ ys) × (a ≡ b)
  same_words [] [] a b size f g is = (refl, ap (drop 1) is)
  same_words [] (y ∷ ys) a b size f g is = absurd (omega (arith, size))
  same_words (x ∷ xs) [] a b size f g is = absurd (omega (arith, size))
  same_words (x ∷ xs) (y ∷ ys) a b size f g is =
      let left = ends word xs a in
      let right = ends word ys b in
      let sizes : length ys ≡ length xs = omega (arith, size) in
      let right_is = right.1 ∙ ap (λ n. end_byte (nat_eq n 0) ∷ right.0) sizes in
      let first = one x y (nat_eq (length xs) 0) left.0 right.0 (All-head fits x xs f) (All-head fits y ys g)
      (ap (λ t. word x ++ t) (sym left.1) ∙ ap (drop 1) is ∙ ap (λ t. word y ++ t) right_is) in
      let others = same_words xs ys a b (sym sizes) (All-tail fits x xs f) (All-tail fits y ys g)
      (left.1 ∙ ap (λ t. end_byte (nat_eq (length xs) 0) ∷ t) first.1 ∙ sym right_is) in
      (ap (λ z. z ∷ xs) first.0 ∙ ap (λ zs. y ∷ zs) others.0, others.1)

pub one_count : (x y : ℕ) (last : Bool) (r q : List ℕ) → x < 4294967296 → y < 4294967296 → decimal x ++ end_byte last ∷ r ≡ decimal y ++ end_byte last ∷ q → (x ≡ y) × (r ≡ q)
one_count x y last r q low low' is = same_number x y (end_byte last) r q (omega (arith, low)) (omega (arith, low')) (end_other last) is

pub one_home : (x y : Option Seat) (last : Bool) (r q : List ℕ) → IsHome x → IsHome y → home_word x ++ end_byte last ∷ r ≡ home_word y ++ end_byte last ∷ q → (x ≡ y) × (r ≡ q)
one_home x y last r q fits fits' is = same_home x y (end_byte last) r q fits fits' (end_other last) is

-- ---- homes

all_none : (xs ys : List (Option Seat)) → length xs ≡ length ys → All (λ h. h ≡ None) xs → All (λ h. h ≡ None) ys → xs ≡ ys
all_none [] [] size f g = refl
all_none [] (y ∷ ys) size f g = absurd (omega (arith, size))
all_none (x ∷ xs) [] size f g = absurd (omega (arith, size))
all_none (x ∷ xs) (y ∷ ys) size f g =
    ap (λ z. z ∷ xs) (All-head (λ h. h ≡ None) x xs f ∙ sym (All-head (λ h. h ≡ None) y ys g))
    ∙ ap (λ zs. y ∷ zs) (all_none xs ys (omega (arith, size)) (All-tail (λ h. h ≡ None) x xs f) (All-tail (λ h. h ≡ None) y ys g))

-- homes of the fragments of a code, and none of others
pub same_homes : (n : ℕ) (xs ys : List (Option Seat)) (a b : List ℕ) → length xs ≡ 16 → length ys ≡ 16 → All IsHome xs → All IsHome ys → All (λ h. h ≡ None) (drop n xs) → All (λ h. h ≡ None) (drop n ys)
    → words_on (map home_word (take n xs)) a ≡ words_on (map home_word (take n ys)) b → (xs ≡ ys) × (a ≡ b)
same_homes n xs ys a b size size' fits fits' none none' is =
    let taken = same_words home_word IsHome one_home (take n xs) (take n ys) a b (omega (arith, length-take n xs, length-take n ys, size, size')) (All-take IsHome n xs fits) (All-take IsHome n ys fits') is in
    let left = all_none (drop n xs) (drop n ys) (omega (arith, length-drop n xs, length-drop n ys, size, size')) none none' in
    (sym (take-append-drop n xs) ∙ ap (λ t. t ++ drop n xs) taken.0 ∙ ap (λ t. take n ys ++ t) left ∙ take-append-drop n ys, taken.1)

-- ---- how a node stands

abbrev is_down_at : ℕ → List ℕ → Bool
is_down_at n t = nat_eq (get_or t n 0) 32

-- the mode that these words tell, whether they tell that the node is down, and how many bytes they have
abbrev mode_in : List ℕ → Mode
mode_in t = if nat_eq (get_or t 1 0) 103 then Gone else if nat_eq (get_or t 2 0) 114 then Draining else Active

abbrev down_in : List ℕ → Bool
down_in t = if nat_eq (get_or t 1 0) 103 then is_down_at 5 t else if nat_eq (get_or t 2 0) 114 then is_down_at 9 t else true

abbrev bytes_of : Mode → Bool → ℕ
bytes_of Active is_down = 6
bytes_of Draining false = 10
bytes_of Draining true = 15
bytes_of Gone false = 6
bytes_of Gone true = 11

pub record IsTold (mode : Mode) (is_down : Bool) (text rest : List ℕ) : Type 0 where
  pub mode_is : mode ≡ mode_in text
  pub down_is : is_down ≡ down_in text
  pub rest_is : rest ≡ drop (bytes_of mode is_down) text

told : (mode : Mode) (is_down : Bool) (rest : List ℕ) → HasLine mode is_down → IsTold mode is_down (words_on (standing_words mode is_down) rest) rest
told Active false rest has = let never : false ≡ true = has refl in cc
told Active true rest has = record { mode_is = refl; down_is = refl; rest_is = refl }
told Draining false rest has = record { mode_is = refl; down_is = refl; rest_is = refl }
told Draining true rest has = record { mode_is = refl; down_is = refl; rest_is = refl }
told Gone false rest has = record { mode_is = refl; down_is = refl; rest_is = refl }
told Gone true rest has = record { mode_is = refl; down_is = refl; rest_is = refl }

pub same_standing : (m n : Mode) (d e : Bool) (a b : List ℕ) → HasLine m d → HasLine n e → words_on (standing_words m d) a ≡ words_on (standing_words n e) b → (m ≡ n) × (d ≡ e) × (a ≡ b)
same_standing m n d e a b has has' is =
    let left = told m d a has in
    let right = told n e b has' in
    let mode = left.mode_is ∙ ap mode_in is ∙ sym right.mode_is in
    let down = left.down_is ∙ ap down_in is ∙ sym right.down_is in
    (mode, down, left.rest_is ∙ ap (λ k. drop (bytes_of k d) (words_on (standing_words m d) a)) mode ∙ ap (λ k. drop (bytes_of n k) (words_on (standing_words m d) a)) down ∙ ap (drop (bytes_of n e)) is ∙ sym right.rest_is)
