-- Numbers, seats and homes in front of another byte.
use Rattle.std.proofs.Common.{◌≡◌, ◌≢◌, ℕ, suc, ◌+◌, ◌^◌, ◌<◌, ◌≤◌, Bool, true, false, Option, Some, None, IfNone, List, [], ◌∷◌, ◌++◌, length, drop, decimal, refl, sym, ap, ◌∙◌, append_assoc, length-append, arith}
use Rattle.std.specs.List.{All}
use Rattle.std.specs.Char.{is_ascii_digit}
use Rattle.std.proofs.lemmas.Bool.{true≢false}
use Rattle.std.proofs.lemmas.Fmt.{digits_decimal, decimal_injective, decimal_nonempty}
use Rattle.std.proofs.lemmas.List.Sums.{AllPass-from_list_all}
use Rattle.lrc_front.proofs.DigitLemmas.{own}
use Rattle.lrc_topology.specs.declared.seat.Seat.{Seat}
use Rattle.lrc_image_text.specs.Lines.{seat_word, home_word, IsSeat, IsHome}
use Rattle.lrc_image_text.specs.Fronts.{end_byte}

-- where there is nothing, what follows from that
pub none_as : {T P Q : Type 0} (o : Option T) → (P → Q) → IfNone o P → IfNone o Q
none_as None f p = f p
none_as (Some x) f p = tt

-- a text has one cut at its first separator
pub cut_once : (separator : ℕ) (first other rest more : List ℕ) → All (λ b. b ≢ separator) first → All (λ b. b ≢ separator) other
    → first ++ separator ∷ rest ≡ other ++ separator ∷ more → (first ≡ other) × (rest ≡ more)
cut_once separator [] [] rest more none none' is = (refl, cc)
cut_once separator [] (b ∷ other) rest more none none' is = let head : b ≡ separator = cc in absurd (none' 0 b (omega arith) head)
cut_once separator (a ∷ first) [] rest more none none' is = let head : a ≡ separator = cc in absurd (none 0 a (omega arith) head)
cut_once separator (a ∷ first) (b ∷ other) rest more none none' is =
    let head : a ≡ b = cc in
    let tail : first ++ separator ∷ rest ≡ other ++ separator ∷ more = cc in
    let parts = cut_once separator first other rest more (λ k d within. none (suc k) d (omega arith)) (λ k d within. none' (suc k) d (omega arith)) tail in
    (ap (λ x. x ∷ first) head ∙ ap (λ xs. b ∷ xs) parts.0, parts.1)

-- ---- numbers

digits_alone : (n other : ℕ) → n < 2 ^ 64 → is_ascii_digit other ≡ false → All (λ b. b ≢ other) (decimal n)
digits_alone n other small no_digit = λ k d within same.
    true≢false (sym (AllPass-from_list_all is_ascii_digit (decimal n) (digits_decimal own n small) k d within) ∙ ap is_ascii_digit same ∙ no_digit)

pub same_number : (n m end : ℕ) (rest more : List ℕ) → n < 2 ^ 64 → m < 2 ^ 64 → is_ascii_digit end ≡ false → decimal n ++ end ∷ rest ≡ decimal m ++ end ∷ more → (n ≡ m) × (rest ≡ more)
same_number n m end rest more below below' other is =
    let parts = cut_once end (decimal n) (decimal m) rest more (digits_alone n end below other) (digits_alone m end below' other) is in
    (decimal_injective n m below below' parts.0, parts.1)

-- the digits of a number fit in the text
pub few_digits : (text : List ℕ) (n end : ℕ) (rest : List ℕ) → text ≡ decimal n ++ end ∷ rest → length (decimal n) + 1 ≤ length text
few_digits text n end rest is = omega (arith, ap length is, length-append (decimal n) (end ∷ rest))

-- ---- seats

seats_are : (s t : Seat) → s.node.value ≡ t.node.value → s.slot ≡ t.slot → s ≡ t
seats_are s t p q = λ i. record { node = record { value = p i }; slot = q i }

pub seat_on : (s : Seat) (end : ℕ) (rest : List ℕ) → seat_word s ++ end ∷ rest ≡ decimal s.node.value ++ 58 ∷ (decimal s.slot ++ end ∷ rest)
seat_on s end rest = append_assoc (decimal s.node.value) (58 ∷ decimal s.slot) (end ∷ rest)

pub same_seat : (s t : Seat) (end : ℕ) (rest more : List ℕ) → IsSeat s → IsSeat t → is_ascii_digit end ≡ false → seat_word s ++ end ∷ rest ≡ seat_word t ++ end ∷ more → (s ≡ t) × (rest ≡ more)
same_seat s t end rest more fits fits' other is =
    let first = same_number s.node.value t.node.value 58 (decimal s.slot ++ end ∷ rest) (decimal t.slot ++ end ∷ more) (omega (arith, fits.0)) (omega (arith, fits'.0)) refl
    (sym (seat_on s end rest) ∙ is ∙ seat_on t end more) in
    let second = same_number s.slot t.slot end rest more (omega (arith, fits.1)) (omega (arith, fits'.1)) other first.1 in
    (seats_are s t first.0 second.0, second.1)

-- ---- homes

starts_otherwise : (ds rest more : List ℕ) → 0 < length ds → All (λ b. b ≢ 45) ds → ds ++ rest ≢ 45 ∷ more
starts_otherwise [] rest more some none is = absurd (omega (arith, some))
starts_otherwise (d ∷ ds) rest more some none is = let head : d ≡ 45 = cc in none 0 d (omega arith) head

no_dash : (s : Seat) (rest more : List ℕ) → IsSeat s → seat_word s ++ rest ≢ 45 ∷ more
no_dash s rest more fits is =
    starts_otherwise (decimal s.node.value) (58 ∷ decimal s.slot ++ rest) more (decimal_nonempty s.node.value (omega (arith, fits.0))) (digits_alone s.node.value 45 (omega (arith, fits.0)) refl)
    (sym (append_assoc (decimal s.node.value) (58 ∷ decimal s.slot) rest) ∙ is)

pub same_home : (h k : Option Seat) (end : ℕ) (rest more : List ℕ) → IsHome h → IsHome k → is_ascii_digit end ≡ false → home_word h ++ end ∷ rest ≡ home_word k ++ end ∷ more → (h ≡ k) × (rest ≡ more)
same_home None None end rest more fits fits' other is = (refl, ap (drop 2) is)
same_home None (Some t) end rest more fits fits' other is = absurd (no_dash t (end ∷ more) (end ∷ rest) fits' (sym is))
same_home (Some s) None end rest more fits fits' other is = absurd (no_dash s (end ∷ rest) (end ∷ more) fits is)
same_home (Some s) (Some t) end rest more fits fits' other is =
    let parts = same_seat s t end rest more fits fits' other is in (ap (λ x. Some x) parts.0, parts.1)

pub end_other : (b : Bool) → is_ascii_digit (end_byte b) ≡ false
end_other true = refl
end_other false = refl

pub no_home-or_seat : (text : List ℕ) (end : ℕ) → ((rest : List ℕ) → text ≢ 45 ∷ end ∷ rest) → ((seat : Seat) (rest : List ℕ) → IsSeat seat → text ≢ seat_word seat ++ end ∷ rest)
    → (home : Option Seat) (rest : List ℕ) → IsHome home → text ≢ home_word home ++ end ∷ rest
no_home-or_seat text end none no_seat None rest fits is = none rest is
no_home-or_seat text end none no_seat (Some seat) rest fits is = no_seat seat rest fits is
