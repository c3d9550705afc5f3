-- Sums of bytes with coefficients.
use Rattle.std.proofs.Common.{◌≡◌, ℕ, zero, suc, ◌+◌, ◌*◌, ◌/◌, ◌%◌, ◌<◌, List, [], length, get_or, bit_xor, refl, sym, ap, ◌∙◌, arith}
use Rattle.std.specs.List.{range_with_len}
use Rattle.std.specs.Borrow.{Bor}
use Rattle.std.proofs.lemmas.List.{get_or-map}
use lib.Bits.{xor_assoc, xor_comm, xor_zero_r}
use Rattle.lrc_field.specs.Field.{times, times_by, times_x}
use Rattle.lrc_field.specs.Stripes.{Bytes, sum_of}
use Rattle.lrc_coder.specs.Buffers.{read, buffer_at, bytes_at}

pub zero_by : (n a : ℕ) → times_by n 0 a ≡ 0
unfolding times_by
zero_by zero a = refl
zero_by (suc n) a = let p : 0 % 2 * a ≡ 0 = omega arith in let q : 0 / 2 ≡ 0 = omega arith in rw (p, q, zero_by n (times_x a)) refl

-- the product of 0 and anything
pub times_none : (a : ℕ) → times 0 a ≡ 0
unfolding times
times_none a = zero_by 8 a

-- the sum of one more, from any number on
longer : (w : ℕ → ℕ) (v : Bytes) (n a : ℕ) → sum_of w v (range_with_len a (suc n)) ≡ bit_xor (sum_of w v (range_with_len a n)) (times (w (a + n)) (v (a + n)))
longer w v zero a = let p : a + 0 ≡ a = omega arith in rw p (xor_comm (times (w a) (v a)) 0)
longer w v (suc n) a =
    let p : a + suc n ≡ a + 1 + n = omega arith in
    rw (p, longer w v n (a + 1)) (sym (xor_assoc (times (w a) (v a)) (sum_of w v (range_with_len (a + 1) n)) (times (w (a + 1 + n)) (v (a + 1 + n)))))

-- the sum of one more
pub sum_of-more : (w : ℕ → ℕ) (v : Bytes) (n : ℕ) → sum_of w v (range_with_len 0 (n + 1)) ≡ bit_xor (sum_of w v (range_with_len 0 n)) (times (w n) (v n))
sum_of-more w v n = let p : n + 1 ≡ suc n = omega arith in let q : 0 + n ≡ n = omega arith in rw p (longer w v n 0 ∙ rw q refl)

-- the buffer of a number among those that are read
pub read_at : (buffers : List (Bor (List ℕ))) (n : ℕ) (d : Bor (List ℕ)) → n < length buffers → buffer_at (read buffers) n ≡ (get_or buffers n d).now
read_at buffers n d inside = get_or-map (λ b. b.now) buffers n d [] inside

-- the sum with one more buffer
pub sum_with : (w : ℕ → ℕ) (buffers : List (Bor (List ℕ))) (n i x : ℕ) (d : Bor (List ℕ)) → n < length buffers → x ≡ sum_of w (bytes_at (read buffers) i) (range_with_len 0 n) →
    bit_xor x (times (w n) (get_or (get_or buffers n d).now i 0)) ≡ sum_of w (bytes_at (read buffers) i) (range_with_len 0 (n + 1))
sum_with w buffers n i x d inside is =
    rw is (ap (λ b. bit_xor (sum_of w (bytes_at (read buffers) i) (range_with_len 0 n)) (times (w n) (get_or b i 0))) (sym (read_at buffers n d inside)) ∙ sym (sum_of-more w (bytes_at (read buffers) i) n))

-- the sum with one more whose coefficient is 0
pub sum_without : (w : ℕ → ℕ) (v : Bytes) (n : ℕ) → w n ≡ 0 → sum_of w v (range_with_len 0 n) ≡ sum_of w v (range_with_len 0 (n + 1))
sum_without w v n none = sym (sum_of-more w v n ∙ rw (none, times_none (v n)) (xor_zero_r (sum_of w v (range_with_len 0 n))))
