-- Buffers of bytes, and sums of what they hold at one position.
use Rattle.std.specs.Prelude.{◌≡◌, ◌≢◌, ℕ, ◌<◌, List, [], length, get_or, map}
use Rattle.std.specs.List.{range_with_len}
use Rattle.std.specs.Borrow.{Bor, MutBor}
use Rattle.lrc_field.specs.Field.{plus, times}
use Rattle.lrc_field.specs.Stripes.{Bytes, sum_of}

-- what buffers hold that are read
abbrev pub read : List (Bor (List ℕ)) → List (List ℕ)
read buffers = map (λ b. b.now) buffers

-- what buffers hold that are written
abbrev pub written_buffers : List (MutBor (List ℕ)) → List (List ℕ)
written_buffers buffers = map (λ b. b.now) buffers

-- where buffers are that are written: the pointer and the name of each
abbrev pub buffer_addresses : List (MutBor (List ℕ)) → List ((ℕ × ℕ) × ℕ)
buffer_addresses buffers = map (λ b. (b.ref_ptr, b.ghost_name)) buffers

-- one buffer, empty if there is none of the number
abbrev pub buffer_at : List (List ℕ) → ℕ → List ℕ
buffer_at buffers f = get_or buffers f []

-- what the buffers hold at a position, by number of the buffer; 0 past the end of one
abbrev pub bytes_at : List (List ℕ) → ℕ → Bytes
bytes_at buffers i f = get_or (buffer_at buffers f) i 0

-- a coefficient for each buffer, by number; 0 past the end
abbrev pub each_of : List ℕ → ℕ → ℕ
each_of coefficients f = get_or coefficients f 0

-- (internal) at each position there is what was there plus the coefficient times the source's byte
pub record IsProductAdded (coefficient : ℕ) (source before after : List ℕ) : Type 0 where
  pub long : length after ≡ length before
  pub bytes : (i : ℕ) → i < length before → get_or after i 0 ≡ plus (get_or before i 0) (times coefficient (get_or source i 0))

-- at each position there is the sum of the first `n` buffers' bytes, each times its coefficient
pub record IsSum (coefficients : List ℕ) (buffers : List (List ℕ)) (n : ℕ) (before after : List ℕ) : Type 0 where
  pub long : length after ≡ length before
  pub bytes : (i : ℕ) → i < length before → get_or after i 0 ≡ sum_of (each_of coefficients) (bytes_at buffers i) (range_with_len 0 n)

-- each of the first `n` buffers that has a coefficient other than 0 has this length
abbrev pub AreLong : List ℕ → List (List ℕ) → ℕ → ℕ → Type 0
AreLong coefficients buffers n long = (f : ℕ) → f < n → each_of coefficients f ≢ 0 → length (buffer_at buffers f) ≡ long
