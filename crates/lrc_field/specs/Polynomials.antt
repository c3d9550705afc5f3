-- Polynomials over the elements 0 and 1, as numbers of any size: bit i is the coefficient of x^i.
use Rattle.std.specs.Prelude.{ℕ, zero, suc, ◌+◌, ◌*◌, ◌/◌, ◌%◌, ◌^◌, bit_xor}

-- the product of two polynomials, of which the first has a degree below `n`: the sum of the second times x^i, for
-- each coefficient i of the first that is 1
unfoldable pub product : ℕ → ℕ → ℕ → ℕ
product zero p q = 0
product (suc n) p q = bit_xor (p % 2 * q) (product n (p / 2) (q * 2))

-- x^8 + x^4 + x^3 + x^2 + 1
abbrev pub modulus : ℕ
modulus = 285

-- what the modulus leaves of a polynomial of a degree below `n` + 8: from the highest power down, it is taken away,
-- times x^i, where the coefficient of x^(i + 8) is 1
unfoldable pub remainder : ℕ → ℕ → ℕ
remainder zero p = p
remainder (suc n) p = remainder n (bit_xor p (p / 2 ^ (n + 8) % 2 * (modulus * 2 ^ n)))
