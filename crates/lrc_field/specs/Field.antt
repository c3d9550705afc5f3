-- The field of 256 elements. A byte is a polynomial over the elements 0 and 1: bit i is the coefficient of x to the
-- power of i. Products are taken modulo x^8 + x^4 + x^3 + x^2 + 1.
use Rattle.std.specs.Prelude.{ℕ, zero, suc, ◌*◌, ◌/◌, ◌%◌, bit_xor}

-- the sum: coefficient by coefficient, where 1 and 1 give 0
abbrev pub plus : ℕ → ℕ → ℕ
plus a b = bit_xor a b

-- the product by x: x^4 + x^3 + x^2 + 1, which is 29, takes the place of x^8
unfoldable pub times_x : ℕ → ℕ
times_x a = plus (a * 2 % 256) (29 * (a / 128 % 2))

-- the sum of `a` times x^i, for each of the lowest bits i of `c` that is 1
unfoldable pub times_by : ℕ → ℕ → ℕ → ℕ
times_by zero c a = 0
times_by (suc bits) c a = plus (c % 2 * a) (times_by bits (c / 2) (times_x a))

-- the product
unfoldable pub times : ℕ → ℕ → ℕ
times c a = times_by 8 c a

-- the inverse of an element that is not zero: its power 254
unfoldable pub inverse : ℕ → ℕ
inverse a =
    let p2 = times a a in
    let p4 = times p2 p2 in
    let p8 = times p4 p4 in
    let p16 = times p8 p8 in
    let p32 = times p16 p16 in
    let p64 = times p32 p32 in
    let p128 = times p64 p64 in
    times p2 (times p4 (times p8 (times p16 (times p32 (times p64 p128)))))
