-- The digits of a number of 64 bits.
use Rattle.std.proofs.Common.{◌≡◌, ℕ, ◌^◌, ◌<◌, ◌≤◌, true, List, length, take, arith, length-take}
use Rattle.std.specs.List.{list_all}
use Rattle.std.specs.Char.{is_ascii_digit}
use Rattle.std.specs.Str.Parse.{digits_value}
use Rattle.std.proofs.lemmas.Str.Parse.{digits_value_short}
use Rattle.lrc_front.proofs.DigitLemmas.{own}

-- at most twenty digits write a number below this
pub few : (text : List ℕ) (at number : ℕ) → at ≤ 20 → at ≤ length text → list_all is_ascii_digit (take at text) ≡ true → number ≡ digits_value 10 (take at text) → number < 10 ^ 20
few text at number short within digits value =
    let long : length (take at text) ≤ 20 = omega (arith, length-take at text, short, within) in
    let bound = digits_value_short own (take at text) 20 digits long in
    omega (arith, bound, value)
