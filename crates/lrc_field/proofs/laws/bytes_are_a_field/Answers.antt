use lib.Bits.{xor_assoc, xor_comm, xor_self, xor_zero_r, xor_lt}
use Rattle.lrc_field.proofs.FieldLemmas.{times_below, times_comm, times_assoc, times-xor, one_times, times_inverse}
use Rattle.lrc_field.proofs.laws.bytes_are_a_field.Goals as goal

pub returns : goal.returns
returns c = record {
  sums = λ a b la lb. (xor_lt 8 a b la lb, xor_comm a b, xor_zero_r a, xor_self a);
  sums_of_three = xor_assoc;
  products = λ a b la lb. (times_below a b la lb, times_comm a b la lb, one_times a la);
  products_of_three = times_assoc;
  products_of_sums = λ a b c la lb lc. times-xor a b c;
  inverses = times_inverse;
}
