-- The fragments of a mask that are left.
use Rattle.std.proofs.Common.{◌≡◌, ◌<◌, ℕ, Bool, true, not, ◌&&◌, eqb, refl, sym, ap, arith, ◌∙◌}
use Rattle.std.specs.List.{count_by, range_with_len}
use Rattle.std.proofs.lemmas.Bool.{eq-eqb, ne_eqb}
use Rattle.lrc_code.specs.declared.numbers.Fragment.{Fragment}
use Rattle.lrc_code.specs.Losses.{bits_set}
use Rattle.lrc_slots.proofs.CountLemmas.{count-one}

-- one less is left
pub left-less : (left next : ℕ) (other : Fragment) → ((g : ℕ) → bits_set next g ≡ (not (eqb g other.value) && bits_set left g)) → bits_set left other.value ≡ true
    → count_by (bits_set next) (range_with_len 0 16) < count_by (bits_set left) (range_with_len 0 16)
left-less left next other less hit =
    let one = count-one (bits_set next) (bits_set left) other.value 0 16 (omega arith) (omega (arith, other.in_range))
    (less other.value ∙ ap (λ (b : Bool). not b && bits_set left other.value) (eq-eqb other.value other.value refl)) hit
    (λ j away. sym (less j ∙ ap (λ (b : Bool). not b && bits_set left j) (ne_eqb j other.value away))) in
    omega (arith, one)
