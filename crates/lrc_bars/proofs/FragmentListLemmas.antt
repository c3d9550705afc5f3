-- The fragments of the code Wide, by their numbers.
use Rattle.std.proofs.Common.{◌≡◌, ℕ, ◌<◌, map, get_or, zero-add, refl, sym, ap, ◌∙◌}
use Rattle.std.specs.List.{Contains, range_with_len}
use Rattle.std.proofs.lemmas.List.{get_or-map}
use Rattle.std.proofs.lemmas.List.FromFn.{get_or-range_with_len}
use Rattle.lrc_code.specs.declared.codes.Code.TheVariants.{Wide}
use Rattle.lrc_code.specs.declared.numbers.Fragment.{Fragment}
use Rattle.lrc_code.specs.Codes.{fragments, all_fragments}
use Rattle.lrc_code.proofs.NumbersLemmas.{equal_fragments}

-- each fragment stands at its number
pub fragment-at : (f : Fragment) → get_or all_fragments f.value f ≡ f
fragment-at f =
    let numbers : map (λ (g : Fragment). g.value) all_fragments ≡ range_with_len 0 16 = refl in
    equal_fragments (get_or all_fragments f.value f) f
    (sym (get_or-map (λ (g : Fragment). g.value) all_fragments f.value f 0 f.in_range)
    ∙ (ap (λ xs. get_or xs f.value 0) numbers ∙ (get_or-range_with_len 0 16 f.value 0 f.in_range ∙ zero-add f.value)))

-- and so is one of the code's
pub all-fragments : (f : Fragment) → Contains all_fragments f
all-fragments f = (f.value, f.in_range, fragment-at f)

-- the number of the fragment that stands at a place
pub number-at : (i : ℕ) (d : Fragment) → i < 16 → (get_or all_fragments i d).value ≡ i
number-at i d within =
    let numbers : map (λ (g : Fragment). g.value) all_fragments ≡ range_with_len 0 16 = refl in
    sym (get_or-map (λ (g : Fragment). g.value) all_fragments i d 0 within)
    ∙ (ap (λ xs. get_or xs i 0) numbers ∙ (get_or-range_with_len 0 16 i 0 within ∙ zero-add i))
