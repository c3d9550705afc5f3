-- The list of the fragments of a code.
use Rattle.std.proofs.Common.{◌≡◌, ℕ, ◌<◌, true, length, get_or, arith, refl, sym, ◌∙◌, zero-add, ◌≤◌}
use Rattle.std.specs.List.{Contains}
use Rattle.std.proofs.lemmas.Bool.{ltb-true}
use Rattle.lrc_code.specs.declared.codes.Code.{Code}
use Rattle.lrc_code.specs.declared.numbers.Fragment.{Fragment}
use Rattle.lrc_code.specs.Codes.{fragments, fragment_count, has_fragment, all_fragments}
use Rattle.lrc_code.proofs.NumbersLemmas.{equal_fragments}
use Rattle.std.proofs.lemmas.List.{get_or-map}
use Rattle.std.proofs.lemmas.List.FromFn.{get_or-range_with_len}
use Rattle.lrc_code.specs.declared.codes.Code.TheVariants.{Wide, Narrow}

-- the position of a fragment in the list is its number
pub fragment-number : (i : ℕ) (d : Fragment) → i < 16 → (get_or all_fragments i d).value ≡ i
fragment-number i d within = sym (get_or-map (λ (f : Fragment). f.value) all_fragments i d 0 within) ∙ (get_or-range_with_len 0 16 i 0 within ∙ zero-add i)

-- the same for each code
pub fragment-number_in : (code : Code) (i : ℕ) (d : Fragment) → i < fragment_count code → (get_or (fragments code) i d).value ≡ i
fragment-number_in Wide i d within = fragment-number i d within
fragment-number_in Narrow i d within = sym (get_or-map (λ (f : Fragment). f.value) (fragments Narrow) i d 0 within) ∙ (get_or-range_with_len 0 10 i 0 within ∙ zero-add i)

-- a code has at most sixteen fragments
pub few-fragments : (code : Code) → fragment_count code ≤ 16
few-fragments Wide = omega arith
few-fragments Narrow = omega arith

pub fragments-long : (code : Code) → length (fragments code) ≡ fragment_count code
fragments-long Wide = refl
fragments-long Narrow = refl

-- a fragment of the code is in its list
pub code-fragments : (code : Code) (f : Fragment) → has_fragment code f.value ≡ true → Contains (fragments code) f
code-fragments code f own =
    let within = ltb-true f.value (fragment_count code) own in
    (f.value, omega (arith, within, fragments-long code), equal_fragments (get_or (fragments code) f.value f) f (fragment-number_in code f.value f within))

-- the numbers in the list ascend
pub code-rising : (code : Code) (i j : ℕ) (d : Fragment) → i < j → j < length (fragments code)
    → (get_or (fragments code) i d).value < (get_or (fragments code) j d).value
code-rising code i j d below within =
    let long = fragments-long code in
    let low = fragment-number_in code i d (omega (arith, below, within, long)) in
    let high = fragment-number_in code j d (omega (arith, within, long)) in
    omega (arith, below, low, high)
