-- The first lost member of a class, and what is left out by it.
use Rattle.std.proofs.Common.{◌≡◌, ℕ, Bool, not, ◌&&◌, eqb, List, [], ◌∷◌, map, filter, find, unwrap_or, get_or, zero-add, ◌<◌, Some, refl, sym, ap, ◌∙◌, inl, inr}
use Rattle.std.proofs.lemmas.Bool.{cases_Bool}
use Rattle.std.proofs.lemmas.List.{get_or-map}
use Rattle.std.proofs.lemmas.List.FromFn.{get_or-range_with_len}
use Rattle.lrc_code.specs.declared.codes.Code.{Code}
use Rattle.lrc_code.specs.declared.codes.Code.TheVariants.{Wide, Narrow}
use Rattle.lrc_code.specs.declared.codes.Class.{Class}
use Rattle.lrc_code.specs.declared.codes.Class.TheVariants.{A, B, G}
use Rattle.lrc_code.specs.declared.numbers.Fragment.{Fragment}
use Rattle.lrc_code.specs.Codes.{all_fragments, members, class_of, are_one_class}
use Rattle.lrc_code.specs.Losses.{FragmentSet}
use Rattle.lrc_field.specs.Weights.{lost_in, first_or, but, out_of_a, out_of_b, spare, third_out}
use Rattle.lrc_field.proofs.SublistLemmas.{filter_but}

first_found : (t : Fragment → Bool) (m : ℕ → Bool) (other : Fragment) (fs : List Fragment) → (unwrap_or (find (λ f. t f && m f.value) fs) other).value ≡ first_or (filter m (map (λ f. f.value) (filter t fs))) other.value
first_found t m other [] = refl
first_found t m other (x ∷ xs) = elim (cases_Bool (t x)) [
  | inl kept ↦ elim (cases_Bool (m x.value)) [
    | inl hit ↦ rw (kept, hit) refl
    | inr miss ↦ rw (kept, miss) (first_found t m other xs)
  ]
  | inr dropped ↦ rw dropped (first_found t m other xs)
]

same_filter : (t u : Fragment → Bool) → ((f : Fragment) → t f ≡ u f) → (fs : List Fragment) → filter t fs ≡ filter u fs
same_filter t u same [] = refl
same_filter t u same (x ∷ xs) = rw (same x, same_filter t u same xs) refl

class_listed : (code : Code) (c : Class) → map (λ (f : Fragment). f.value) (filter (λ f. are_one_class (Some c) (class_of code f.value)) all_fragments) ≡ members code c
class_listed Wide A = refl
class_listed Wide B = refl
class_listed Wide G = refl
class_listed Narrow A = refl
class_listed Narrow B = refl
class_listed Narrow G = refl

-- the first fragment that is lost and of the class
pub first_member : (code : Code) (c : Class) (t : Fragment → Bool) (m : ℕ → Bool) (other : Fragment) → ((f : Fragment) → t f ≡ are_one_class (Some c) (class_of code f.value)) → (unwrap_or (find (λ f. t f && m f.value) all_fragments) other).value ≡ first_or (lost_in code c m) other.value
first_member code c t m other same =
    first_found t m other all_fragments
    ∙ ap (λ (l : List Fragment). first_or (filter m (map (λ f. f.value) l)) other.value) (same_filter t (λ f. are_one_class (Some c) (class_of code f.value)) same all_fragments)
    ∙ ap (λ l. first_or (filter m l) other.value) (class_listed code c)

-- the third fragment that is left out
pub third_found : (code : Code) (m m_a m_b : FragmentSet) (f x y g s t : ℕ) → x ≡ out_of_a code (lost_in code A m) → y ≡ out_of_b code (lost_in code B m)
    → ((h : ℕ) → m_a h ≡ (not (eqb h x) && m h)) → ((h : ℕ) → m_b h ≡ (not (eqb h y) && m h))
    → g ≡ first_or (lost_in code G m) (spare code f) → s ≡ first_or (lost_in code B m_b) g → t ≡ first_or (lost_in code A m_a) s
    → t ≡ third_out code (lost_in code A m) (lost_in code B m) (lost_in code G m) f
third_found code m m_a m_b f x y g s t is_x is_y of_a of_b is_g is_s is_t =
    let la = lost_in code A m in
    let lb = lost_in code B m in
    is_t ∙ ap (λ l. first_or l s) (filter_but m_a m x of_a (members code A)) ∙ ap (λ n. first_or (but n la) s) is_x
    ∙ ap (first_or (but (out_of_a code la) la)) (is_s ∙ ap (λ l. first_or l g) (filter_but m_b m y of_b (members code B)) ∙ ap (λ n. first_or (but n lb) g) is_y ∙ ap (first_or (but (out_of_b code lb) lb)) is_g)

-- the number of the fragment at a place of the array of all
pub item_number : (items : List Fragment) (i : ℕ) (d : Fragment) → items ≡ all_fragments → i < 16 → (get_or items i d).value ≡ i
item_number items i d all within = rw all (sym (get_or-map (λ (f : Fragment). f.value) all_fragments i d 0 within) ∙ (get_or-range_with_len 0 16 i 0 within ∙ zero-add i))
