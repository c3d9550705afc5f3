-- Rows of recipes suffice, and answers exclude each other.
use Rattle.std.proofs.Common.{◌≡◌, ◌≢◌, ℕ, ◌<◌, ◌≤◌, ◌⊎◌, inl, inr, Bool, true, false, cond, not, nat_eq, List, [], ◌∷◌, ◌++◌, length, map, filter, Option, Some, None, Ok, Err, Result, IsTrue, IsFalse, All, refl, sym, ap, subst, ◌∙◌, append-nil, arith}
use Rattle.std.proofs.lemmas.Bool.{cases_Bool, eqb-true, eq-eqb, and_parts, not-true}
use Rattle.std.proofs.Math.Nat.{ℕ_set}
use Rattle.std.proofs.lemmas.Grind.{same_number_lists}
use Rattle.std.proofs.lemmas.Fmt.{decimal_injective}
use Rattle.std.specs.Int.Bits.{xor_zero_l}
use Rattle.std.proofs.lemmas.List.Elements.{All-weaker, filter-append, filter_passes}
use Rattle.lrc_code.specs.declared.codes.Code.{Code}
use Rattle.lrc_code.specs.declared.codes.Code.TheVariants.{Wide, Narrow}
use Rattle.lrc_code.specs.declared.numbers.Fragment.{Fragment}
use Rattle.lrc_code.specs.Codes.{all_fragments, fragment_count}
use Rattle.lrc_code.specs.Losses.{FragmentSet, bits_set}
use Rattle.lrc_code.proofs.NumbersLemmas.{equal_fragments}
use Rattle.lrc_field.specs.declared.recipes.Recipe.{Recipe}
use Rattle.lrc_field.specs.Field.{plus, times}
use Rattle.lrc_field.specs.Recipes.{IsRecipe, IsFirstRecipe, read_by}
use Rattle.lrc_field.specs.Stripes.{Bytes, IsStripe, Determines, outside, sum_of, numbers_of}
use Rattle.lrc_field.proofs.FieldLemmas.{zero_times}
use Rattle.lrc_field.proofs.ValueLemmas.{sums_agree}
use Rattle.lrc_field.proofs.MemberLemmas.{fragments_below}
use Rattle.lrc_field.proofs.FirstRecipeLemmas.{one_first_recipe}
use Rattle.lrc_coding.specs.declared.refusal.RecipeRefusal.{RecipeRefusal}
use Rattle.lrc_coding.specs.declared.refusal.RecipeRefusal.TheVariants.{NoMask, NoFragment, NotMissing, Undetermined}
use Rattle.lrc_coding.specs.Answers.{coefficient_in, IsNumberOf, IsAnswerTo, IsAnswer}
use Rattle.lrc_coding.specs.Told.{fragments_read}
use Rattle.lrc_coding.proofs.NumberLemmas.{few_fragments}

-- ---- the sum of what is read

module _ (c : ℕ → ℕ) where
  step : (v : Bytes) (x : ℕ) (xs fs : List ℕ) (b : Bool) → v x < 256 → nat_eq (c x) 0 ≡ b → sum_of c v xs ≡ sum_of c v fs
      → plus (times (c x) (v x)) (sum_of c v xs) ≡ sum_of c v (cond (not b) (x ∷ fs) fs)
  step v x xs fs true lv is tail =
      ap (λ k. plus (times k (v x)) (sum_of c v xs)) (eqb-true (c x) 0 is) ∙ ap (λ k. plus k (sum_of c v xs)) (zero_times (v x) lv) ∙ xor_zero_l (sum_of c v xs) ∙ tail
  step v x xs fs false lv is tail = ap (λ s. plus (times (c x) (v x)) s) tail

  -- a fragment that is not read adds nothing
  read_alone : (v : Bytes) → ((g : ℕ) → v g < 256) → (xs : List ℕ) → sum_of c v xs ≡ sum_of c v (filter (read_by c) xs)
  read_alone v lv [] = refl
  read_alone v lv (x ∷ xs) = step v x xs (filter (read_by c) xs) (nat_eq (c x) 0) (lv x) refl (read_alone v lv xs)

  mapped : (b : Bool) (g : Fragment) (fs : List Fragment) (ns : List ℕ) → map (λ (h : Fragment). h.value) fs ≡ ns
      → map (λ (h : Fragment). h.value) (cond b (g ∷ fs) fs) ≡ cond b (g.value ∷ ns) ns
  mapped true g fs ns is = ap (λ t. g.value ∷ t) is
  mapped false g fs ns is = is

  values : (fs : List Fragment) → map (λ (h : Fragment). h.value) (filter (λ h. read_by c h.value) fs) ≡ filter (read_by c) (map (λ (h : Fragment). h.value) fs)
  values [] = refl
  values (g ∷ fs) = mapped (read_by c g.value) g (filter (λ h. read_by c h.value) fs) (filter (read_by c) (map (λ (h : Fragment). h.value) fs)) (values fs)

  module _ (code : Code) (m : FragmentSet) (f : ℕ) (is : IsRecipe code m f c) where
    unread : (g : ℕ) → fragment_count code ≤ g → read_by c g ≡ false
    unread g past = elim (cases_Bool (read_by c g)) [
      | inl hit ↦ absurd (omega (arith, is.within g hit, past))
      | inr miss ↦ miss
    ]

  none_more : (m : FragmentSet) (f : ℕ) → IsRecipe Narrow m f c → filter (read_by c) (10 ∷ 11 ∷ 12 ∷ 13 ∷ 14 ∷ 15 ∷ []) ≡ []
  none_more m f is =
      let no : (g : ℕ) → 10 ≤ g → read_by c g ≡ false = unread Narrow m f is in
      rw (no 10 (omega arith), no 11 (omega arith), no 12 (omega arith), no 13 (omega arith), no 14 (omega arith), no 15 (omega arith)) refl

  read_numbers : (code : Code) (m : FragmentSet) (f : ℕ) → IsRecipe code m f c → filter (read_by c) (numbers_of Wide) ≡ filter (read_by c) (numbers_of code)
  read_numbers Wide m f is = refl
  read_numbers Narrow m f is =
      filter-append (read_by c) (numbers_of Narrow) (10 ∷ 11 ∷ 12 ∷ 13 ∷ 14 ∷ 15 ∷ [])
      ∙ ap (λ t. filter (read_by c) (numbers_of Narrow) ++ t) (none_more m f is) ∙ append-nil (filter (read_by c) (numbers_of Narrow))

  pub enough : (code : Code) (m : FragmentSet) (f : ℕ) (v : Bytes) → IsRecipe code m f c → IsStripe code v → v f ≡ sum_of c v (map (λ g. g.value) (fragments_read c))
  enough code m f v is stripe =
      is.exact v stripe ∙ read_alone v stripe.bytes (numbers_of code)
      ∙ ap (sum_of c v) (sym (values all_fragments ∙ read_numbers code m f is))

  -- ---- which are read

  pub standing : (code : Code) (m : FragmentSet) (f : ℕ) → IsRecipe code m f c
      → All (λ (g : Fragment). (g.value < fragment_count code) × (IsFalse (m g.value) × (g.value ≢ f))) (fragments_read c)
  standing code m f is =
      All-weaker (λ (g : Fragment). read_by c g.value ≡ true) (λ (g : Fragment). (g.value < fragment_count code) × (IsFalse (m g.value) × (g.value ≢ f)))
      (λ g hit.
      let parts = and_parts (not (m g.value)) (not (nat_eq g.value f)) (is.standing g.value hit) in
      let away : g.value ≢ f = λ same. let never : true ≡ false = sym (eq-eqb g.value f same) ∙ not-true (nat_eq g.value f) parts.1 in absurd (cc) in
      (is.within g.value hit, (not-true (m g.value) parts.0, away)))
      (fragments_read c) (filter_passes (λ (g : Fragment). read_by c g.value) all_fragments)

  -- what is not missing determines a fragment that has a recipe
  pub determined : (code : Code) (m : FragmentSet) (f : ℕ) → IsRecipe code m f c → Determines code (outside m) f
  determined code m f is v w one other same =
      let agree : (g : ℕ) → g < fragment_count code → (c g ≡ 0) ⊎ (v g ≡ w g) = λ g within. elim (cases_Bool (nat_eq (c g) 0)) [
        | inl none ↦ inl (eqb-true (c g) 0 none)
        | inr read ↦ inr (same g within (and_parts (not (m g)) (not (nat_eq g f)) (is.standing g (ap not read))).0)
      ] in
      is.exact v one ∙ sums_agree c v w (fragment_count code) one.bytes other.bytes agree (numbers_of code) (fragments_below code) ∙ sym (is.exact w other)

-- ---- recipes

is_sixteen : (xs : List ℕ) → IsProp (length xs ≡ 16)
is_sixteen xs = ℕ_set (length xs) 16

-- recipes with the same coefficients are equal
same_recipe : (r s : Recipe) → ((g : ℕ) → coefficient_in r g ≡ coefficient_in s g) → r ≡ s
same_recipe r s same =
    let equal = same_number_lists r.coefficients s.coefficients (r.sixteen ∙ sym s.sixteen) (λ k low. same k) in
    subst (λ xs. (h : length xs ≡ 16) → r ≡ record { coefficients = xs; sixteen = h }) equal
    (λ h. ap (λ (e : length r.coefficients ≡ 16). record { coefficients = r.coefficients; sixteen = e }) (is_sixteen r.coefficients r.sixteen h)) s.sixteen

-- ---- answers

module _ (code : Code) (word : List ℕ) where
  same_number : (f g : ℕ) → IsNumberOf code word f → IsNumberOf code word g → f ≡ g
  same_number f g one other =
      let few = few_fragments code in
      decimal_injective f g (omega (arith, one.0, few)) (omega (arith, other.0, few)) (sym one.1 ∙ other.1)

  clash : (m : FragmentSet) (f g : ℕ) → IsNumberOf code word f → IsNumberOf code word g → IsTrue (m f) → IsFalse (m g) → ⊥
  clash m f g one other hit miss = let never : true ≡ false = sym hit ∙ ap m (same_number f g one other) ∙ miss in cc

  module _ (bits : ℕ) where
    either_to : (r : Recipe) (e : RecipeRefusal) → IsAnswerTo code bits word (Ok r) → IsAnswerTo code bits word (Err e) → ⊥
    either_to r NoMask told refused = refused
    either_to r NoFragment (f, missing, is) refused = refused f missing.0.0 missing.0.1
    either_to r (NotMissing g) (f, missing, is) refused = clash (bits_set bits) f g.value missing.0 refused.0 missing.1 refused.1
    either_to r (Undetermined g) (f, missing, is) refused =
        let same = same_number f g.value missing.0 refused.0.0 in
        refused.1 (subst (λ n. Determines code (outside (bits_set bits)) n) same (determined (coefficient_in r) code (bits_set bits) f is.recipe))

    recipe_to : (r s : Recipe) → IsAnswerTo code bits word (Ok r) → IsAnswerTo code bits word (Ok s) → r ≡ s
    recipe_to r s (f, missing, is) (g, missing_too, is_too) =
        let other = subst (λ n. IsFirstRecipe code (bits_set bits) n (coefficient_in s)) (same_number g f missing_too.0 missing.0) is_too in
        same_recipe r s (one_first_recipe code (bits_set bits) f (coefficient_in r) (coefficient_in s) is other)

    one_to : (d e : RecipeRefusal) → IsAnswerTo code bits word (Err d) → IsAnswerTo code bits word (Err e) → d ≡ e
    one_to NoMask e a b = absurd a
    one_to NoFragment NoMask a b = absurd b
    one_to NoFragment NoFragment a b = refl
    one_to NoFragment (NotMissing g) a b = absurd (a g.value b.0.0 b.0.1)
    one_to NoFragment (Undetermined g) a b = absurd (a g.value b.0.0.0 b.0.0.1)
    one_to (NotMissing f) NoMask a b = absurd b
    one_to (NotMissing f) NoFragment a b = absurd (b f.value a.0.0 a.0.1)
    one_to (NotMissing f) (NotMissing g) a b = ap NotMissing (equal_fragments f g (same_number f.value g.value a.0 b.0))
    one_to (NotMissing f) (Undetermined g) a b = absurd (clash (bits_set bits) g.value f.value b.0.0 a.0 b.0.1 a.1)
    one_to (Undetermined f) NoMask a b = absurd b
    one_to (Undetermined f) NoFragment a b = absurd (b f.value a.0.0.0 a.0.0.1)
    one_to (Undetermined f) (NotMissing g) a b = absurd (clash (bits_set bits) f.value g.value a.0.0 b.0 a.0.1 b.1)
    one_to (Undetermined f) (Undetermined g) a b = ap Undetermined (equal_fragments f g (same_number f.value g.value a.0.0 b.0.0))

  pub either : (mask : Option ℕ) (r : Recipe) (e : RecipeRefusal) → IsAnswer code mask word (Ok r) → IsAnswer code mask word (Err e) → ⊥
  either (Some bits) r e told refused = either_to bits r e told refused
  either None r e told refused = let never : ◌≡◌ {A = Result Recipe RecipeRefusal} (Ok r) (Err NoMask) = told in cc

  pub one_recipe : (mask : Option ℕ) (r s : Recipe) → IsAnswer code mask word (Ok r) → IsAnswer code mask word (Ok s) → r ≡ s
  one_recipe (Some bits) r s a b = recipe_to bits r s a b
  one_recipe None r s a b = absurd (let never : ◌≡◌ {A = Result Recipe RecipeRefusal} (Ok r) (Err NoMask) = a in cc)

  pub one : (mask : Option ℕ) (d e : RecipeRefusal) → IsAnswer code mask word (Err d) → IsAnswer code mask word (Err e) → d ≡ e
  one (Some bits) d e a b = one_to bits d e a b
  one None d e a b =
      let whole : ◌≡◌ {A = Result Recipe RecipeRefusal} (Err d) (Err e) = a ∙ sym b in
      cc
