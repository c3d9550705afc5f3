-- The answer where the fragment is missing.
use Rattle.std.proofs.Common.{◌≡◌, ℕ, ◌<◌, ◌↔◌, Bool, true, false, not, ◌&&◌, nat_eq, List, Option, Some, None, IfSome, IsSome, refl, sym, ap, ◌∙◌}
use Rattle.std.specs.Option.{ok_or}
use Rattle.std.proofs.lemmas.Bool.{eqb-true}
use Rattle.lrc_code.specs.declared.codes.Code.{Code}
use Rattle.lrc_code.specs.declared.numbers.Fragment.{Fragment}
use Rattle.lrc_code.specs.Codes.{fragment_count}
use Rattle.lrc_code.specs.Losses.{FragmentSet, bits_set}
use Rattle.lrc_field.specs.declared.recipes.Recipe.{Recipe}
use Rattle.lrc_field.specs.Recipes.{IsFirstRecipe, readable}
use Rattle.lrc_field.specs.Stripes.{Determines, outside}
use Rattle.lrc_coding.specs.declared.refusal.RecipeRefusal.TheVariants.{Undetermined}
use Rattle.lrc_coding.specs.Answers.{coefficient_in, IsMissing, IsAnswerTo}

-- a fragment that is missing is none of those outside
read_too : (m : FragmentSet) (f g : ℕ) → m f ≡ true → not (m g) ≡ true → (b : Bool) → nat_eq g f ≡ b → (not (m g) && not b) ≡ true
read_too m f g lost outside false is = ap (λ x. x && true) outside
read_too m f g lost outside true is = absurd (
    let same : m g ≡ true = ap m (eqb-true g f is) ∙ lost in
    let never : false ≡ true = ap not (sym same) ∙ outside in
    cc
    )

pub by_outside : (code : Code) (m : FragmentSet) (f : ℕ) → m f ≡ true → Determines code (outside m) f → Determines code (readable m f) f
by_outside code m f lost determined v w one other same =
    determined v w one other (λ g within known. same g within (read_too m f g lost known (nat_eq g f) refl))

pub answered : (code : Code) (bits : ℕ) (word : List ℕ) (f : Fragment) (found : Option Recipe) → IsMissing code bits word f.value
    → IfSome found (λ r. IsFirstRecipe code (bits_set bits) f.value (coefficient_in r))
    → IsSome found ↔ ((f.value < fragment_count code) × Determines code (readable (bits_set bits) f.value) f.value)
    → IsAnswerTo code bits word (ok_or found (Undetermined f))
answered code bits word f (Some r) missing recipe some = (f.value, missing, recipe)
answered code bits word f None missing recipe some =
    (missing, λ determined. absurd (let never : ◌≡◌ {A = Bool} false true = some.1 (missing.0.0, by_outside code (bits_set bits) f.value missing.1 determined) in cc))
