-- The recipe of a fragment that has a live lease.
use Rattle.std.specs.Prelude.{◌≡◌, ◌<◌, ◌⊎◌, Some, None, is_some, true}
use Rattle.lrc_code.specs.declared.codes.Code.{Code}
use Rattle.lrc_code.specs.declared.losses.LossMask.{LossMask}
use Rattle.lrc_code.specs.declared.numbers.StripeNo.{StripeNo}
use Rattle.lrc_code.specs.declared.numbers.Fragment.{Fragment}
use Rattle.lrc_code.specs.Codes.{fragment_count}
use Rattle.lrc_code.specs.Losses.{bits_set}
use Rattle.lrc_rules.specs.States.{code_shown, missing_shown, lease_of}
use Rattle.lrc_book.specs.Books.{BookView, state_of}
use Rattle.lrc_records.specs.Recipes.{IsRecipeOf}
use Rattle.lrc_records.specs.declared.recipe.LrcRecipe.{LrcRecipe}
use Rattle.lrc_embed.specs.Recipes.{IsDetermined}

-- the fragment has a live lease, and this holds of the stripe's code and of what it misses now
abbrev pub Leased : BookView → StripeNo → Fragment → (Code → LossMask → Type 0) → Type 0
Leased b s f P =
    (is_some (lease_of (state_of b) s f) ≡ true)
    × (code : Code) × (missing : LossMask) × (code_shown (state_of b) s ≡ Some code)
    × (missing_shown b.nodes (state_of b) s ≡ Some missing) × P code missing

-- the recipe is that of the fragment where now fragments are missing
abbrev pub HasRecipe : BookView → LrcRecipe → StripeNo → Fragment → Type 0
HasRecipe b r s f = Leased b s f (λ code missing. IsRecipeOf code (bits_set missing.bits) f r)

-- what is not missing does not determine the fragment
abbrev pub HasNone : BookView → StripeNo → Fragment → Type 0
HasNone b s f =
    Leased b s f (λ code missing. ¬ ((f.value < fragment_count code) × IsDetermined code missing.bits f.value))

-- there is no such stripe, or no live lease of the fragment
abbrev pub HasNoLease : BookView → StripeNo → Fragment → Type 0
HasNoLease b s f = (code_shown (state_of b) s ≡ None) ⊎ (lease_of (state_of b) s f ≡ None)
