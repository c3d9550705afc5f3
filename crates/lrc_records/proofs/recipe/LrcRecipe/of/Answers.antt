use Rattle.std.proofs.Common.{◌≡◌, true, false, refl, ◌∙◌, arith}
use Rattle.lrc_records.proofs.recipe.LrcRecipe.of.Goals as goal

pub returns-clause-recipe : goal.returns-clause-recipe
returns-clause-recipe c =
    let found = c.in_ok-recipe.ensures in
    rw c.with-2.ensures (record {
      within = omega (arith, c.fragments.ensures.value);
      sixteen = c.in_ok-recipe.recipe.sixteen;
      encoded = refl;
      copied = λ there. absurd (let lost = c.if-not-contains.ensures in let k : true ≡ false = lost ∙ there in cc);
      rebuilt = λ lost. found.recipe;
      local = λ lost group g. found.local group g;
    })
