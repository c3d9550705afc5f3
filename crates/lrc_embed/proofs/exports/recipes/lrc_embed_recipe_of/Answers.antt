use Rattle.lrc_embed.proofs.exports.recipes.lrc_embed_recipe_of.Goals as goal

pub returns-clause-done : goal.returns-clause-done
returns-clause-done c = λ is_done.
    (c.in-Some.code, c.in-Some.ensures.some, (c.in-Some-new.fragment, c.in-Some-new.ensures.value, c.put_recipe.ensures.done is_done))
