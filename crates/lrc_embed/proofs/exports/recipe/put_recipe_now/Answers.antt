use Rattle.std.proofs.Common.{inl, sym, ◌∙◌}
use Rattle.lrc_book.specs.Books.{state_of}
use Rattle.lrc_embed.proofs.RecipeLemmas.{no_code}
use Rattle.lrc_embed.proofs.exports.recipe.put_recipe_now.Goals as goal

pub returns-in_default-missing-clause-unknown : goal.returns-in_default-missing-clause-unknown
returns-in_default-missing-clause-unknown c = λ _. inl (no_code c.args.book.now.nodes (state_of c.args.book.now) c.args.stripe (sym c.missing.ensures ∙ c.in_default-missing.is))
