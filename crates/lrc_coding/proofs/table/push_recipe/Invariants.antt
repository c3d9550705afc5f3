use Rattle.std.proofs.Common.{◌≡◌, ◌++◌, take, filter, string_bytes}
use Rattle.std.specs.Prelude.{flat_map}
use Rattle.lrc_code.specs.Codes.{all_fragments}
use Rattle.lrc_field.specs.Recipes.{read_by}
use Rattle.lrc_coding.specs.Told.{coefficient_in, source_row}
use Rattle.lrc_coding.proofs.table.push_recipe.Given as goal

-- the rows of the sources so far
abbrev pub invariant-loop-source : goal.invariant-loop-source
invariant-loop-source l =
    string_bytes l.out
    ≡ string_bytes l.initial.out ++ flat_map (source_row (coefficient_in l.recipe)) (filter (λ g. read_by (coefficient_in l.recipe) g.value) (take l.source-index all_fragments))
