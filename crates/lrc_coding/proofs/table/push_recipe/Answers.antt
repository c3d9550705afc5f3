use Rattle.std.proofs.Common.{◌≤◌, ◌++◌, List, filter, codes, string_bytes, ap, ◌∙◌, append_assoc, arith}
use Rattle.std.specs.Prelude.{flat_map}
use Rattle.std.proofs.lemmas.List.{take_all}
use Rattle.lrc_code.specs.declared.numbers.Fragment.{Fragment}
use Rattle.lrc_code.specs.Codes.{all_fragments}
use Rattle.lrc_field.specs.Recipes.{read_by}
use Rattle.lrc_coding.specs.Told.{coefficient_in, source_row, fragments_read}
use Rattle.lrc_coding.proofs.table.push_recipe.Goals as goal

pub returns : goal.returns
returns c =
    let of = coefficient_in c.args.recipe.now in
    let old = string_bytes c.args.out.now in
    let past : 16 ≤ c.loop-source.source-index = omega (arith, c.loop-source-test.false) in
    c.loop-source.invariant
    ∙ ap (λ (fs : List Fragment). string_bytes c.push_str.new.self ++ flat_map (source_row of) (filter (λ g. read_by of g.value) fs)) (take_all c.loop-source.source-index all_fragments past)
    ∙ ap (λ t. t ++ flat_map (source_row of) (fragments_read of)) c.in_ok-push_str.ensures.bytes
    ∙ append_assoc old (codes "source,coefficient\n") (flat_map (source_row of) (fragments_read of))
