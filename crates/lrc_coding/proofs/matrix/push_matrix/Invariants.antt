use Rattle.std.proofs.Common.{◌≡◌, ◌++◌, [], if◌then◌else◌, take, string_bytes}
use Rattle.std.specs.Prelude.{flat_map}
use Rattle.lrc_code.specs.Codes.{all_fragments, has_fragment}
use Rattle.lrc_coding.specs.Told.{matrix_line}
use Rattle.lrc_coding.proofs.matrix.push_matrix.Given as goal

-- the lines so far
abbrev pub invariant-loop-fragment : goal.invariant-loop-fragment
invariant-loop-fragment l =
    string_bytes l.out
    ≡ string_bytes l.initial.out ++ flat_map (λ f. if has_fragment l.code f.value then matrix_line l.code f.value else []) (take l.fragment-index all_fragments)
