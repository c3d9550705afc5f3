use Rattle.std.proofs.Common.{◌≡◌, ◌++◌, take, get_or, codes, None, string_bytes}
use Rattle.std.specs.Prelude.{flat_map}
use Rattle.lrc_code.specs.Codes.{all_fragments}
use Rattle.lrc_show.specs.Listed.{home_field}
use Rattle.lrc_show.proofs.stripes.push_homes.Given as goal

-- the homes of the fragments so far
abbrev pub invariant-loop-fragment : goal.invariant-loop-fragment
invariant-loop-fragment l =
    string_bytes l.out
    ≡ string_bytes l.initial.out ++ flat_map (λ f. codes "," ++ home_field l.code f (get_or l.homes f.value None)) (take l.fragment-index all_fragments)
