use Rattle.std.proofs.Common.{◌≡◌, ◌++◌, take, string_bytes}
use Rattle.lrc_show.specs.Listed.{fragments_field}
use Rattle.lrc_show.proofs.FieldLemmas.{is_start}
use Rattle.lrc_show.proofs.words.push_fragments.Given as goal

-- the numbers so far
abbrev pub invariant-loop-fragment : goal.invariant-loop-fragment
invariant-loop-fragment l = record {
  told : string_bytes l.out ≡ string_bytes l.initial.out ++ fragments_field (take l.fragment-index l.fragments);
  first : l.is_first ≡ is_start (take l.fragment-index l.fragments);
}
