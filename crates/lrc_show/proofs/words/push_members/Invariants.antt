use Rattle.std.proofs.Common.{◌≡◌, ◌++◌, take, string_bytes}
use Rattle.lrc_code.specs.Codes.{all_fragments}
use Rattle.lrc_code.specs.Losses.{bits_set}
use Rattle.lrc_show.specs.Listed.{fragments_field}
use Rattle.lrc_show.proofs.FieldLemmas.{is_start, own_members}
use Rattle.lrc_show.proofs.words.push_members.Given as goal

-- the members so far
abbrev pub invariant-loop-fragment : goal.invariant-loop-fragment
invariant-loop-fragment l = record {
  told : string_bytes l.out ≡ string_bytes l.initial.out ++ fragments_field (own_members l.code (bits_set l.mask.bits) (take l.fragment-index all_fragments));
  first : l.is_first ≡ is_start (own_members l.code (bits_set l.mask.bits) (take l.fragment-index all_fragments));
}
