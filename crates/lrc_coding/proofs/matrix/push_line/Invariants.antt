use Rattle.std.proofs.Common.{◌≡◌, ◌++◌, [], if◌then◌else◌, nat_eq, map, take, codes, string_bytes}
use Rattle.std.specs.List.{join_with_byte}
use denote.Text.{Utf8}
use denote.Shadow.{shadow}
use Rattle.lrc_coding.specs.Told.{byte_field}
use Rattle.lrc_coding.proofs.matrix.push_line.Given as goal

-- the bytes so far; a space stands before the next one unless it is the first
abbrev pub invariant-loop-byte : goal.invariant-loop-byte
invariant-loop-byte l = record {
  utf8 : shadow (Utf8 l.mark);
  mark : l.mark ≡ (if nat_eq l.byte-index 0 then [] else codes " ");
  told : string_bytes l.out ≡ string_bytes l.initial.out ++ join_with_byte 32 (map byte_field (take l.byte-index l.bytes));
}
