use Rattle.std.proofs.Common.{◌≡◌, ℕ, ◌&&◌, ltb, get_or, None}
use Rattle.std.specs.Prelude.{is_none}
use Rattle.lrc_code.specs.Codes.{has_fragment}
use Rattle.lrc_code.specs.Losses.{bits_set}
use Rattle.lrc_book.proofs.masks.homeless_of.Given as goal

-- the homeless fragments so far
abbrev pub invariant-loop-fragment : goal.invariant-loop-fragment
invariant-loop-fragment l = (f : ℕ) → bits_set l.set.bits f ≡ (ltb f l.fragment-index && (has_fragment l.code f && is_none (get_or l.homes f None)))
