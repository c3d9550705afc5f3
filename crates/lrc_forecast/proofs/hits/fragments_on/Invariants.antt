use Rattle.std.proofs.Common.{◌≡◌, ℕ, ◌&&◌, ltb}
use Rattle.lrc_code.specs.Losses.{bits_set}
use Rattle.lrc_book.proofs.MaskLemmas.{tested}
use Rattle.lrc_forecast.specs.Hits.{is_on_set}
use Rattle.lrc_forecast.proofs.hits.fragments_on.Given as goal

-- the fragments so far
abbrev pub invariant-loop-fragment : goal.invariant-loop-fragment
invariant-loop-fragment l = (f : ℕ) → bits_set l.set.bits f ≡ (ltb f l.fragment-index && tested l.code (is_on_set l.nodes) l.homes f)
