use Rattle.std.proofs.Common.{◌≡◌, List, ℕ, subst, arith, rules, string_bytes, IfOk}
use Rattle.lrc_text.proofs.DigitLemmas.{mask_written}
use Rattle.lrc_text.proofs.tables.mask_word.Goals as goal

-- src/tables.rt:55:1
pub returns : goal.returns
returns c = subst (λ (t : List ℕ). IfOk c.format.result (λ word. string_bytes word ≡ t)) (mask_written c.args.bits (omega (arith, c.ranges.bits.fits))) (search rules)
