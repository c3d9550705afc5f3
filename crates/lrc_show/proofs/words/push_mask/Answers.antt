use Rattle.std.proofs.Common.{◌≡◌, ◌++◌, List, ℕ, codes, string_bytes, OnOk, subst, arith, rules}
use Rattle.lrc_text.proofs.DigitLemmas.{mask_written}
use Rattle.lrc_show.proofs.words.push_mask.Goals as goal

pub returns : goal.returns
returns c =
    subst (λ (t : List ℕ). OnOk c.write.result (string_bytes c.write.new.self ≡ string_bytes c.args.out.now ++ (codes "0x" ++ t)))
    (mask_written c.args.mask.bits (omega arith)) (search rules)
