use Rattle.std.proofs.Common.{◌≡◌, ◌++◌, ℕ, List, false, OnOk, string_bytes, subst, arith, rules}
use Rattle.std.proofs.lemmas.Fmt.{hex_byte}
use Rattle.lrc_coding.proofs.matrix.push_byte.Goals as goal

pub returns : goal.returns
returns c =
    subst (λ (t : List ℕ). OnOk c.write.result (string_bytes c.write.new.self ≡ string_bytes c.args.out.now ++ (c.args.mark.now ++ t)))
    (hex_byte false c.args.byte (omega arith)) (search rules)
