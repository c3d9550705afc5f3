use Rattle.std.proofs.Common.{Option, sym, ap, ◌∙◌}
use Rattle.std.proofs.lemmas.Nat.Bits.{bit_at-zero}
use Rattle.lrc_code.specs.declared.codes.Class.{Class}
use Rattle.lrc_code.specs.Codes.{class_of, are_one_class}
use Rattle.lrc_store.proofs.choice.class_members.Goals as goal

pub returns-in-Some : goal.returns-in-Some
returns-in-Some c = λ g.
    c.of_class.ensures g ∙ ap (λ (o : Option Class). are_one_class o (class_of c.args.code g.value)) (sym c.in-Some.is ∙ c.class_in.ensures)

pub returns-in-None : goal.returns-in-None
returns-in-None c = λ g.
    rw (c.from_bits.ensures, bit_at-zero g.value)
    (ap (λ (o : Option Class). are_one_class o (class_of c.args.code g.value)) (sym c.in-None.is ∙ c.class_in.ensures))
