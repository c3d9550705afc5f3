use Rattle.std.proofs.Common.{refl}
use Rattle.lrc_field.specs.Weights.{value_at}
use Rattle.lrc_field.proofs.equations.Weights.at.Goals as goal

pub returns : goal.returns
unfolding value_at
returns c =
    rw (c.multiply-first.ensures, c.multiply-second.ensures, c.multiply-third.ensures, c.multiply-fourth.ensures, c.coefficient.ensures, c.coefficient-2.ensures, c.coefficient-3.ensures, c.coefficient-4.ensures) refl
