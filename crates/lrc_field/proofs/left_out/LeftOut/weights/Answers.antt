use Rattle.std.proofs.Common.{refl}
use Rattle.lrc_field.specs.Weights.{weights_without}
use Rattle.lrc_field.proofs.left_out.LeftOut.weights.Goals as goal

pub returns : goal.returns
unfolding weights_without
returns c = rw (c.line.ensures, c.line-2.ensures, c.place.ensures, c.place-2.ensures, c.globals-globals.ensures) refl
