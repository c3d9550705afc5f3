use Rattle.std.proofs.Common.{◌≡◌, ◌/◌, ◌%◌, arith, refl}
use Rattle.lrc_field.specs.Field.{times_x}
use Rattle.lrc_field.proofs.field.times_x.Goals as goal

pub returns : goal.returns
unfolding times_x
returns c = let e : c.args.element / 128 % 2 ≡ c.args.element / 128 = omega arith in rw e refl
