use Rattle.std.proofs.Common.{refl, arith}
use Rattle.lrc_images.proofs.CutLemmas.{within_rows}
use Rattle.lrc_openings.proofs.opening.begin_over.Goals as goal

pub line_of-requires : goal.line_of-requires
line_of-requires c =
    let first = rw c.in-Err-Refused.field-0-is at c.in-Err-Refused.ensures.refused in
    let within = within_rows c.args.topology c.args.image c.in-Err-Refused.position c.in-Err-Refused.cause first in
    omega (arith, c.upgrading_in-upgrading.ensures.room, within)

pub returns-in-Ok-clause-begun : goal.returns-in-Ok-clause-begun
returns-in-Ok-clause-begun c =
    let value = c.in-Ok.ensures.value in record {
      lawful = c.in-Ok.ensures.lawful refl;
      begun = record { nodes_are = value.0; base_is = value.3; before_is = value.4; empty = value.2 };
      limit_is = value.1;
    }

pub returns-in-Err-Refused-clause-refused : goal.returns-in-Err-Refused-clause-refused
returns-in-Err-Refused-clause-refused c = (
  c.in-Err-Refused.position,
  rw c.in-Err-Refused.field-0-is at c.in-Err-Refused.ensures.refused,
  rw (← c.upgrading_in-upgrading.ensures.value) c.line_of.ensures,
)
