use Rattle.std.proofs.Common.{refl}
use Rattle.lrc_rows.proofs.rows.one_row.put_home.Goals as goal

pub returns-in-Some : goal.returns-in-Some
returns-in-Some c = rw c.in-Some.is (_, refl, record { homes = c.put.ensures; domains = refl; losses = refl })
