use Rattle.std.proofs.Common.{refl}
use Rattle.lrc_rows.proofs.rows.one_row.put_missing.Goals as goal

pub returns-in-Some : goal.returns-in-Some
returns-in-Some c = rw c.in-Some.is (_, refl, record { homes = refl; domains = refl; code = refl; homeless = refl; missing = c.put-row.ensures; needs = refl })
