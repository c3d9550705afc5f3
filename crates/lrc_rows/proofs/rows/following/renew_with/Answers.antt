use Rattle.lrc_rows.proofs.rows.following.renew_with.Goals as goal

pub returns : goal.returns
returns c = record { more = c.in_upgrade-more.result; each = c.in_upgrade-more.ensures; ranks = c.renew.ensures }
