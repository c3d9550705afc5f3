use Rattle.std.proofs.Common.{string_bytes}
use Rattle.lrc_show.proofs.DomainLemmas.{outlooks-joined}
use Rattle.lrc_show.proofs.domains.push_outlooks.Goals as goal

pub returns : goal.returns
returns c =
    outlooks-joined c.args.hit c.args.stripes c.args.rows.now (string_bytes c.args.out.now) (string_bytes c.push_pair.new.out) _ c.in_ok-push_pair.ensures c.in_ok-push_risks.ensures
