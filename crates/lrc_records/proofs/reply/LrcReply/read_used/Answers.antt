use Rattle.std.proofs.Common.{◌≡◌, length, refl, rules}
use Rattle.lrc_records.proofs.ReadLemmas.{lease_of, ten_seats}
use Rattle.lrc_records.proofs.reply.LrcReply.read_used.Goals as goal

pub returns-in_err-read-in-3-clause-read : goal.returns-in_err-read-in-3-clause-read
returns-in_err-read-in-3-clause-read c = λ reply range e.
    let found = lease_of reply c.args.self.now e c.in-3.is in
    absurd (c.in_err-read-in-3.ensures.none refl found.0 found.1)

pub returns-in-9-clause-read : goal.returns-in-9-clause-read
returns-in-9-clause-read c = λ reply range e.
    let long : length c.args.self.now.seats ≡ 16 = search rules in
    ten_seats reply c.args.self.now c.first-in-9.result e c.in-9.is long c.first-in-9.ensures
