use Rattle.std.proofs.Common.{IsTrue, sym, subst}
use Rattle.std.proofs.lemmas.Bool.{and_parts}
use Rattle.lrc_stripes.specs.Stored.{Stored, has_work, AreWork, AreWorkFrom}
use Rattle.lrc_stripes.specs.Tables.{stored_in}
use Rattle.lrc_store.specs.Repairing.{IsRepairCursor}
use Rattle.lrc_rules.proofs.MemberLemmas.{All-members}
use Rattle.lrc_store.proofs.CursorLemmas.{past-works, grantable-all, grantable-from}
use Rattle.lrc_store.proofs.store.Store.work_from.Goals as goal

pub work_from-requires : goal.work_from-requires
work_from-requires c =
    let (st, kept, ahead) = c.requires in
    let nodes = c.args.self.now.topology in
    let past = subst (IsRepairCursor nodes st) c.in-At.is ahead in
    subst (λ (t : Stored). IsTrue (has_work t c.in-At.first)) (sym kept.stripes_is) (past-works nodes st c.in-At.first past)

pub returns-in-At-clause-there : goal.returns-in-At-clause-there
returns-in-At-clause-there c =
    let t = stored_in c.args.self.now.stripes in
    All-members (λ s. IsTrue (t.stripes s)) c.work_from.result (λ s here.
    (and_parts (t.stripes s) _ (and_parts (has_work t s) _ ((c.work_from.ensures.each s).0 here)).0).0)

pub returns-in-At-clause-all : goal.returns-in-At-clause-all
returns-in-At-clause-all c = λ st kept ahead.
    let nodes = c.args.self.now.topology in
    let first = c.in-At.first in
    grantable-from nodes st first c.work_from.result (subst (IsRepairCursor nodes st) c.in-At.is ahead)
    (subst (λ (t : Stored). AreWorkFrom t first c.work_from.result) kept.stripes_is c.work_from.ensures)

pub returns-in-First : goal.returns-in-First
returns-in-First c = record {
  there =
      let t = stored_in c.args.self.now.stripes in
      All-members (λ s. IsTrue (t.stripes s)) c.work.result (λ s here. (and_parts (t.stripes s) _ ((c.work.ensures.each s).0 here)).0);
  all = λ st kept ahead.
      grantable-all c.args.self.now.topology st c.work.result
      (subst (λ (t : Stored). AreWork t c.work.result) kept.stripes_is c.work.ensures);
}
