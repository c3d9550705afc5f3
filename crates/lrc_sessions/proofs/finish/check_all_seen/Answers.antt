use Rattle.std.proofs.Common.{◌≤◌, List, All, ◌∙◌, subst, arith}
use Rattle.std.proofs.lemmas.List.{take_all}
use Rattle.std.proofs.lemmas.List.Elements.{All-more}
use mathlib.Core.List.{IsPrefix}
use Rattle.lrc_book.specs.Books.{BookView}
use Rattle.lrc_rules.specs.declared.entry.Entry.{Entry}
use Rattle.lrc_sessions.specs.Views.{SessionView}
use Rattle.lrc_sessions.specs.Counts.{made_in}
use Rattle.lrc_sessions.proofs.finish.check_all_seen.Goals as goal

abbrev Begins : List Entry → SessionView → Type 0
Begins h s = IsPrefix s.seen h

abbrev IsCounted : List Entry → SessionView → Type 0
IsCounted h s = s.made ≤ made_in s.number h

pub loop-session-preserved : goal.loop-session-preserved
loop-session-preserved g c =
    let v = c.loop-session.invariant in
    let h : List Entry = c.args.keeper.now.history in
    let ss : List SessionView = c.args.sessions.now in
    let i = c.loop-session.session-index in
    let s : SessionView = c.session-item.result in
    let begins = subst (λ (k : BookView). Begins k.history s) v.same c.check_seen.ensures.begins in
    let counted = subst (λ (k : BookView). IsCounted k.history s) v.same c.check_seen.ensures.made in
    record {
      same = c.check_seen.ensures.same ∙ v.same;
      begin = All-more (Begins h) ss i s (omega arith) v.begin (subst (Begins h) c.session-item.is begins);
      made = All-more (IsCounted h) ss i s (omega arith) v.made (subst (IsCounted h) c.session-item.is counted);
    }

pub returns-clause-begin : goal.returns-clause-begin
returns-clause-begin g c =
    let ss : List SessionView = c.args.sessions.now in
    let all = take_all c.loop-session.session-index ss (omega arith) in
    subst (λ (l : List SessionView). All (Begins c.args.keeper.now.history) l) all c.loop-session.invariant.begin

pub returns-clause-made : goal.returns-clause-made
returns-clause-made g c =
    let ss : List SessionView = c.args.sessions.now in
    let all = take_all c.loop-session.session-index ss (omega arith) in
    subst (λ (l : List SessionView). All (IsCounted c.args.keeper.now.history) l) all c.loop-session.invariant.made
