use Rattle.std.proofs.Common.{rules, arith, ◌≡◌, ◌<◌, ◌-◌, inl, [], ◌∷◌, length, take, List, Some, IfSome, ap, subst, sym, ◌∙◌}
use Rattle.std.proofs.lemmas.List.{get_or_default}
use Rattle.lrc_code.specs.declared.fault.Fault.TheVariants.{OutOfMemory}
use Rattle.lrc_book.specs.Books.{BookView, FaultFits}
use Rattle.lrc_rules.specs.declared.entry.Entry.{Entry}
use Rattle.lrc_sessions.specs.Calls.{AreCalled, IsFullIn}
use Rattle.lrc_sessions.proofs.CallLemmas.{called_one, left_none}
use Rattle.lrc_sessions.proofs.locked_state.LockedState.call.Goals as goal

pub returns-in-Some-clause-left : goal.returns-in-Some-clause-left
returns-in-Some-clause-left g c =
    let called = c.call_all-fault in
    let nodes = g.N.ViewNaming.topology in
    let limit = g.N.ViewNaming.limit in
    let first = called.result.0.first in
    let before = c.args.session.now in
    let after = called.new.session in
    let fits = subst (λ o. IfSome o (λ f. (called.result.0.count < 1) × FaultFits called.new.self f × IsFullIn limit after.seen f)) c.in-Some.is called.ensures.fault in
    let none : called.result.0.count ≡ 0 = omega (arith, fits.0) in
    let batch : AreCalled nodes before [] first after = subst (λ k. AreCalled nodes before (take k (c.args.command ∷ [])) first after) none called.ensures.called in
    left_none nodes limit first before after c.in-Some.fault batch fits.2 (λ is. called.ensures.left none (c.in-Some.is ∙ ap (λ f. Some f) is))

pub returns-clause-called : goal.returns-clause-called
returns-clause-called g c =
    let called = c.call_all-fault in
    let nodes = g.N.ViewNaming.topology in
    let first = called.result.0.first in
    let before = c.args.session.now in
    let after = called.new.session in
    let all : called.result.0.count ≡ 1 = called.ensures.all (search rules) in
    let batch = subst (λ k. AreCalled nodes before (take k (c.args.command ∷ [])) first after) all called.ensures.called in
    let h : List Entry = c.history-history.result.now in
    let seen : after.seen ≡ h = called.ensures.seen (inl (omega (arith, all)))
    ∙ sym (c.history-history.ensures.value ∙ ap (λ (b : BookView). b.history) (c.book.ensures.value ∙ c.self.view_is)) in
    called_one nodes before after c.args.command (record { place = first; reply = c.reply.result }) batch
    (λ d some.
    let within : length h - 1 < length h = omega (arith, some, ap length seen) in
    rw seen (c.reply.ensures ∙ ap (λ (e : Entry). e.reply) (c.index-history-history.is ∙ get_or_default h (length h - 1) c.index-history-history.result d within)))
