use Rattle.std.proofs.Common.{rules, arith, ◌≡◌, ◌+◌, ◌≤◌, length, take, ap, subst, ◌∙◌}
use Rattle.lrc_book.specs.Books.{BookView}
use Rattle.lrc_board.specs.Batches.{AreMadeBehind}
use Rattle.lrc_sessions.specs.Views.{SessionView}
use Rattle.lrc_sessions.proofs.CallLemmas.{unmade, length_behind, made_behind}
use Rattle.lrc_sessions.proofs.locked_state.LockedState.call_all.Goals as goal

pub invariant_of-self : goal.invariant_of-self
invariant_of-self g c =
    let made = c.apply_all-fault in
    let none = c.is_unmade.ensures.0 (search rules) in
    let same : made.new.self.history ≡ c.self.inside.keeper.history =
    unmade c.covers.new.self.history made.new.self.history c.session.inside.number c.args.commands.now made.result.0.count none.0 made.ensures.entries
    ∙ ap (λ (b : BookView). b.history) c.covers.ensures.same in
    rw same (search rules)

pub returns-then-is_unmade-clause-made : goal.returns-then-is_unmade-clause-made
returns-then-is_unmade-clause-made g c =
    let made = c.apply_all-fault in (
      c.session.inside.number,
      ap (λ (v : SessionView). v.number) c.session.view_is,
      subst (λ (b : BookView). AreMadeBehind b.history c.session.inside.number (take made.result.0.count c.args.commands.now) made.new.self.history)
          (c.covers.ensures.same ∙ c.self.view_is) made.ensures.entries,
    )

pub invariant_of-session-2 : goal.invariant_of-session-2
invariant_of-session-2 g c =
    let made = c.apply_all-fault in
    let behind = made_behind c.session.inside.made made.result.0.count c.session.inside.viewer c.covers.new.self.history made.new.self.history c.advance.new.viewer
    c.session.inside.number c.args.commands.now made.ensures.entries made.ensures.some c.session.invariant.4 (search rules) c.advance.ensures.all in
    let grown = length_behind c.covers.new.self.history made.new.self.history c.session.inside.number c.args.commands.now made.result.0.count made.ensures.entries made.ensures.some in
    let total : length c.covers.new.self.history ≡ c.self.inside.tally.total = ap (λ (b : BookView). length b.history) c.covers.ensures.same ∙ c.self.invariant.0.4 in
    let few : length made.new.self.history ≤ g.N.ViewNaming.limit = search rules in
    let counted : c.session.inside.made + made.result.0.count ≤ g.N.ViewNaming.limit =
    omega (arith, c.audit.ensures.bound, c.add.ensures.total, c.add.ensures.amount, c.session.invariant.1, grown, total, few) in
    (search rules, search rules, counted, search rules, behind, search rules)

pub returns-clause-made : goal.returns-clause-made
returns-clause-made g c =
    let made = c.apply_all-fault in (
      c.session.inside.number,
      ap (λ (v : SessionView). v.number) c.session.view_is,
      subst (λ (b : BookView). AreMadeBehind b.history c.session.inside.number (take made.result.0.count c.args.commands.now) made.new.self.history)
          (c.covers.ensures.same ∙ c.self.view_is) made.ensures.entries,
    )
