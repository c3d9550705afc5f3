use Rattle.std.proofs.Common.{◌≡◌, ◌++◌, refl, sym, ap, subst, ◌∙◌}
use Rattle.lrc_rules.specs.declared.command.Command.{Command}
use Rattle.lrc_rules.specs.declared.reply.Reply.TheVariants.{Granted}
use Rattle.lrc_rules.specs.States.{State}
use Rattle.lrc_rules.specs.Leases.{with_lease}
use Rattle.lrc_rules.specs.Steps.{step as step_of}
use Rattle.lrc_rules.specs.Histories.{world_from, state_from}
use Rattle.lrc_rules.specs.Changes.{changed_by}
use Rattle.lrc_store.specs.Stores.{IsOf}
use Rattle.lrc_store.specs.declared.cursor.RepairCursor.TheVariants.{First, At}
use Rattle.lrc_store.specs.Repairing.{IsRepairCursor}
use Rattle.lrc_book.specs.Books.{base_world}
use Rattle.lrc_answers.specs.Answers.{told}
use Rattle.lrc_rules.specs.declared.entry.Entry.{Entry}
use Rattle.lrc_book.proofs.WorldLemmas.{kept_push}
use Rattle.lrc_book.proofs.CountedLemmas.{counted-none}
use Rattle.lrc_rules.proofs.StepLemmas.{step-changed}
use Rattle.lrc_book.proofs.GrantedLemmas.{granted-told, kept-granted}
use Rattle.lrc_rules.proofs.MostUrgentLemmas.{granted-urgent}
use Rattle.lrc_store.proofs.CursorLemmas.{cursor-leased, cursor-granted}
use Rattle.lrc_book.proofs.step.make.Goals as goal

pub grant-requires : goal.grant-requires
grant-requires g c =
    let nodes = c.args.store.now.topology in
    let past = (world_from nodes (base_world c.args.base.now) c.args.past.now).past in
    let made = c.made.inside in
    let step = rw (← c.made.view_is) at c.requires.1.1.1.0 in
    let so = subst (λ (st : State). (step_of nodes past st made.session made.command).0 ≡ told made.answer) c.requires.0 step in
    let now = c.in-Granted in
    (c.requires.1.0, granted-told nodes past g.st made.session made.command now.lease now.field-1 (so ∙ ap told now.is))

pub make_change-requires : goal.make_change-requires
make_change-requires g c =
    let nodes = c.args.store.now.topology in
    let past = (world_from nodes (base_world c.args.base.now) c.args.past.now).past in
    let made = c.made.inside in
    let step = rw (← c.made.view_is) at c.requires.1.1.1.0 in (
      c.requires.1.0,
      (
        (past, made.session, subst (λ (st : State). (step_of nodes past st made.session made.command).0 ≡ told made.answer) c.requires.0 step),
        (c.in_default.not-Granted, c.requires.1.1.1.1),
      ),
    )

pub returns-then-not-changes-clause-kept : goal.returns-then-not-changes-clause-kept
returns-then-not-changes-clause-kept g c = λ limit was below.
    let nodes = c.args.store.now.topology in
    let past = c.args.past.now in
    let made = c.made.inside in
    let e : Entry = record { session = made.session; command = made.command; reply = told made.answer } in
    let step = rw (← c.made.view_is) at c.requires.1.1.1.0 in
    let w = world_from nodes (base_world c.args.base.now) past in
    let same : changed_by w.state e.command e.reply ≡ w.state =
    sym (step-changed nodes w.past w.state e.session e.command ∙ ap (changed_by w.state e.command) step)
    ∙ c.changes.ensures.same c.if-not-changes.true nodes w.past w.state e.session e.command step in
    rw (← c.made.view_is)
    (kept_push c.args.store.now c.args.store.now c.args.grants.now c.args.grants.now c.args.cursor.now c.cursor_after.result limit (base_world c.args.base.now) past e was below step
    refl (subst (λ (st : State). IsOf st c.args.store.now) (sym same) was.store_is)
    (counted-none ((base_world c.args.base.now).past ++ past) e c.args.grants.now was.counted (c.changes.ensures.none c.if-not-changes.true))
    (subst (λ (st : State). IsRepairCursor nodes st c.cursor_after.result) (sym same) (c.cursor_after.ensures nodes w.past w.state c.requires.1.1.1.0 was.cursor_is)))

pub returns-in-Next-clause-kept : goal.returns-in-Next-clause-kept
returns-in-Next-clause-kept g c = λ limit was below.
    let nodes = c.args.store.now.topology in
    let past = c.args.past.now in
    let made = c.made.inside in
    let l = c.in-Granted.lease in
    let k = c.in-Granted.field-1 in
    let e : Entry = record { session = made.session; command = made.command; reply = told made.answer } in
    let step = rw (← c.made.view_is) at c.requires.1.1.1.0 in
    let w = world_from nodes (base_world c.args.base.now) past in
    let most = granted-urgent nodes w.past w.state made.session l k
    (subst (λ (command : Command). (step_of nodes w.past w.state made.session command).0 ≡ Granted l k) c.in-Next.is (step ∙ ap told c.in-Granted.is)) in
    rw (← c.made.view_is)
    (kept-granted c.args.store.now c.grant.new.self c.args.grants.now c.count_grant.new.counts c.args.cursor.now (At l.stripe) limit (base_world c.args.base.now) past e l k
    (ap told c.in-Granted.is) was below step c.grant.ensures.nodes
    (subst (λ (st : State). IsOf (with_lease st l) c.grant.new.self) (sym c.requires.0) c.grant.ensures.kept) (c.count_grant.ensures ((base_world c.args.base.now).past ++ past) e refl was.counted)
    (cursor-granted nodes w.state l (l.stripe, l.fragment) most))

pub returns-in_default-command : goal.returns-in_default-command
returns-in_default-command g c = record {
  nodes = c.grant.ensures.nodes;
  kept = λ limit was below.
      let past = c.args.past.now in
      let made = c.made.inside in
      let l = c.in-Granted.lease in
      let cursor = c.args.cursor.now in
      let e : Entry = record { session = made.session; command = made.command; reply = told made.answer } in
      rw (← c.made.view_is)
      (kept-granted c.args.store.now c.grant.new.self c.args.grants.now c.count_grant.new.counts cursor cursor limit (base_world c.args.base.now) past e l c.in-Granted.field-1
      (ap told c.in-Granted.is) was below (rw (← c.made.view_is) at c.requires.1.1.1.0) c.grant.ensures.nodes
      (subst (λ (st : State). IsOf (with_lease st l) c.grant.new.self) (sym c.requires.0) c.grant.ensures.kept) (c.count_grant.ensures ((base_world c.args.base.now).past ++ past) e refl was.counted)
      (cursor-leased c.args.store.now.topology (state_from c.args.store.now.topology (base_world c.args.base.now) past) l cursor was.cursor_is));
}

pub returns-in_default-clause-kept : goal.returns-in_default-clause-kept
returns-in_default-clause-kept g c = λ limit was below.
    let nodes = c.args.store.now.topology in
    let past = c.args.past.now in
    let made = c.made.inside in
    let e : Entry = record { session = made.session; command = made.command; reply = told made.answer } in
    let step = rw (← c.made.view_is) at c.requires.1.1.1.0 in
    let w = world_from nodes (base_world c.args.base.now) past in
    let now : IsOf (step_of nodes w.past w.state e.session e.command).1 c.make_change.new.self =
    subst (λ (st : State). (step_of nodes w.past st e.session e.command).0 ≡ e.reply → IsOf (step_of nodes w.past st e.session e.command).1 c.make_change.new.self) (sym c.requires.0)
    (c.make_change.ensures.kept w.past e.session) step in
    rw (← c.made.view_is)
    (kept_push c.args.store.now c.make_change.new.self c.args.grants.now c.count_grant.new.counts c.args.cursor.now First limit (base_world c.args.base.now) past e was below step
    c.make_change.ensures.nodes
    (subst (λ (st : State). IsOf st c.make_change.new.self) (step-changed nodes w.past w.state e.session e.command ∙ ap (changed_by w.state e.command) step) now)
    (c.count_grant.ensures ((base_world c.args.base.now).past ++ past) e refl was.counted) refl)
