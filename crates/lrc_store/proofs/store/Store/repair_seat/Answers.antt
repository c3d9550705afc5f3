use Rattle.std.proofs.Common.{ap, subst, ◌∙◌, map}
use Rattle.lrc_slots.specs.Slots.{Slots}
use Rattle.lrc_slots.specs.Barred.{Barred, no_bars, joined}
use Rattle.lrc_code.specs.declared.codes.Code.{Code}
use Rattle.lrc_rules.specs.States.{code_of, held_by}
use Rattle.lrc_bars.specs.Ties.{bars_in, bars_of, next_seat, kept_table, closed, AreClassMembers}
use Rattle.lrc_bars.specs.Neighbouring.{barred_by}
use Rattle.lrc_bars.proofs.ClassBarLemmas.{closed-joined}
use Rattle.lrc_bars.proofs.ClosedLemmas.{closed-seat}
use Rattle.lrc_bars.proofs.NeighbourLemmas.{homes-beside}
use Rattle.lrc_bars.proofs.PlanLemmas.{table-chosen}
use Rattle.lrc_store.proofs.store.Store.repair_seat.Goals as goal

pub returns : goal.returns
returns c = λ st kept.
    let nodes = c.args.self.now.topology in
    let s = c.args.stripe in
    let f = c.args.fragment in
    let code = code_of st s in
    let members = subst (λ (own : Code). AreClassMembers own f c.class_members-members.result) (c.code_of.ensures st kept) c.class_members-members.ensures in
    let homes = bars_in nodes code s f st.homes in
    let targets = bars_in nodes code s f (map held_by st.leases) in
    let more = c.bar_upgrading.ensures st kept ∙ ap (closed st.upgrading) c.new-more.ensures in
    let beside = c.neighbours.ensures st code kept members ∙ ap (λ (b : Barred). joined (joined b targets) homes) more
    ∙ ap (λ (b : Barred). joined b homes) (closed-joined st.upgrading no_bars targets) ∙ homes-beside nodes code s f st.upgrading st.homes (map held_by st.leases) in
    c.next_beside.ensures
    ∙ ap (λ (t : Slots). next_seat t (barred_by c.neighbours.result)) kept.table_is
    ∙ ap (next_seat (kept_table nodes st)) beside
    ∙ closed-seat nodes st (bars_of nodes st s f) kept.known
    ∙ table-chosen nodes st s f kept.known kept.seated
