use Rattle.std.proofs.Common.{None, ◌||◌, ap, subst, ◌∙◌, map}
use Rattle.lrc_code.specs.declared.codes.Code.{Code}
use Rattle.lrc_slots.specs.Barred.{Barred, joined}
use Rattle.lrc_rules.specs.States.{code_of, held_by, seats_of}
use Rattle.lrc_bars.specs.Ties.{bars_in, AreClassMembers}
use Rattle.lrc_bars.proofs.NeighbourLemmas.{homes-beside}
use Rattle.lrc_bars.proofs.TieLemmas.{bars-domains}
use Rattle.lrc_store.proofs.store.Store.rules_out.Goals as goal

pub returns : goal.returns
returns c = λ st kept.
    let nodes = c.args.self.now.topology in
    let s = c.args.stripe in
    let f = c.args.fragment in
    let n = c.args.node.now in
    let code = code_of st s in
    let members = subst (λ (own : Code). AreClassMembers own f c.class_members-members.result) (c.code_of.ensures st kept) c.class_members-members.ensures in
    let homes = bars_in nodes code s f st.homes in
    let targets = bars_in nodes code s f (map held_by st.leases) in
    let beside = c.neighbours.ensures st code kept members ∙ ap (λ (b : Barred). joined (joined b targets) homes) c.new-no_more.ensures ∙ homes-beside nodes code s f None st.homes (map held_by st.leases) in
    c.bars.ensures ∙ ap (λ (b : Barred). b.faults n.fault || b.upgrades n.upgrade) beside ∙ bars-domains nodes st s f n (seats_of st)
