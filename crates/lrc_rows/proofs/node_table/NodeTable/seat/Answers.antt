use Rattle.std.proofs.Common.{not, cond, nat_eq, get_or, Option, sym, ap, subst, ◌∙◌}
use Rattle.std.proofs.lemmas.List.{get_or_default}
use Rattle.lrc_topology.specs.declared.seat.Seat.{Seat}
use Rattle.lrc_nodes.proofs.StateLemmas.{no_state}
use Rattle.lrc_homes.specs.Domains.{AreDomainsOf}
use Rattle.lrc_homes.specs.Masks.{IsPut}
use Rattle.lrc_rows.specs.NodeStates.{states_in}
use Rattle.lrc_rows.specs.Kept.{AreWith}
use Rattle.lrc_rows.proofs.DomainLemmas.{domains-with, domains-without}
use Rattle.lrc_rows.proofs.NodeStateLemmas.{found, found-up, found-draining}
use Rattle.lrc_rows.proofs.node_table.NodeTable.seat.Goals as goal

pub is_up_at-is_up-requires : goal.is_up_at-is_up-requires
is_up_at-is_up-requires c =
    (found c.self.inside.nodes c.self.inside.stripes.items c.args.self.now c.self.view_is c.in-Some.seat.node c.position_of-position.result c.position_of-position.ensures).1

pub is_draining_at-is_draining-requires : goal.is_draining_at-is_draining-requires
is_draining_at-is_draining-requires c =
    (found c.self.inside.nodes c.self.inside.stripes.items c.args.self.now c.self.view_is c.in-Some.seat.node c.position_of-position.result c.position_of-position.ensures).1

pub returns-in-Some-clause-losses : goal.returns-in-Some-clause-losses
returns-in-Some-clause-losses c =
    let states = c.self.inside.nodes in
    let sets = c.self.inside.stripes.items in
    let z = states_in c.args.self.now in
    let n = c.in-Some.seat.node in
    let p = c.position_of-position.result in
    let at = c.position_of-position.ensures in
    let x = get_or states p no_state in
    let here = sym (get_or_default states p x no_state (found states sets c.args.self.now c.self.view_is n p at).1) in
    let off = ap not (c.is_up_at-is_up.ensures no_state ∙ found-up states sets c.args.self.now c.self.view_is n p at x here) in
    let drains = c.is_draining_at-is_draining.ensures no_state ∙ found-draining states sets c.args.self.now c.self.view_is n p at x here in
    let put = c.put.ensures in
    let f = c.args.fragment.value in
    subst (λ (o : Option Seat). AreWith z f o c.args.losses c.put.result) (sym c.in-Some.is) (record {
      code = put.code;
      homeless = put.homeless;
      missing = subst (λ b. IsPut f b c.args.losses.missing c.put.result.missing) off put.missing;
      needs = subst (λ b. IsPut f b c.args.losses.needs c.put.result.needs) drains put.needs;
    })

pub returns-in-Some-clause-domains : goal.returns-in-Some-clause-domains
returns-in-Some-clause-domains c = λ homes are.
    let f = c.args.fragment in
    let nodes = (states_in c.args.self.now).nodes in
    subst (λ (o : Option Seat). AreDomainsOf nodes (λ g. cond (nat_eq f.value g) o (homes g)) c.enter_one.new.domains) (sym c.in-Some.is)
    (domains-with nodes c.args.domains.now c.enter_one.new.domains f.value f.in_range c.enter_one.result c.in-Some.seat (sym c.enter_one.ensures.node) c.enter_one.ensures.faults c.enter_one.ensures.upgrades homes are)

pub returns-in-None-clause-domains : goal.returns-in-None-clause-domains
returns-in-None-clause-domains c = λ homes are.
    let nodes = (states_in c.args.self.now).nodes in
    subst (λ (o : Option Seat). AreDomainsOf nodes (λ g. cond (nat_eq c.args.fragment.value g) o (homes g)) c.args.domains.now) (sym c.in-None.is)
    (domains-without nodes homes c.args.domains.now c.args.fragment.value are)
