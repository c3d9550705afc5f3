use Rattle.std.proofs.Common.{true, false, not, Option, is_some, refl, sym, ap, ◌∙◌}
use Rattle.lrc_slots.specs.Slots.{Slots}
use Rattle.lrc_topology.specs.declared.NodeInfo.{NodeInfo}
use Rattle.lrc_topology.specs.Nodes.{node_at}
use Rattle.lrc_rules.specs.declared.node_command.NodeCommand.{NodeCommand}
use Rattle.lrc_rules.specs.Steps.{is_wrong_on, last_on}
use Rattle.lrc_store.proofs.NodeCommandLemmas.{none-told, known-some, reply-by, last-other}
use Rattle.lrc_store.proofs.store.Store.node_reply.Goals as goal

pub returns-then-is_none : goal.returns-then-is_none
returns-then-is_none c = λ st kept.
    let nodes = c.args.self.now.topology in
    let n = c.args.node in
    let found = c.node.ensures ∙ ap (λ (t : Slots). node_at t.nodes n) kept.table_is in
    let unknown = none-told (node_at nodes n) true (sym (ap (λ (o : Option NodeInfo). is_some o) found) ∙ c.is_none.ensures ∙ ap not c.if-is_none.true) in
    sym (reply-by nodes st n c.args.command true (is_wrong_on c.args.command st n) unknown refl)

pub returns-then-forbid : goal.returns-then-forbid
returns-then-forbid c = λ st kept.
    let nodes = c.args.self.now.topology in
    let n = c.args.node in
    let found = c.node.ensures ∙ ap (λ (t : Slots). node_at t.nodes n) kept.table_is in
    let known = none-told (node_at nodes n) false (sym (ap (λ (o : Option NodeInfo). is_some o) found) ∙ c.is_none.ensures ∙ ap not c.if-is_none.false) in
    sym (reply-by nodes st n c.args.command false true known (sym (c.forbid.ensures st kept (known-some (node_at nodes n) known)) ∙ c.if-forbid.true))

pub returns-in-Retire : goal.returns-in-Retire
returns-in-Retire c = λ st kept.
    let nodes = c.args.self.now.topology in
    let n = c.args.node in
    let found = c.node.ensures ∙ ap (λ (t : Slots). node_at t.nodes n) kept.table_is in
    let known = none-told (node_at nodes n) false (sym (ap (λ (o : Option NodeInfo). is_some o) found) ∙ c.is_none.ensures ∙ ap not c.if-is_none.false) in
    let right = sym (c.forbid.ensures st kept (known-some (node_at nodes n) known)) ∙ c.if-forbid.false in
    c.reply_if_empty.ensures st kept
    ∙ sym (reply-by nodes st n c.args.command false false known right ∙ ap (λ (command : NodeCommand). (last_on command st n).0) c.in-Retire.is)

pub returns-in_default : goal.returns-in_default
returns-in_default c = λ st kept.
    let nodes = c.args.self.now.topology in
    let n = c.args.node in
    let found = c.node.ensures ∙ ap (λ (t : Slots). node_at t.nodes n) kept.table_is in
    let known = none-told (node_at nodes n) false (sym (ap (λ (o : Option NodeInfo). is_some o) found) ∙ c.is_none.ensures ∙ ap not c.if-is_none.false) in
    let right = sym (c.forbid.ensures st kept (known-some (node_at nodes n) known)) ∙ c.if-forbid.false in
    sym (reply-by nodes st n c.args.command false false known right ∙ last-other nodes st n c.args.command c.in_default.not-Retire)
