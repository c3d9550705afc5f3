use Rattle.std.proofs.Common.{ℕ, ◌+◌, ◌≤◌, take, sym, ap, ◌∙◌, arith, rules}
use Rattle.std.specs.Prelude.{count_by}
use Rattle.std.proofs.lemmas.List.Sums.{sum_by_more}
use Rattle.lrc_code.specs.Numbers.{same_node}
use Rattle.lrc_show.specs.declared.nodes.NodeFacts.{NodeFacts}
use Rattle.lrc_show.specs.Facts.{target_sum}
use Rattle.lrc_show.proofs.domains.sum_targets.Goals as goal

pub loop-member-preserved : goal.loop-member-preserved
loop-member-preserved c =
    let leases = c.args.leases.now in
    let ns = c.args.members.now in
    let i = c.loop-member.member-index in
    let r = c.count_targets.result in
    let few : r ≤ 18446744073709551615 = search (rules, arith) in
    record {
      so_far = ap (λ (n : ℕ). n + r) c.loop-member.invariant.so_far ∙ ap (λ (n : ℕ). target_sum leases (take i ns) + n) c.count_targets.ensures
          ∙ sym (sum_by_more (λ (n : NodeFacts). count_by (λ l. same_node n.node.number l.target.node) leases) ns i _ c.loop-member-test.true);
      few = omega (arith, few, c.loop-member.invariant.few);
    }
