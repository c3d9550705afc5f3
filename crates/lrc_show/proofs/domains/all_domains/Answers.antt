use Rattle.std.proofs.Common.{rules, ◌≡◌, ℕ, Bool, true, false, cond, List, [], ◌∷◌, ◌++◌, map, filter, sym, ap, ◌∙◌, append-nil, zero-add, arith}
use Rattle.std.specs.List.{range_with_len}
use Rattle.std.proofs.lemmas.List.FromFn.{filter_of_map_range_with_len_more}
use Rattle.lrc_groups.specs.declared.named.Named.{Named}
use Rattle.lrc_groups.specs.Groups.{has_named}
use Rattle.lrc_show.specs.Summed.{domain_at, all_domains}
use Rattle.lrc_show.proofs.domains.all_domains.Goals as goal
use Rattle.lrc_show.proofs.domains.all_domains.Goals.{then-has_node+in_ok-push, else-has_node}

pub loop-number-preserved : goal.loop-number-preserved
loop-number-preserved c =
    let test = has_named c.args.topology.now in
    let make = domain_at c.args.kind in
    let n = c.loop-number.number in
    let d = c.domain_at-domain.result in
    let so_far = filter test (map make (range_with_len 0 n)) in
    let is : d ≡ make n = search rules in
    let more = filter_of_map_range_with_len_more test make 0 n n (zero-add n) in
    elim c.if-has_node.branch [
      | then-has_node+in_ok-push w ↦
          let hit : test d ≡ true = sym c.has_node.ensures ∙ w.if-has_node.true in
          let added : w.push.new.self.items ≡ c.loop-number.domains.items ++ d ∷ [] = search rules in
          ap (λ v. v.items) w.domains-is ∙ added ∙ ap (λ (l : List Named). l ++ d ∷ []) c.loop-number.invariant
          ∙ ap (λ (b : Bool). so_far ++ cond b (d ∷ []) []) (sym hit) ∙ ap (λ (k : Named). so_far ++ cond (test k) (k ∷ []) []) is ∙ sym more
      | else-has_node w ↦
          let miss : test d ≡ false = sym c.has_node.ensures ∙ w.if-has_node.false in
          ap (λ v. v.items) w.domains-is ∙ c.loop-number.invariant ∙ sym (append-nil so_far)
          ∙ ap (λ (b : Bool). so_far ++ cond b (d ∷ []) []) (sym miss) ∙ ap (λ (k : Named). so_far ++ cond (test k) (k ∷ []) []) is ∙ sym more
    ]

pub returns : goal.returns
unfolding all_domains
returns c =
    let end : c.loop-number.number ≡ 256 = omega (arith, c.loop-number-test.false, c.loop-number.auto.number-end) in
    c.loop-number.invariant ∙ ap (λ (n : ℕ). filter (has_named c.args.topology.now) (map (domain_at c.args.kind) (range_with_len 0 n))) end
