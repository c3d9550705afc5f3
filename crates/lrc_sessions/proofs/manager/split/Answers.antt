use Rattle.std.proofs.Common.{rules, List, All, [], ◌≡◌, ◌+◌, ap, ◌∙◌, sym, subst}
use Rattle.std.proofs.lemmas.List.Elements.{All-take}
use Rattle.lrc_rules.specs.declared.entry.Entry.{Entry}
use Rattle.lrc_sessions.specs.Views.{fresh}
use Rattle.lrc_sessions.proofs.Counting.{fresh_push}
use Rattle.lrc_sessions.proofs.manager.split.Goals as goal

pub loop-before-preserved : goal.loop-before-preserved
loop-before-preserved g c =
    let b = c.loop-before.before in
    let v = c.loop-before.invariant in
    let n : c.unwrap-number.result.value ≡ b + 1 = search rules in
    let r : c.new-in-loop-before.result ≡ record { number = b + 1; made = 0; seen = [] } =
    c.new-in-loop-before.ensures ∙ ap (λ k. record { number = k; made = 0; seen = [] }) n in
    record {
      sessions_is = subst (λ ss. ss ≡ fresh (b + 1)) (sym c.push_reserved.ensures.items) (fresh_push b c.loop-before.sessions.items c.new-in-loop-before.result v.sessions_is r);
      len_is = search rules;
      parts_is = search rules;
      amount_is = search rules;
      room = search rules;
      left = search rules;
      new = subst (λ (xs : List (List Entry)). All (λ v. v ≡ []) xs) (sym c.pop.ensures.rest) (All-take (λ (v : List Entry). v ≡ []) _ c.loop-before.viewers.items v.new);
    }
