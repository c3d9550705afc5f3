use Rattle.std.proofs.Common.{◌≡◌, ◌+◌, ◌∷◌, [], List, Bool, false, length, ap, sym, subst, ◌∙◌}
use Rattle.std.specs.List.{All}
use Rattle.std.proofs.lemmas.List.{length-append}
use Rattle.std.proofs.lemmas.List.Elements.{All-nil, All-cons, All-append}
use Rattle.lrc_ranks.specs.Sets.{has}
use Rattle.lrc_rows.proofs.node_table.empty_sets.Goals as goal

pub loop-init : goal.loop-init
loop-init c = record { long = ap length c.in_ok-sets.ensures.items; empty = subst (All (λ (xs : List Bool). has xs ≡ (λ s. false))) (sym c.in_ok-sets.ensures.items) (All-nil (λ (xs : List Bool). has xs ≡ (λ s. false))) }

pub loop-preserved : goal.loop-preserved
loop-preserved c =
    let sets = c.loop.sets.items in
    let set = c.new.result in
    let pushed = c.in_ok-push.ensures.items in
    let IsEmpty = λ (xs : List Bool). has xs ≡ (λ s. false) in
    record {
      long = ap length pushed ∙ length-append sets (set ∷ []) ∙ ap (λ n. n + 1) c.loop.invariant.long;
      empty = subst (All IsEmpty) (sym pushed) (All-append IsEmpty sets (set ∷ []) c.loop.invariant.empty (All-cons IsEmpty set [] c.new.ensures (All-nil IsEmpty)));
    }
