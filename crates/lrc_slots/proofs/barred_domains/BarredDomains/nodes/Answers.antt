use Rattle.std.proofs.Common.{◌≡◌, true, false, get_or, sym, ap, ◌∙◌, inl, inr}
use Rattle.lrc_slots.proofs.MarkLemmas.{get_or-replicate_same}
use Rattle.lrc_slots.proofs.barred_domains.BarredDomains.nodes.Goals as goal

pub returns : goal.returns
returns c = λ r. (
  λ hit. rw (← c.self.view_is) (elim (c.join-2.ensures.only r (rw c.of_ordinals.ensures at hit)) [
    | inl old ↦ elim (c.join.ensures.only r old) [
      | inl new ↦ absurd (let clash : true ≡ false = sym new
          ∙ (ap (λ xs. get_or xs r false) c.new-ordinals.ensures ∙ get_or-replicate_same 512 r false) in cc)
      | inr fault ↦ inl fault
    ]
    | inr upgrade ↦ inr upgrade
  ]),
  λ joined. rw c.of_ordinals.ensures (elim (rw (← c.self.view_is) at joined) [
    | inl fault ↦ c.join-2.ensures.keeps r (c.join.ensures.adds fault.0 r fault.1 fault.2)
    | inr upgrade ↦ c.join-2.ensures.adds upgrade.0 r upgrade.1 upgrade.2
  ]),
)
