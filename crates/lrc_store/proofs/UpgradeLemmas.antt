-- The commands on upgrade domains: what their replies tell, and which stripe an upgrade would lose.
use Rattle.std.proofs.Common.{◌≡◌, arith, Bool, true, false, not, ◌&&◌, nat_lt, eqb, List, filter, Option, Some, None, IsFalse, refl, sym, ap, ap₂, ◌∙◌, inl, inr}
use Rattle.std.specs.List.{Contains}
use Rattle.std.specs.Option.{option_eq}
use Rattle.std.proofs.lemmas.Bool.{cases_Bool, eq-eqb, and_parts, ltb-true, ltb-false, lt-ltb, false_from_ne_true}
use Rattle.std.proofs.lemmas.List.Elements.{All-contains}
use Rattle.std.proofs.lemmas.List.MinMax.{IsStrictWeakOrder-by_number}
use Rattle.lrc_code.specs.declared.numbers.StripeNo.{StripeNo}
use Rattle.lrc_code.specs.declared.numbers.NodeNo.{NodeNo}
use Rattle.lrc_code.specs.declared.numbers.UpgradeNo.{UpgradeNo}
use Rattle.lrc_code.specs.Numbers.{same_upgrade}
use Rattle.lrc_code.specs.Losses.{is_recoverable}
use Rattle.lrc_code.specs.Order.{HasNoTies, least}
use Rattle.lrc_code.proofs.OrderLemmas.{least-listed, least-none_before, least-only}
use Rattle.lrc_topology.specs.declared.NodeInfo.{NodeInfo}
use Rattle.lrc_topology.specs.Nodes.{has_domain}
use Rattle.lrc_terms.specs.Levels.{homes_of, missing_in}
use Rattle.lrc_stripes.specs.Stored.{Stored}
use Rattle.lrc_stripes.specs.Upgrades.{IsFirstLostTo}
use Rattle.lrc_rules.specs.declared.reply.Reply.TheVariants.{Changed, Refused}
use Rattle.lrc_rules.specs.States.{State, has_stripe, code_of}
use Rattle.lrc_rules.specs.Outcomes.{Outcome}
use Rattle.lrc_rules.specs.Steps.{with_upgrading, is_lost_to, would_lose, upgrade_answer, upgrade_outcome, is_the_domain, upgraded_outcome}
use Rattle.lrc_store.proofs.DomainLemmas.{domain-out}
use Rattle.lrc_store.proofs.NodeStateLemmas.{online-kept}
use Rattle.lrc_store.specs.Stores.{stored_of}
use Rattle.lrc_rules.proofs.MemberLemmas.{filter-member, member-filter, list_any-member, All-members}
use Rattle.lrc_code.proofs.NumbersLemmas.{equal_stripes}
use Rattle.lrc_rules.proofs.LookUpLemmas.{test-sym, stripe-there}
use Rattle.lrc_stripes.specs.Upgrades as upgrades
use Rattle.lrc_rules.specs.declared.refusal.Refusal.TheVariants as refusal

-- ---- the domain that is upgrading

-- whether the upgrading domain is this one, as the code tests it
pub the-domain : (eq : UpgradeNo → UpgradeNo → Bool) → ((a b : UpgradeNo) → eq a b ≡ same_upgrade a b) → (u : UpgradeNo) (o : Option UpgradeNo)
    → option_eq eq o (Some u) ≡ is_the_domain u o
the-domain eq is u None = refl
the-domain eq is u (Some v) = is v u ∙ test-sym v.value u.value

module _ (nodes : List NodeInfo) (st : State) (u : UpgradeNo) where
  -- ---- the replies

  pub upgrade-unknown : has_domain nodes u ≡ false → (upgrade_outcome nodes st u).0 ≡ Refused refusal.UnknownDomain
  unfolding upgrade_outcome
  upgrade-unknown none = rw none refl

  known-answer : has_domain nodes u ≡ true → upgrade_outcome nodes st u ≡ upgrade_answer st u st.upgrading (would_lose nodes st u)
  unfolding upgrade_outcome
  known-answer there = rw there refl

  pub upgrade-running : has_domain nodes u ≡ true → (v : UpgradeNo) → st.upgrading ≡ Some v
      → (upgrade_outcome nodes st u).0 ≡ Refused (refusal.UpgradeRunning v)
  upgrade-running there v running = ap (λ (o : Outcome). o.0) (known-answer there)
      ∙ ap (λ (o : Option UpgradeNo). (upgrade_answer st u o (would_lose nodes st u)).0) running

  pub upgrade-lost : has_domain nodes u ≡ true → st.upgrading ≡ None → (s : StripeNo) → would_lose nodes st u ≡ Some s
      → (upgrade_outcome nodes st u).0 ≡ Refused (refusal.WouldLose s)
  upgrade-lost there none s lost =
      ap (λ (o : Outcome). o.0) (known-answer there) ∙ ap₂ (λ (o : Option UpgradeNo) (l : Option StripeNo). (upgrade_answer st u o l).0) none lost

  pub upgrade-passed : has_domain nodes u ≡ true → st.upgrading ≡ None → would_lose nodes st u ≡ None → (upgrade_outcome nodes st u).0 ≡ Changed
  upgrade-passed there none lost =
      ap (λ (o : Outcome). o.0) (known-answer there) ∙ ap₂ (λ (o : Option UpgradeNo) (l : Option StripeNo). (upgrade_answer st u o l).0) none lost

  pub upgraded-unknown : has_domain nodes u ≡ false → (upgraded_outcome nodes st u).0 ≡ Refused refusal.UnknownDomain
  unfolding upgraded_outcome
  upgraded-unknown none = rw none refl

  pub upgraded-other : has_domain nodes u ≡ true → is_the_domain u st.upgrading ≡ false
      → (upgraded_outcome nodes st u).0 ≡ Refused refusal.NotUpgrading
  unfolding upgraded_outcome
  upgraded-other there other = rw (there, other) refl

  pub upgraded-passed : has_domain nodes u ≡ true → is_the_domain u st.upgrading ≡ true → (upgraded_outcome nodes st u).0 ≡ Changed
  unfolding upgraded_outcome
  upgraded-passed there this = rw (there, this) refl

  -- ---- the stripe that it would lose

  pub lost-as : st.upgrading ≡ None → (s : StripeNo)
      → upgrades.is_lost_to (stored_of nodes st) u s ≡ (has_stripe st s && is_lost_to nodes st u s)
  unfolding upgrades.is_lost_to
  lost-as none s =
      ap (λ (t : Stored). has_stripe st s && (upgrades.is_recoverable_now (stored_of nodes st) s && not (upgrades.is_recoverable_now t s))) (domain-out nodes st u none)
      ∙ ap₂ (λ (now later : NodeNo → Bool). has_stripe st s && (is_recoverable (code_of st s) (missing_in (code_of st s) now (homes_of st.homes s)) && not (is_recoverable (code_of st s) (missing_in (code_of st s) later (homes_of st.homes s)))))
      (online-kept nodes st) (online-kept nodes (with_upgrading st u))

  no-ties : HasNoTies (λ (s t : StripeNo). nat_lt s.value t.value) (filter (is_lost_to nodes st u) st.stripes)
  no-ties = λ a b here there before after.
      let low = ltb-false a.value b.value before in
      let high = ltb-false b.value a.value after in
      equal_stripes a b (omega (arith, low, high))

  -- the least stripe that is told is the one
  pub lost-first : st.upgrading ≡ None → (s : StripeNo) → IsFirstLostTo (stored_of nodes st) u s → would_lose nodes st u ≡ Some s
  unfolding would_lose
  lost-first none s told =
      let parts = and_parts (has_stripe st s) (is_lost_to nodes st u s) (sym (lost-as none s) ∙ told.lost) in
      least-only (λ (s t : StripeNo). nat_lt s.value t.value) (IsStrictWeakOrder-by_number (λ (s : StripeNo). s.value)) s
      (filter (is_lost_to nodes st u) st.stripes) no-ties
      (member-filter (is_lost_to nodes st u) st.stripes s (stripe-there st s parts.0) parts.1)
      (All-members (λ (r : StripeNo). nat_lt r.value s.value ≡ false) (filter (is_lost_to nodes st u) st.stripes)
      (λ r here. not-before r (filter-member (is_lost_to nodes st u) st.stripes r here)))
    where
      not-before : (r : StripeNo) → Contains st.stripes r × (is_lost_to nodes st u r ≡ true) → nat_lt r.value s.value ≡ false
      not-before r h = elim (cases_Bool (nat_lt r.value s.value)) [
        | inr miss ↦ miss
        | inl hit ↦ absurd (
            let there : has_stripe st r ≡ true = list_any-member (λ (t : StripeNo). eqb r.value t.value) st.stripes r h.0
            (eq-eqb r.value r.value refl) in
            let lost : upgrades.is_lost_to (stored_of nodes st) u r ≡ true = lost-as none r ∙ rw (there, h.1) refl in
            let both : true ≡ false = sym lost ∙ told.first r (ltb-true r.value s.value hit) in cc)
      ]

  -- and the one that is told is the least
  pub first-lost : st.upgrading ≡ None → (s : StripeNo) → would_lose nodes st u ≡ Some s → IsFirstLostTo (stored_of nodes st) u s
  unfolding would_lose
  first-lost none s told =
      let before : StripeNo → StripeNo → Bool = λ r t. nat_lt r.value t.value in
      let listed = filter (is_lost_to nodes st u) st.stripes in
      let h = filter-member (is_lost_to nodes st u) st.stripes s (least-listed before s listed told) in
      let there : has_stripe st s ≡ true = list_any-member (λ (t : StripeNo). eqb s.value t.value) st.stripes s h.0 (eq-eqb s.value s.value refl) in
      let none_before = least-none_before before (IsStrictWeakOrder-by_number (λ (t : StripeNo). t.value)) s listed told in
      record {
        lost = lost-as none s ∙ rw (there, h.1) refl;
        first = λ r lower. false_from_ne_true (upgrades.is_lost_to (stored_of nodes st) u r) (λ lost.
            let parts = and_parts (has_stripe st r) (is_lost_to nodes st u r) (sym (lost-as none r) ∙ lost) in
            let among = member-filter (is_lost_to nodes st u) st.stripes r (stripe-there st r parts.0) parts.1 in
            let after = All-contains (λ (y : StripeNo). nat_lt y.value s.value ≡ false) listed r none_before among in
            let both : true ≡ false = sym (lt-ltb r.value s.value lower) ∙ after in cc);
      }

  -- where there is none, none is
  pub lost-none : st.upgrading ≡ None → ((s : StripeNo) → IsFalse (upgrades.is_lost_to (stored_of nodes st) u s))
      → would_lose nodes st u ≡ None
  unfolding would_lose
  lost-none none told = go (least (λ (s t : StripeNo). nat_lt s.value t.value) (filter (is_lost_to nodes st u) st.stripes)) refl where
    go : (o : Option StripeNo) → least (λ (s t : StripeNo). nat_lt s.value t.value) (filter (is_lost_to nodes st u) st.stripes) ≡ o → o ≡ None
    go None e = refl
    go (Some r) e = absurd (
        let h = filter-member (is_lost_to nodes st u) st.stripes r
        (least-listed (λ (s t : StripeNo). nat_lt s.value t.value) r (filter (is_lost_to nodes st u) st.stripes) e) in
        let there : has_stripe st r ≡ true = list_any-member (λ (t : StripeNo). eqb r.value t.value) st.stripes r h.0 (eq-eqb r.value r.value refl) in
        let lost : upgrades.is_lost_to (stored_of nodes st) u r ≡ true = lost-as none r ∙ rw (there, h.1) refl in
        let both : true ≡ false = sym lost ∙ told r in cc)
