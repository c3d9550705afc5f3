-- The leases that end at a clock, ended one after the other.
use Rattle.std.proofs.Common.{[], ◌≡◌, ℕ, ◌+◌, ◌≤◌, true, false, not, List, ◌∷◌, length, filter, Some, sym, ap, ◌∙◌, subst, inl, inr, arith}
use Rattle.std.specs.List.{All, Contains, count_by}
use Rattle.std.proofs.lemmas.Bool.{cases_Bool}
use Rattle.std.proofs.lemmas.List.Elements.{All-contains}
use Rattle.std.proofs.lemmas.List.Sums.{length-filter}
use Rattle.lrc_terms.specs.declared.lease.Lease.{Lease}
use Rattle.lrc_terms.specs.Leased.{Leased, is_of, ends_at, leased_of, AreThose, AreOneEach}
use Rattle.lrc_leases.specs.Tables.{leased_in}
use Rattle.lrc_terms.proofs.LeaseLemmas.{contains-leases_in, leases_in-contains, one_each-filter}
use Rattle.lrc_leases.proofs.RoomLemmas.{same-length}
use Rattle.lrc_rules.specs.States.{State, lease_of}
use Rattle.lrc_rules.specs.Leases.{without_lease, without_ending, tick_outcome}
use Rattle.lrc_rules.specs.declared.reply.Reply.TheVariants.{Ticked}
use Rattle.lrc_store.specs.declared.store.Store.{Store}
use Rattle.lrc_store.specs.Stores.{IsOf}
use Rattle.lrc_rules.proofs.MemberLemmas.{All-members, Contains-here, not-Contains-nil, filter-member, member-filter, count-none, none-count}
use Rattle.lrc_store.proofs.EndLemmas.{lease-kept}
use Rattle.lrc_store.proofs.ClearLemmas.{count-falls}
use Rattle.lrc_store.proofs.EmptyLemmas.{filter-skips, filter-whole, not-false}
use Rattle.lrc_rules.proofs.LookUpLemmas.{there-lease, only-lease}

-- the leases that end at the clock, ended as far as this: at most so many are left
pub record IsDue (st : State) (clock left : ℕ) (k : Store) : Type 0 where
  pub live : List Lease
  pub kept : IsOf (record st { leases = live }) k
  pub rest : filter (λ l. not (ends_at clock l)) live ≡ filter (λ l. not (ends_at clock l)) st.leases
  pub few : count_by (ends_at clock) live ≤ left

module _ (st : State) (clock left : ℕ) (k : Store) (due : IsDue st clock left k) where
  abbrev pub now : State
  now = record st { leases = due.live }

  -- one lease fewer
  pub due-more : (l : Lease) → (leased_in k.leases).leases l.stripe l.fragment.value ≡ Some l → ends_at clock l ≡ true → (k2 : Store)
      → IsOf (without_lease now l.stripe l.fragment) k2 → (next_left : ℕ) → left ≤ next_left + 1 → IsDue st clock next_left k2
  due-more l found on k2 next next_left one =
      let live-is : lease_of now l.stripe l.fragment ≡ Some l = sym (lease-kept now k due.kept l.stripe l.fragment) ∙ found in
      let there = there-lease k.topology now l.stripe l.fragment l live-is due.kept.seated in
      record {
        live = filter (λ m. not (is_of l.stripe l.fragment.value m)) due.live;
        kept = next;
        rest = filter-skips (λ m. not (ends_at clock m)) (λ m. not (is_of l.stripe l.fragment.value m)) due.live
            (λ m here goes. ap (λ (x : Lease). not (ends_at clock x)) (only-lease k.topology now l.stripe l.fragment l live-is due.kept.seated m here (not-false _ goes)) ∙ ap not on) ∙ due.rest;
        few = omega (arith, due.few, one, count-falls (ends_at clock) (λ m. not (is_of l.stripe l.fragment.value m)) due.live l there.0 on (ap not there.1));
      }

  -- none is left
  pub due-none : AreThose (ends_at clock) (leased_in k.leases) [] → (next_left : ℕ) → IsDue st clock next_left k
  due-none on next_left =
      let none : All (λ l. ends_at clock l ≡ false) due.live = All-members (λ l. ends_at clock l ≡ false) due.live (λ l here. elim (cases_Bool (ends_at clock l)) [
        | inr other ↦ other
        | inl hit ↦
            let found = lease-kept now k due.kept l.stripe l.fragment ∙ contains-leases_in due.live l due.kept.seated.one_lease here in
            absurd (not-Contains-nil l ((on.each l).1 (found, hit)))
      ]) in
      record { live = due.live; kept = due.kept; rest = due.rest; few = omega (arith, none-count (ends_at clock) due.live none) }

  pub due-end : left ≡ 0 → IsOf (without_ending st clock) k
  due-end over =
      let none = count-none (ends_at clock) due.live (omega (arith, due.few, over)) in
      let whole = All-members (λ l. not (ends_at clock l) ≡ true) due.live (λ l here. ap not (All-contains (λ k. ends_at clock k ≡ false) due.live l none here)) in
      subst (λ (ls : List Lease). IsOf (record st { leases = ls }) k) (sym (filter-whole (λ l. not (ends_at clock l)) due.live whole) ∙ due.rest) due.kept

-- ---- how many

-- a walk over all leases that end at a clock is as long as they are many
pub counted-walk : (clock : ℕ) (leases walked : List Lease) → AreOneEach leases → AreThose (ends_at clock) (leased_of leases 0) walked
    → length walked ≡ count_by (ends_at clock) leases
counted-walk clock leases walked one are =
    same-length walked (filter (ends_at clock) leases) are.once (one_each-filter (ends_at clock) leases one)
    (λ l here. let both = (are.each l).0 here in member-filter (ends_at clock) leases l (leases_in-contains leases l.stripe l.fragment.value l both.0) both.1)
    (λ l here. let parts = filter-member (ends_at clock) leases l here in (are.each l).1 (contains-leases_in leases l one parts.0, parts.1))
    ∙ length-filter (ends_at clock) leases

pub first-due : (t : Leased) (clock : ℕ) (ls rest : List Lease) (l : Lease) → AreThose (ends_at clock) t ls → ls ≡ l ∷ rest → (t.leases l.stripe l.fragment.value ≡ Some l) × (ends_at clock l ≡ true)
first-due t clock ls rest l on e = (on.each l).0 (subst (λ (xs : List Lease). Contains xs l) (sym e) (Contains-here l rest))

told-same : (a b x y : ℕ) → Ticked a b ≡ Ticked x y → y ≡ b
told-same a b x y e = cc

-- what a tick tells is how many end
pub tick-told : (st : State) (clock ended : ℕ) → (tick_outcome st).0 ≡ Ticked clock ended → ended ≡ count_by (ends_at (st.clock + 1)) st.leases
unfolding tick_outcome
tick-told st clock ended e = told-same (st.clock + 1) (count_by (ends_at (st.clock + 1)) st.leases) clock ended e
