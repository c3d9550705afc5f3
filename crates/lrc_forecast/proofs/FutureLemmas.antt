-- A stripe that an outage does not harm comes back with it exactly if it comes back without it.
use Rattle.std.proofs.Common.{◌≡◌, ◌↔◌, ◌⊎◌, ℕ, ◌&&◌, ◌||◌, Bool, true, false, not, List, [], ◌∷◌, Option, Some, None, IsTrue, refl, sym, ap, ap₂, ◌∙◌, inl, inr}
use Rattle.std.proofs.lemmas.List.Elements.{All-filter}
use Rattle.std.proofs.lemmas.Map.Entries.{option_filter}
use Rattle.lrc_code.specs.declared.numbers.StripeNo.{StripeNo}
use Rattle.lrc_code.specs.declared.numbers.NodeNo.{NodeNo}
use Rattle.lrc_code.specs.declared.numbers.Fragment.{Fragment}
use Rattle.lrc_topology.specs.declared.NodeInfo.{NodeInfo}
use Rattle.lrc_topology.specs.declared.seat.Seat.{Seat}
use Rattle.lrc_topology.specs.declared.seat.Held.{Held}
use Rattle.lrc_terms.specs.declared.lease.Lease.{Lease}
use Rattle.lrc_terms.specs.Levels.{homes_of}
use Rattle.lrc_terms.specs.Modes.{is_gone}
use Rattle.lrc_terms.proofs.LeaseLemmas.{leases_in-own}
use Rattle.lrc_rules.specs.States.{State, has_stripe, lease_of, has_number, held_by, mode_of, is_down, level}
use Rattle.lrc_rules.specs.Steps.{changed_on}
use Rattle.lrc_rules.specs.Histories.{World}
use Rattle.lrc_rules.specs.Goodness.{AreSeated}
use Rattle.lrc_rules.specs.declared.entry.Entry.{Entry}
use Rattle.lrc_rules.proofs.StateLemmas.{held_on}
use Rattle.lrc_forecast.specs.declared.outlook.Outage.{Outage}
use Rattle.lrc_forecast.specs.declared.outlook.Outage.TheVariants.{Stop, Lose}
use Rattle.lrc_forecast.specs.Forecasts.{report_of, state_with, is_on_any, hit_in, has_seat_on_any, is_unrecoverable, IsUnrecoverable, is_return, Call, AreReturns, is_up_of, without_up, state_after_calls}
use Rattle.lrc_forecast.proofs.OutageLemmas.{spared, code-after, homes-stopped, homes-lost, missing-after}
use Rattle.lrc_forecast.proofs.LeaseLemmas.{is_lease_hit, lease-stopped, lease-lost, kept-one}
use Rattle.lrc_forecast.proofs.SeatLemmas.{mode-stopped, down-stopped, gone-lost, down-lost, home-held, target-held, seats-words}
use Rattle.lrc_forecast.proofs.UnrecoverableLemmas.{test-level, MissesNoMore, unrecoverable-before}
use Rattle.lrc_forecast.proofs.ReturnLemmas.{returns-less}
use Rattle.lrc_forecast.proofs.LikeLemmas.{IsAlikeAt, AreLike, alike-unrecoverable, returns-like, left-like, like-back}

stripes-after : (outage : Outage) (st : State) (ns : List NodeNo) → (state_with outage st ns).stripes ≡ st.stripes
stripes-after outage st [] = refl
stripes-after Stop st (n ∷ ns) = stripes-after Stop (changed_on (report_of Stop) st n) ns
stripes-after Lose st (n ∷ ns) = stripes-after Lose (changed_on (report_of Lose) st n) ns

upgrading-after : (outage : Outage) (st : State) (ns : List NodeNo) → (state_with outage st ns).upgrading ≡ st.upgrading
upgrading-after outage st [] = refl
upgrading-after Stop st (n ∷ ns) = upgrading-after Stop (changed_on (report_of Stop) st n) ns
upgrading-after Lose st (n ∷ ns) = upgrading-after Lose (changed_on (report_of Lose) st n) ns

with-none : (g h : Bool) → h ≡ false → g ≡ (g || h)
with-none true h none = refl
with-none false h none = sym none

less-none : (d h : Bool) → h ≡ false → d ≡ (d && not h)
less-none true h none = ap not (sym none)
less-none false h none = refl

-- a node that is not named is as before
alike-at : (st : State) (ns : List NodeNo) (k : NodeNo) (outage : Outage) → has_number ns k ≡ false → IsAlikeAt ns st (state_with outage st ns) k
alike-at st ns k Stop other = (
  sym (ap is_gone (mode-stopped st ns k)),
  with-none (is_down st k) (has_number ns k) other ∙ sym (down-stopped st ns k),
  other,
)
alike-at st ns k Lose other = (
  with-none (is_gone (mode_of st k)) (has_number ns k) other ∙ sym (gone-lost st ns k),
  less-none (is_down st k) (has_number ns k) other ∙ sym (down-lost st ns k),
  other,
)

module _ (nodes : List NodeInfo) (st : State) (ns : List NodeNo) (s : StripeNo) (seated : AreSeated nodes st) where
  module _ (kept : has_seat_on_any st ns s ≡ false) where
    home-other : (f : Fragment) (seat : Seat) → homes_of st.homes s f.value ≡ Some seat → has_number ns seat.node ≡ false
    home-other f seat is = (seats-words nodes st seated ns s).0 kept (held_on s f seat) (home-held nodes st seated s f seat is) refl

    target-other : (f : Fragment) (l : Lease) → lease_of st s f ≡ Some l → has_number ns l.target.node ≡ false
    target-other f l is = (seats-words nodes st seated ns s).0 kept (held_by l) (target-held nodes st seated s f l is) (leases_in-own st.leases s f.value l is).0

  spared-all : (o : Option Seat) → ((seat : Seat) → o ≡ Some seat → has_number ns seat.node ≡ false) → o ≡ spared ns o
  spared-all None none = refl
  spared-all (Some seat) none = rw (none seat refl) refl

  off-any : (o : Option Seat) → ((seat : Seat) → o ≡ Some seat → has_number ns seat.node ≡ false) → is_on_any ns o ≡ false
  off-any None none = refl
  off-any (Some seat) none = none seat refl

  homes-kept-by : (outage : Outage) → has_seat_on_any st ns s ≡ false → (f : Fragment) → homes_of st.homes s f.value ≡ homes_of (state_with outage st ns).homes s f.value
  homes-kept-by Stop kept f = ap (λ (hs : List Held). homes_of hs s f.value) (sym (homes-stopped st ns))
  homes-kept-by Lose kept f = spared-all (homes_of st.homes s f.value) (home-other kept f) ∙ sym (homes-lost st ns s f.value seated.one_home)

  leases-kept-by : (outage : Outage) → has_seat_on_any st ns s ≡ false → (f : Fragment) → lease_of st s f ≡ lease_of (state_with outage st ns) s f
  leases-kept-by Stop kept f = sym (lease-stopped st ns s f)
  leases-kept-by Lose kept f = by (lease_of st s f) refl ∙ sym (lease-lost st ns s f seated.one_home seated.one_lease) where
    by : (o : Option Lease) → lease_of st s f ≡ o → o ≡ option_filter (λ l. not (is_lease_hit ns st l)) o
    by None is = refl
    by (Some l) is =
        let own = leases_in-own st.leases s f.value l is in
        let target = target-other kept f l is in
        let home : is_on_any ns (homes_of st.homes l.stripe l.fragment.value) ≡ false =
        ap₂ (λ (r : StripeNo) (g : ℕ). is_on_any ns (homes_of st.homes r g)) own.0 own.1 ∙ off-any (homes_of st.homes s f.value) (home-other kept f) in
        sym (kept-one (λ k. not (is_lease_hit ns st k)) l (ap₂ (λ (a b : Bool). not (a || b)) target home))

  -- a stripe with no seat on the nodes is alike with the outage and without
  pub outage-like : (outage : Outage) → has_seat_on_any st ns s ≡ false → AreLike ns s st (state_with outage st ns)
  outage-like outage kept = record {
    there = ap (λ (ss : List StripeNo). has_stripe (record st { stripes = ss }) s) (sym (stripes-after outage st ns));
    code = sym (code-after outage st ns s);
    homes = homes-kept-by outage kept;
    leases = leases-kept-by outage kept;
    upgrading = sym (upgrading-after outage st ns);
    home_nodes = λ f seat is. alike-at st ns seat.node outage (home-other kept f seat is);
    target_nodes = λ f l is. alike-at st ns l.target.node outage (target-other kept f l is);
  }

  -- what misses a fragment without the outage misses it with the outage
  less-without : (outage : Outage) → MissesNoMore nodes s (state_with outage st ns) st
  less-without outage = record {
    code = sym (code-after outage st ns s);
    missing = λ f hit. missing-after nodes st ns s f outage seated.one_home ∙ ap (λ (b : Bool). b || hit_in st ns s f) hit;
  }

  calm : (harm now seat : Bool) → (harm && (not now || seat)) ≡ false → (harm ≡ false) ⊎ ((now ≡ true) × (seat ≡ false))
  calm false now seat none = inl refl
  calm true true false none = inr (refl, refl)
  calm true true true none = absurd (cc)
  calm true false seat none = absurd (cc)

  without-all : (calls : List Call) → AreReturns calls → AreReturns (without_up ns calls)
  without-all calls all = All-filter (λ (c : Call). not (is_up_of ns c.1)) (λ (c : Call). IsTrue (is_return c.1)) calls all

  module _ (outage : Outage) (past more : List Entry) (calls : List Call) (all : AreReturns calls)
      (none : (is_unrecoverable (level nodes (state_with outage st ns) s) && (not (is_unrecoverable (level nodes st s)) || has_seat_on_any st ns s)) ≡ false) where
    abbrev without_it : World
    without_it = record { past = past; state = st }

    abbrev with_it : World
    with_it = record { past = more; state = state_with outage st ns }

    never : is_unrecoverable (level nodes (state_with outage st ns) s) ≡ false → IsUnrecoverable nodes (state_with outage st ns) s → ⊥
    never off hit = let both : true ≡ false = sym ((test-level (level nodes (state_with outage st ns) s)).1 hit) ∙ off in cc

    -- after any returns, and these with the outage, it is recoverable with the outage exactly if it is without
    agree : (played : List Call) → AreReturns played
        → (AreLike ns s st (state_with outage st ns) → AreLike ns s (state_after_calls nodes past st calls) (state_after_calls nodes more (state_with outage st ns) played))
        → IsUnrecoverable nodes (state_after_calls nodes more (state_with outage st ns) played) s ↔ IsUnrecoverable nodes (state_after_calls nodes past st calls) s
    agree played shown likes = elim (calm (is_unrecoverable (level nodes (state_with outage st ns) s)) (is_unrecoverable (level nodes st s)) (has_seat_on_any st ns s) none) [
      | inl off ↦ (
        λ hit. absurd (never off (unrecoverable-before nodes s (state_with outage st ns) (state_after_calls nodes more (state_with outage st ns) played)
            (returns-less nodes s with_it played shown) hit)),
        λ hit. absurd (never off (unrecoverable-before nodes s (state_with outage st ns) st (less-without outage)
            (unrecoverable-before nodes s st (state_after_calls nodes past st calls) (returns-less nodes s without_it calls all) hit))),
      )
      | inr kept ↦
          let like = likes (outage-like outage kept.1) in (
            alike-unrecoverable nodes ns s (state_after_calls nodes more (state_with outage st ns) played) (state_after_calls nodes past st calls) (like-back nodes ns s _ _ like),
            alike-unrecoverable nodes ns s (state_after_calls nodes past st calls) (state_after_calls nodes more (state_with outage st ns) played) like,
          )
    ]

    pub returns-agree : IsUnrecoverable nodes (state_after_calls nodes more (state_with outage st ns) (without_up ns calls)) s ↔ IsUnrecoverable nodes (state_after_calls nodes past st calls) s
    returns-agree = agree (without_up ns calls) (without-all calls all) (λ like. left-like nodes ns s without_it with_it calls like all)

    pub all-agree : IsUnrecoverable nodes (state_after_calls nodes more (state_with outage st ns) calls) s ↔ IsUnrecoverable nodes (state_after_calls nodes past st calls) s
    all-agree = agree calls all (λ like. returns-like nodes ns s without_it with_it calls like all)
