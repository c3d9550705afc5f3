-- Granting and ending leases keeps the seats in order.
use Rattle.std.proofs.Common.{[], ◌≡◌, ◌≢◌, IsTrue, Bool, true, false, not, List, ◌∷◌, map, filter, Some, None, refl, sym, ap, ◌∙◌, subst}
use Rattle.std.specs.List.{Contains}
use Rattle.std.proofs.lemmas.Bool.{not-true, not_from_true, eq-eqb}
use Rattle.std.proofs.lemmas.List.Elements.{All-map, All-contains, Contains-append_right}
use Rattle.std.proofs.lemmas.List.Kept.{AllPairs-filter}
use Rattle.lrc_code.specs.declared.numbers.StripeNo.{StripeNo}
use Rattle.lrc_code.specs.declared.numbers.Fragment.{Fragment}
use Rattle.lrc_code.specs.Codes.{has_fragment}
use Rattle.lrc_topology.specs.declared.NodeInfo.{NodeInfo}
use Rattle.lrc_topology.specs.declared.seat.Held.{Held}
use Rattle.lrc_topology.specs.Nodes.{AreNodes}
use Rattle.lrc_terms.specs.declared.lease.Lease.{Lease}
use Rattle.lrc_terms.specs.Leased.{is_of}
use Rattle.lrc_terms.proofs.LeaseLemmas.{find-some, one_each-filter, leases_in-own}
use Rattle.lrc_code.proofs.NumbersLemmas.{equal_fragments}
use Rattle.lrc_rules.specs.States.{State, code_of, held_by, lease_of, seats_of, is_home_of}
use Rattle.lrc_rules.specs.Choices.{IsChoice}
use Rattle.lrc_rules.specs.Leases.{with_lease, without_lease, moved_in}
use Rattle.lrc_rules.specs.Goodness.{IsStanding, KeepApart, AreSeated}
use Rattle.lrc_rules.proofs.MemberLemmas.{All-members, filter-member, map-member}
use Rattle.lrc_rules.proofs.SeatingLists.{pairs-map}
use Rattle.lrc_rules.proofs.PairLemmas.{All-kept, pairs-kept, beside-left_out}
use Rattle.lrc_rules.proofs.SeatingLemmas.{HasNone, held_on, IsWithin, MayStand, KeepApart-turn, held-single, held-standing, inserted-seated, leased-seated, choice-stands}

-- removing some homes and some leases
pub kept-seated : (nodes : List NodeInfo) (st : State) (p : Held → Bool) (q : Lease → Bool) → AreSeated nodes st
    → AreSeated nodes (record st { homes = filter p st.homes; leases = filter q st.leases })
kept-seated nodes st p q seated =
    let st' = record st { homes = filter p st.homes; leases = filter q st.leases } in
    record {
      stripes = seated.stripes;
      single =
          pairs-map (λ a b. a ≢ b) (λ (h : Held). h.seat) (seats_of st')
          (pairs-kept held_by p q st.homes st.leases (λ h g. h.seat ≢ g.seat) (held-single nodes st seated));
      standing =
          All-map (IsStanding nodes st) (λ (h : Held). h.seat) (seats_of st')
          (All-kept held_by p q st.homes st.leases (λ h. IsStanding nodes st h.seat) (held-standing nodes st seated));
      lawful = pairs-kept held_by p q st.homes st.leases (KeepApart nodes st) seated.lawful;
      one_home = AllPairs-filter (λ h g. h.stripe ≡ g.stripe → h.fragment ≢ g.fragment) p st.homes seated.one_home;
      one_lease = one_each-filter q st.leases seated.one_lease;
      coded = seated.coded;
      there = All-kept held_by p q st.homes st.leases (λ h. Contains st.stripes h.stripe) seated.there;
      within = All-kept held_by p q st.homes st.leases (IsWithin st) seated.within;
      reachable = seated.reachable;
    }

filter-all : {X : Type 0} (xs : List X) → filter (λ x. true) xs ≡ xs
filter-all [] = refl
filter-all (x ∷ xs) = ap (λ ys. x ∷ ys) (filter-all xs)

is_home_of-own : (s : StripeNo) (f : Fragment) (h : Held) → h.stripe ≡ s → h.fragment ≡ f → is_home_of s f h ≡ true
is_home_of-own s f h stripe fragment =
    rw (
      eq-eqb h.stripe.value s.value (ap (λ (t : StripeNo). t.value) stripe),
      eq-eqb h.fragment.value f.value
          (ap (λ (g : Fragment). g.value) fragment),
    ) refl

-- removing only homes, and removing only leases
pub homes-seated : (nodes : List NodeInfo) (st : State) (p : Held → Bool) → AreSeated nodes st
    → AreSeated nodes (record st { homes = filter p st.homes })
homes-seated nodes st p seated =
    subst (λ (ls : List Lease). AreSeated nodes (record st { homes = filter p st.homes; leases = ls })) (filter-all st.leases)
    (kept-seated nodes st p (λ l. true) seated)

pub leases-seated : (nodes : List NodeInfo) (st : State) (q : Lease → Bool) → AreSeated nodes st
    → AreSeated nodes (record st { leases = filter q st.leases })
leases-seated nodes st q seated =
    subst (λ (hs : List Held). AreSeated nodes (record st { homes = hs; leases = filter q st.leases })) (filter-all st.homes)
    (kept-seated nodes st (λ h. true) q seated)

-- granting a lease on the chosen seat, for a fragment without one
pub granted-seated : (nodes : List NodeInfo) → AreNodes nodes → (st : State) (l : Lease) → AreSeated nodes st
    → IsChoice nodes st l.stripe l.fragment l.target → Contains st.stripes l.stripe → IsTrue (has_fragment (code_of st l.stripe) l.fragment.value)
    → lease_of st l.stripe l.fragment ≡ None → AreSeated nodes (with_lease st l)
granted-seated nodes known st l seated choice there own none =
    leased-seated nodes st seated l (choice-stands nodes known st l.stripe l.fragment l.target choice there own) none

module _ (nodes : List NodeInfo) (st : State) (s : StripeNo) (f : Fragment) where
  -- ending the lease of a fragment
  pub ended-seated : AreSeated nodes st → AreSeated nodes (without_lease st s f)
  ended-seated seated = leases-seated nodes st (λ l. not (is_of s f.value l)) seated

  abbrev p : Held → Bool
  p h = not (is_home_of s f h)

  abbrev q : Lease → Bool
  q l = not (is_of s f.value l)

  abbrev cleared : State
  cleared = record st { homes = filter p st.homes; leases = filter q st.leases }

  module _ (l : Lease) (live : lease_of st s f ≡ Some l) (seated : AreSeated nodes st) where
    found : Contains st.leases l × (is_of s f.value l ≡ true)
    found = find-some (is_of s f.value) st.leases l live

    own : held_by l ≡ held_on s f l.target
    own = let parts = leases_in-own st.leases s f.value l live in
        ap (λ (r : StripeNo). record { stripe = r; fragment = l.fragment; seat = l.target }) parts.0
        ∙ ap (λ (g : Fragment). record { stripe = s; fragment = g; seat = l.target }) (equal_fragments l.fragment f parts.1)

    among : Contains (seats_of st) (held_by l)
    among = Contains-append_right st.homes (map held_by st.leases) (held_by l) (map-member held_by st.leases l found.0)

    -- after the lease is removed, its target can become a home
    target-stands : MayStand nodes cleared (held_by l)
    target-stands = record {
      standing = All-contains (λ h. IsStanding nodes st h.seat) (seats_of st) (held_by l) (held-standing nodes st seated) among;
      others =
          beside-left_out held_by p q st.homes st.leases (λ h g. h.seat ≢ g.seat) (held-single nodes st seated)
          (λ h g other e. other (sym e)) l found.0 (not_from_true _ found.1);
      apart =
          beside-left_out held_by p q st.homes st.leases (KeepApart nodes st) seated.lawful (KeepApart-turn nodes st) l found.0
          (not_from_true _ found.1);
      there = All-contains (λ h. Contains st.stripes h.stripe) (seats_of st) (held_by l) seated.there among;
      within = All-contains (IsWithin st) (seats_of st) (held_by l) seated.within among;
    }

    left-none : HasNone s (filter p st.homes) f
    left-none = All-members (λ h. h.stripe ≡ s → h.fragment ≢ f) (filter p st.homes) (λ h here stripe fragment.
        (let both : true ≡ false = sym (is_home_of-own s f h stripe fragment) ∙ not-true _ (filter-member p st.homes h here).1 in cc))

    -- the target of the lease becomes its fragment's home
    pub moved-seated : AreSeated nodes (moved_in st s f l.target)
    moved-seated =
        inserted-seated nodes cleared (kept-seated nodes st p q seated) (held_on s f l.target)
        (subst (MayStand nodes cleared) own target-stands) left-none
