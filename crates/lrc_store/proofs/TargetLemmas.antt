-- The domains that are kept of the targets of leases.
use Rattle.std.proofs.Common.{◌≡◌, ℕ, ◌<◌, inl, inr, Bool, true, false, cond, ◌&&◌, nat_eq, List, length, get_or, set, Option, Some, None, option_map, is_some, arith, refl, sym, ap, subst, ◌∙◌}
use Rattle.std.proofs.Math.ListN.{length-set}
use Rattle.std.proofs.lemmas.Bool.{cases_eq, eq-eqb, ne_eqb}
use Rattle.std.proofs.lemmas.List.{get_or-set_same, get_or-set_other}
use Rattle.lrc_code.specs.declared.numbers.StripeNo.{StripeNo}
use Rattle.lrc_code.specs.declared.numbers.Fragment.{Fragment}
use Rattle.lrc_code.specs.Numbers.{same_stripe}
use Rattle.lrc_topology.specs.declared.NodeInfo.{NodeInfo}
use Rattle.lrc_topology.specs.declared.seat.Seat.{Seat}
use Rattle.lrc_topology.specs.Nodes.{node_at}
use Rattle.lrc_homes.specs.declared.home_domains.HomeDomains.{HomeDomains}
use Rattle.lrc_homes.specs.Domains.{AreDomainsOf, AreDomainsKept}
use Rattle.lrc_terms.specs.declared.lease.Lease.{Lease}
use Rattle.lrc_terms.specs.Leased.{Leased, is_of, empty, with_lease, without_lease}
use Rattle.lrc_rows.proofs.DomainLemmas.{domains-with}
use Rattle.lrc_store.specs.Stores.{targets_in}

abbrev target : Lease → Seat
target l = l.target

-- a fragment has a target exactly if it has a lease
pub has-target : (o : Option Lease) → is_some o ≡ is_some (option_map (λ (l : Lease). l.target) o)
has-target None = refl
has-target (Some l) = refl

module _ (nodes : List NodeInfo) (t : Leased) (list : List HomeDomains) where
  -- each lease is one that was
  pub targets-within : (u : Leased) → ((s : StripeNo) (f : ℕ) (l : Lease) → u.leases s f ≡ Some l → t.leases s f ≡ Some l)
      → AreDomainsKept nodes (targets_in t) list → AreDomainsKept nodes (targets_in u) list
  targets-within u within kept = record {
    long = kept.long;
    each = λ s d f seat n is at. kept.each s d f seat n (by s f seat (u.leases s f) refl is) at;
  } where
    by : (s : StripeNo) (f : ℕ) (seat : Seat) (o : Option Lease) → u.leases s f ≡ o → option_map target o ≡ Some seat → option_map target (t.leases s f) ≡ Some seat
    by s f seat None none is = absurd (cc)
    by s f seat (Some l) there is = ap (option_map target) (within s f l there) ∙ is

  -- the lease of one fragment is gone
  pub targets-without : (s : StripeNo) (f : Fragment) (u : Leased) → u ≡ without_lease t s f → AreDomainsKept nodes (targets_in t) list → AreDomainsKept nodes (targets_in u) list
  targets-without s f u is = targets-within u (λ r g l there.
      left (same_stripe s r && nat_eq f.value g) (t.leases r g) l (sym (ap (λ (x : Leased). x.leases r g) is) ∙ there)) where
        left : (b : Bool) (o : Option Lease) (l : Lease) → cond b None o ≡ Some l → o ≡ Some l
        left true o l e = absurd (cc)
        left false o l e = e

  -- there is no lease
  pub targets-none : t ≡ empty → length list ≡ 4096 → AreDomainsKept nodes (targets_in t) list
  targets-none is long = record {
    long = long;
    each = λ s d f seat n there at. absurd (let clash : ◌≡◌ {A = Option Seat} None (Some seat) = sym (ap (λ (x : Leased). option_map target (x.leases s f)) is) ∙ there in cc);
  }

  module _ (l : Lease) (kept : AreDomainsKept nodes (targets_in t) list) where
    -- another fragment has the target that it had
    other-target : (s : StripeNo) (f : ℕ) → is_of s f l ≡ false → targets_in (with_lease t l) s f ≡ targets_in t s f
    other-target s f other = ap (λ (b : Bool). option_map target (cond b (Some l) (t.leases s f))) other

    -- one more lease, on a node that is not there
    pub targets-nowhere : node_at nodes l.target.node ≡ None → AreDomainsKept nodes (targets_in (with_lease t l)) list
    targets-nowhere gone = record {
      long = kept.long;
      each = λ s d f seat n is at. by s d f seat n (is_of s f l) refl is at;
    } where
      by : (s : StripeNo) (d : HomeDomains) (f : ℕ) (seat : Seat) (n : NodeInfo) (b : Bool) → is_of s f l ≡ b → option_map target (cond b (Some l) (t.leases s f)) ≡ Some seat → node_at nodes seat.node ≡ Some n
          → (get_or (get_or list s.value d).faults f 0 ≡ n.fault.value) × (get_or (get_or list s.value d).upgrades f 0 ≡ n.upgrade.value)
      by s d f seat n true own is at = absurd (let clash : ◌≡◌ {A = Option NodeInfo} None (Some n) = sym gone ∙ (ap (λ (o : Option Seat). node_of o) is ∙ at) in cc) where
        node_of : Option Seat → Option NodeInfo
        node_of None = None
        node_of (Some x) = node_at nodes x.node
      by s d f seat n false other is at = kept.each s d f seat n is at

    -- one more lease, with the domains of its target's node
    pub targets-with : (m : NodeInfo) → node_at nodes l.target.node ≡ Some m → (was put : HomeDomains) → was ≡ get_or list l.stripe.value was
        → put.faults ≡ set was.faults l.fragment.value m.fault.value → put.upgrades ≡ set was.upgrades l.fragment.value m.upgrade.value
        → AreDomainsKept nodes (targets_in (with_lease t l)) (set list l.stripe.value put)
    targets-with m found was put here faults upgrades = record {
      long = length-set list l.stripe.value put ∙ kept.long;
      each = λ s d f seat n is at. elim (cases_eq l.stripe.value s.value) [
        | inl same ↦
            let inside : l.stripe.value < length list = let below = l.stripe.in_range in let long = kept.long in omega (arith, below, long) in
            let entry : put ≡ get_or (set list l.stripe.value put) s.value d =
            sym (ap (λ (k : ℕ). get_or (set list l.stripe.value put) k d) (sym same) ∙ get_or-set_same list l.stripe.value put d inside) in
            let before : AreDomainsOf nodes (targets_in t s) was =
            subst (λ (h : HomeDomains). AreDomainsOf nodes (targets_in t s) h) (sym (here ∙ ap (λ (k : ℕ). get_or list k was) same)) (kept.each s was) in
            subst (λ (h : HomeDomains). (get_or h.faults f 0 ≡ n.fault.value) × (get_or h.upgrades f 0 ≡ n.upgrade.value)) entry
            (domains-with nodes was put l.fragment.value l.fragment.in_range m l.target found faults upgrades (targets_in t s) before f seat n
            (own s f same (nat_eq l.fragment.value f) refl ∙ is) at)
        | inr other ↦
            let entry : get_or list s.value d ≡ get_or (set list l.stripe.value put) s.value d = sym (get_or-set_other list l.stripe.value s.value put d (λ e. other (sym e))) in
            subst (λ (h : HomeDomains). (get_or h.faults f 0 ≡ n.fault.value) × (get_or h.upgrades f 0 ≡ n.upgrade.value)) entry
            (kept.each s d f seat n (sym (other-target s f (ap (λ (b : Bool). b && nat_eq l.fragment.value f) (ne_eqb l.stripe.value s.value other))) ∙ is) at)
      ];
    } where
      own : (s : StripeNo) (f : ℕ) → l.stripe.value ≡ s.value → (b : Bool) → nat_eq l.fragment.value f ≡ b
          → cond (nat_eq l.fragment.value f) (Some l.target) (targets_in t s f) ≡ targets_in (with_lease t l) s f
      own s f same true e = rw (e, eq-eqb l.stripe.value s.value same) refl
      own s f same false e = rw (e, eq-eqb l.stripe.value s.value same) refl
