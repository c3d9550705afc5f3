-- The leases of an image, row by row.
use Rattle.std.proofs.Common.{[], ◌≡◌, ℕ, ◌+◌, true, false, ◌&&◌, nat_lt, nat_le, List, ◌∷◌, ◌++◌, None, sym, ap, ◌∙◌}
use Rattle.std.proofs.lemmas.List.{map-append}
use Rattle.std.proofs.lemmas.List.Elements.{All-contains}
use Rattle.lrc_code.specs.declared.numbers.StripeNo.{StripeNo}
use Rattle.lrc_topology.specs.declared.NodeInfo.{NodeInfo}
use Rattle.lrc_stripes.specs.Stored.{Stored}
use Rattle.lrc_stripes.specs.Tables.{stored_in}
use Rattle.lrc_terms.specs.declared.lease.Lease.{Lease}
use Rattle.lrc_rules.specs.declared.entry.Entry.{Entry}
use Rattle.lrc_rules.specs.States.{has_stripe, held_by}
use Rattle.lrc_rules.specs.Leases.{with_lease, term}
use Rattle.lrc_rules.proofs.TakenLemmas.{member-map}
use Rattle.lrc_rules.proofs.LookUpLemmas.{stripe-there}
use Rattle.lrc_rules.proofs.StateLemmas.{lease-none}
use Rattle.lrc_images.specs.declared.cause.Cause.TheVariants as cause
use Rattle.lrc_images.specs.declared.image.LeaseRow.{LeaseRow}
use Rattle.lrc_images.specs.declared.image.Image.{Image}
use Rattle.lrc_images.specs.Images.{earlier, row_lease, image_state}
use Rattle.lrc_images.specs.Rising.{lease_first}
use Rattle.lrc_images.specs.Causes.{is_out_of_order, lease_cause, with_leases}
use Rattle.lrc_images.proofs.AnswerLemmas.{if-none}
use Rattle.lrc_images.proofs.RisingLemmas.{other-lease}
use Rattle.lrc_images.proofs.LawfulLemmas.{lease-row}
use Rattle.lrc_images.proofs.SeatCauseLemmas.{seat-may}
use Rattle.lrc_store.specs.declared.store.Store.{Store}
use Rattle.lrc_store.specs.Stores.{IsOf, MayLease}

-- the stripes and the clock that are kept are those of the image
module _ (i : Image) (before : List LeaseRow) (k : Store) (kept : IsOf (with_leases i before) k) where
  pub there-is : (s : StripeNo) → has_stripe (image_state i) s ≡ (stored_in k.stripes).stripes s
  there-is s = sym (ap (λ (t : Stored). t.stripes s) kept.stripes_is)

  pub running-is : (expiry : ℕ) → (nat_lt i.clock expiry && nat_le expiry (i.clock + term)) ≡ (nat_lt k.clock.value expiry && nat_le expiry (k.clock.value + term))
  running-is expiry = ap (λ (n : ℕ). nat_lt n expiry && nat_le expiry (n + term)) (sym kept.clock_is)

-- ---- one lease more

module _ (nodes : List NodeInfo) (i : Image) where
  abbrev past : List Entry
  past = earlier i.grants.items

  module _ (before : List LeaseRow) (r : LeaseRow) where
    -- a row without a cause comes after the others
    pub lease-ordered : lease_cause nodes i before r ≡ None → is_out_of_order lease_first before r ≡ false
    lease-ordered none = (if-none (is_out_of_order lease_first before r) cause.OutOfOrder _ none).0

    -- its lease may be added
    pub row-may : lease_cause nodes i before r ≡ None → MayLease nodes (with_leases i before) (row_lease past r)
    row-may none =
        let row = lease-row nodes i before r none in
        let st = with_leases i before in
        let may = seat-may nodes st (held_by (row_lease past r)) row.seat (stripe-there (image_state i) r.stripe row.there) in
        record {
          there = row.there;
          own = may.within;
          new = lease-none st r.stripe r.fragment (λ k among stripe fragment.
              let m = member-map (row_lease past) before k among in
              other-lease m.0 r (All-contains (λ b. lease_first b r ≡ true) before m.0 row.after m.1)
              (ap (λ (l : Lease). l.stripe) m.2 ∙ stripe) (ap (λ (l : Lease). l.fragment) m.2 ∙ fragment));
          standing = may.standing;
          others = may.others;
          apart = may.apart;
        }

    -- the state with it
    pub row-more : with_lease (with_leases i before) (row_lease past r) ≡ with_leases i (before ++ r ∷ [])
    row-more = ap (λ (ls : List Lease). record (image_state i) { leases = ls }) (sym (map-append (row_lease past) before (r ∷ [])))
