-- What is found at positions one after the other is what a walk writes.
use Rattle.std.proofs.Common.{◌≡◌, ℕ, ◌-◌, ◌*◌, ◌<◌, ◌≤◌, Bool, false, if◌then◌else◌, List, map, drop, length, Option, Some, None, option_map, sym, ap, ◌∙◌, arith}
use Rattle.std.specs.Prelude.{filter, slice_get, nat_le}
use Rattle.std.specs.List.{filter_map, range_with_len}
use Rattle.std.specs.Option.{option_flatten}
use Rattle.std.proofs.lemmas.Bool.{le-leb, false_from_ne_true, leb-true}
use Rattle.std.proofs.Math.Nat.{mod-eq_of_lt}
use Rattle.lrc_code.specs.declared.numbers.StripeNo.{StripeNo}
use Rattle.lrc_terms.specs.Stripes.{StripeFragment, stripe_at}
use Rattle.lrc_rules.specs.States.{has_stripe, lease_of}
use Rattle.lrc_book.specs.Books.{BookView, state_of}
use Rattle.lrc_book.specs.Looks.{stripes_of, places}
use Rattle.lrc_records.specs.declared.stripe.LrcStripe.{LrcStripe}
use Rattle.lrc_records.specs.declared.lease.LrcLease.{LrcLease}
use Rattle.lrc_records.specs.declared.fragment.LrcFragment.{LrcFragment}
use Rattle.lrc_records.specs.Shown.{encoded_fragment}
use Rattle.lrc_records.specs.Replies.{encoded_lease}
use Rattle.lrc_walks.specs.WalkRows.{is_from, place_at, stripe_record, stripes_from, leases_from}
use Rattle.lrc_walks.proofs.FoundLemmas.{found-part, found-from, found-map, found-each, found-passing, found-tested, passing-both}
use Rattle.lrc_walks.proofs.PlaceLemmas.{places-are, place-early}

-- ---- stripes

not-from : (from k : ℕ) → k < from → nat_le from k ≡ false
not-from from k low = false_from_ne_true (nat_le from k) (λ e. omega (arith, low, leb-true from k e))

module _ (b : BookView) (from : ℕ) where
  -- the row of a stripe, if it is there
  abbrev row_there : StripeNo → Option LrcStripe
  row_there s = if has_stripe (state_of b) s then Some (stripe_record b.nodes (state_of b) s) else None

  -- the same, if the walk goes over its number
  abbrev pub stripe_found : StripeNo → Option LrcStripe
  stripe_found s = if nat_le from s.value then row_there s else None

  abbrev is_over : StripeNo → Bool
  is_over s = nat_le from s.value

  numbered-found : (n : ℕ) → n ≤ 4096
      → filter_map (λ i. stripe_found (stripe_at i)) (range_with_len from (n - from))
      ≡ map (stripe_record b.nodes (state_of b)) (filter is_over (filter (has_stripe (state_of b)) (map stripe_at (range_with_len 0 n))))
  numbered-found n few =
      let numbers = map stripe_at (range_with_len 0 n) in
      found-part (λ i. stripe_found (stripe_at i)) from n
      (λ i early low.
      let number : (stripe_at i).value ≡ i = mod-eq_of_lt (omega (arith, low, few)) in
      ap (λ (t : Bool). if t then row_there (stripe_at i) else None) (not-from from (stripe_at i).value (omega (arith, early, number))))
      ∙ sym (found-map stripe_found stripe_at (range_with_len 0 n))
      ∙ found-tested is_over row_there numbers
      ∙ found-passing (has_stripe (state_of b)) (stripe_record b.nodes (state_of b)) (filter is_over numbers)
      ∙ ap (map (stripe_record b.nodes (state_of b))) (passing-both (has_stripe (state_of b)) is_over numbers)

  pub stripes-found : filter_map (λ i. stripe_found (stripe_at i)) (range_with_len from (4096 - from)) ≡ stripes_from b from
  unfolding stripes_of
  stripes-found = numbered-found 4096 (omega arith)

  pub stripe-told : (i : ℕ) (found : Option LrcStripe) → from ≤ i → i < 4096 → found ≡ row_there (stripe_at i) → found ≡ stripe_found (stripe_at i)
  stripe-told i found low high is =
      let number : (stripe_at i).value ≡ i = mod-eq_of_lt high in
      is ∙ sym (ap (λ (t : Bool). if t then row_there (stripe_at i) else None) (le-leb from (stripe_at i).value (omega (arith, low, number))))

-- ---- leases

module _ (b : BookView) (stripe fragment : ℕ) where
  abbrev lease_there : StripeFragment → Option LrcLease
  lease_there p = option_map encoded_lease (lease_of (state_of b) p.0 p.1)

  -- the live lease of a fragment, if the walk goes over it
  abbrev pub lease_found : StripeFragment → Option LrcLease
  lease_found p = if is_from stripe fragment p then lease_there p else None

  placed-found : (n : ℕ) (all : List StripeFragment) → n ≤ 65536 → all ≡ map place_at (range_with_len 0 n)
      → filter_map (λ i. lease_found (place_at i)) (range_with_len (16 * stripe) (n - 16 * stripe)) ≡ filter_map lease_there (filter (is_from stripe fragment) all)
  placed-found n all few are =
      found-part (λ i. lease_found (place_at i)) (16 * stripe) n
      (λ i early low. ap (λ (t : Bool). if t then lease_there (place_at i) else None) (place-early stripe fragment i early (omega (arith, low, few))))
      ∙ sym (found-map lease_found place_at (range_with_len 0 n)) ∙ ap (filter_map lease_found) (sym are)
      ∙ found-tested (is_from stripe fragment) lease_there all

  pub leases-found : filter_map (λ i. lease_found (place_at i)) (range_with_len (16 * stripe) (65536 - 16 * stripe)) ≡ leases_from b stripe fragment
  leases-found = placed-found 65536 places (omega arith) places-are

-- ---- lists

-- the row of each element from a position on
pub rows-found : {C T : Type 0} (g : C → T) (xs : List C) (from : ℕ)
    → filter_map (λ i. option_map g (slice_get xs i)) (range_with_len from (length xs - from)) ≡ map g (drop from xs)
rows-found g xs from =
    found-from (λ x. Some (g x)) (λ i. option_map g (slice_get xs i)) xs (λ i x got. ap (option_map g) got) from ∙ found-each g (drop from xs)

-- the fragments over which the walk goes
pub homes-found : (homes : List StripeFragment) (stripe fragment : ℕ)
    → filter_map (λ i. option_flatten (option_map (λ p. if is_from stripe fragment p then Some (encoded_fragment p) else None) (slice_get homes i))) (range_with_len 0 (length homes - 0))
    ≡ map encoded_fragment (filter (is_from stripe fragment) homes)
homes-found homes stripe fragment =
    let h : StripeFragment → Option LrcFragment = λ p. if is_from stripe fragment p then Some (encoded_fragment p) else None in
    found-from h (λ i. option_flatten (option_map h (slice_get homes i))) homes (λ i p got. ap (λ (o : Option StripeFragment). option_flatten (option_map h o)) got) 0
    ∙ found-passing (is_from stripe fragment) encoded_fragment homes
