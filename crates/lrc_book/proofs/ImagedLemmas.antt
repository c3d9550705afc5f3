-- The walk that makes the rows of an image.
use Rattle.std.proofs.Common.{[], ◌≡◌, ℕ, ◌+◌, ◌<◌, Bool, true, false, if◌then◌else◌, List, ◌∷◌, ◌++◌, length, get_or, take, map, flat_map, Option, Some, None, refl, sym, ap, ◌∙◌, append_assoc, append-nil, arith, lit<}
use Rattle.std.specs.Prelude.{option_map, option_to_list, Result, Ok, Err, IfOk, nat_lt}
use Rattle.std.specs.List.{list_any}
use Rattle.std.proofs.lemmas.List.{ext_get_or, get_or-map, take_more}
use Rattle.std.proofs.lemmas.List.Concat.{flat_map-append}
use Rattle.lrc_code.specs.declared.numbers.StripeNo.{StripeNo}
use Rattle.lrc_code.specs.declared.numbers.Fragment.{Fragment}
use Rattle.lrc_code.specs.Codes.{fragments, all_fragments}
use Rattle.lrc_topology.specs.declared.seat.Seat.{Seat}
use Rattle.lrc_terms.specs.Levels.{homes_of, homes_if}
use Rattle.lrc_terms.specs.declared.lease.Lease.{Lease}
use Rattle.lrc_terms.proofs.CodeListLemmas.{fragment-number}
use Rattle.lrc_rules.specs.declared.entry.Entry.{Entry}
use Rattle.lrc_leases.specs.Granted.{granted_in}
use Rattle.lrc_store.specs.Stores.{AreGrantsOf}
use Rattle.lrc_rules.specs.States.{State, has_stripe, code_of, lease_of}
use Rattle.lrc_rules.specs.Leases.{grants}
use Rattle.lrc_images.specs.declared.image.LeaseRow.{LeaseRow}
use Rattle.lrc_images.specs.declared.image.StripeRow.{StripeRow}
use Rattle.lrc_images.specs.declared.image.GrantRow.{GrantRow}
use Rattle.lrc_images.specs.Rising.{tells_grants}
use Rattle.lrc_images.specs.Rows.{stripe_row, row_of_grants, grant_row, lease_row, stripe_leases}

-- ---- fragments by number

pub item-number : (items : List Fragment) (i : ℕ) (d : Fragment) → items ≡ all_fragments → i < 16 → (get_or items i d).value ≡ i
item-number items i d all within = rw all (fragment-number i d within)

-- a list with the value of each fragment at its number
pub by-fragment : (counts : List ℕ) (value : Fragment → ℕ) → length counts ≡ 16 → ((f : Fragment) → get_or counts f.value 0 ≡ value f) → counts ≡ map value all_fragments
by-fragment counts value long each =
    let first : Fragment = record { value = 0; in_range = lit< tt } in
    ext_get_or 0 counts (map value all_fragments) long (λ k below.
    let within : k < 16 = omega (arith, below, long) in
    let number = fragment-number k first within in
    ap (λ n. get_or counts n 0) (sym number) ∙ each (get_or all_fragments k first) ∙ sym (get_or-map value all_fragments k first 0 within))

-- ---- rows

module _ (st : State) (s : StripeNo) where
  abbrev pub row_with : List (Option Seat) → StripeRow
  row_with homes = record { stripe = s; code = code_of st s; homes = homes }

  abbrev own_homes : List (Option Seat)
  own_homes = map (λ (f : Fragment). homes_of st.homes s f.value) all_fragments

  some-by : (b : Bool) (homes : List (Option Seat)) → (if b then Some own_homes else None) ≡ Some homes → Some (row_with homes) ≡ (if b then Some (row_with own_homes) else None)
  some-by true homes e = ap (option_map row_with) (sym e)
  some-by false homes e = absurd (let no : ◌≡◌ {A = Option (List (Option Seat))} None (Some homes) = e in cc)

  none-by : (b : Bool) → (if b then Some own_homes else None) ≡ None → ◌≡◌ {A = Option StripeRow} None (if b then Some (row_with own_homes) else None)
  none-by true e = absurd (let no : ◌≡◌ {A = Option (List (Option Seat))} (Some own_homes) None = e in cc)
  none-by false e = refl

  pub stripe-some : (homes : List (Option Seat)) → homes_if (has_stripe st s) (homes_of st.homes s) ≡ Some homes → Some (row_with homes) ≡ stripe_row st s
  unfolding homes_if
  stripe-some homes is = some-by (has_stripe st s) homes is

  pub stripe-none : homes_if (has_stripe st s) (homes_of st.homes s) ≡ None → None ≡ stripe_row st s
  unfolding homes_if
  stripe-none is = none-by (has_stripe st s) is

any-told : (value : Fragment → ℕ) → list_any (λ f. nat_lt 0 (get_or (map value all_fragments) f.value 0)) all_fragments ≡ list_any (nat_lt 0) (map value all_fragments)
any-told value = refl

module _ (past : List Entry) (kept : List ℕ) (s : StripeNo) (granted : List ℕ) (is : granted ≡ map (λ f. granted_in kept s f) all_fragments) (counted : AreGrantsOf past kept) where
  same-granted : granted ≡ (row_of_grants past s).granted
  same-granted = is ∙ (λ i. map (λ f. counted s f i) all_fragments)

  abbrev grant_with : List ℕ → GrantRow
  grant_with counts = record { stripe = s; granted = counts }

  -- the row tells something exactly where a count is not 0
  tells : tells_grants (row_of_grants past s) ≡ list_any (nat_lt 0) granted
  tells = any-told (grants past s) ∙ ap (list_any (nat_lt 0)) (sym same-granted)

  abbrev told_by : Bool → Option GrantRow
  told_by b = if b then Some (row_of_grants past s) else None

  pub grant-some : list_any (nat_lt 0) granted ≡ true → Some (grant_with granted) ≡ grant_row past s
  grant-some hit = ap (λ (counts : List ℕ). Some (grant_with counts)) same-granted ∙ sym (ap told_by (tells ∙ hit))

  pub grant-none : list_any (nat_lt 0) granted ≡ false → None ≡ grant_row past s
  grant-none miss = sym (ap told_by (tells ∙ miss))

-- a clause of a result that is no error
pub if-ok : {T E : Type 0} {P Q : T → Type 0} (r : Result T E) → ((t : T) → P t → Q t) → IfOk r P → IfOk r Q
if-ok (Ok t) into holds = into t holds
if-ok (Err e) into holds = tt

-- ---- leases

module _ (st : State) (s : StripeNo) (items : List Fragment) (all : items ≡ all_fragments) (i : ℕ) (d : Fragment) (within : i < 16) (rows before : List LeaseRow)
    (so_far : rows ≡ before ++ flat_map (λ f. option_to_list (option_map lease_row (lease_of st s f))) (take i all_fragments)) where
  abbrev leases_at : Fragment → List LeaseRow
  leases_at f = option_to_list (option_map lease_row (lease_of st s f))

  leases-more : (o : Option Lease) → lease_of st s (get_or items i d) ≡ o
      → rows ++ option_to_list (option_map lease_row o) ≡ before ++ flat_map leases_at (take (i + 1) all_fragments)
  leases-more o is =
      let here : get_or items i d ≡ get_or all_fragments i d = ap (λ (fs : List Fragment). get_or fs i d) all in
      ap (λ (l : List LeaseRow). l ++ option_to_list (option_map lease_row o)) so_far
      ∙ append_assoc before (flat_map leases_at (take i all_fragments)) (option_to_list (option_map lease_row o))
      ∙ ap (λ l. before ++ l) (
      ap (λ (p : Option Lease). flat_map leases_at (take i all_fragments) ++ option_to_list (option_map lease_row p)) (sym is ∙ ap (lease_of st s) here)
      ∙ ap (λ l. flat_map leases_at (take i all_fragments) ++ l) (sym (append-nil (leases_at (get_or all_fragments i d))))
      ∙ sym (flat_map-append leases_at (take i all_fragments) (get_or all_fragments i d ∷ []))
      ∙ ap (flat_map leases_at) (sym (take_more all_fragments i d within)))

  pub lease-push : (l : Lease) → lease_of st s (get_or items i d) ≡ Some l → rows ++ lease_row l ∷ [] ≡ before ++ flat_map leases_at (take (i + 1) all_fragments)
  lease-push l is = leases-more (Some l) is

  pub lease-pass : lease_of st s (get_or items i d) ≡ None → rows ≡ before ++ flat_map leases_at (take (i + 1) all_fragments)
  lease-pass is = sym (append-nil rows) ∙ leases-more None is

pub leases-all : (st : State) (s : StripeNo) (i : ℕ) (rows before : List LeaseRow)
    → rows ≡ before ++ flat_map (λ f. option_to_list (option_map lease_row (lease_of st s f))) (take i all_fragments) → i ≡ 16 → rows ≡ before ++ stripe_leases st s
leases-all st s i rows before so_far end =
    so_far ∙ ap (λ n. before ++ flat_map (λ f. option_to_list (option_map lease_row (lease_of st s f))) (take n all_fragments)) end
