-- The stripes of a store, in rising order, and what the book returns of them.
use Rattle.std.proofs.Common.{◌≡◌, ℕ, ◌+◌, ◌<◌, ◌≤◌, Bool, true, false, if◌then◌else◌, List, [], ◌∷◌, ◌++◌, length, get_or, map, Option, Some, None, inl, inr, refl, sym, ap, subst, ◌∙◌, append-nil, zero-add, arith}
use Rattle.std.specs.Prelude.{is_some, filter}
use Rattle.std.specs.List.{AllByRecursion, Contains, range_with_len}
use Rattle.std.proofs.lemmas.Bool.{cases_Bool}
use Rattle.std.proofs.lemmas.List.{get_or-map}
use Rattle.std.proofs.lemmas.List.Elements.{filter-append}
use Rattle.std.proofs.lemmas.List.Sums.{length-filter, count_by-le-length}
use Rattle.std.proofs.lemmas.List.FromFn.{length-range_with_len, get_or-range_with_len, length-map-range_with_len, map-range_with_len_more}
use Rattle.std.proofs.Math.Nat.{mod-eq_of_lt}
use Rattle.lrc_code.specs.declared.codes.Code.{Code}
use Rattle.lrc_code.specs.declared.numbers.Fragment.{Fragment}
use Rattle.lrc_code.specs.Codes.{all_fragments}
use Rattle.lrc_code.specs.Losses.{bits_of}
use Rattle.lrc_code.specs.declared.numbers.StripeNo.{StripeNo}
use Rattle.lrc_code.proofs.NumbersLemmas.{equal_stripes}
use Rattle.lrc_topology.specs.declared.NodeInfo.{NodeInfo}
use Rattle.lrc_terms.specs.Levels.{homes_of, level_if, missing_if}
use Rattle.lrc_terms.specs.Stripes.{stripe_at}
use Rattle.lrc_rules.specs.States.{State, has_stripe, code_of, code_shown, homes_shown, level, level_shown, missing, missing_shown}
use Rattle.lrc_rules.proofs.MemberLemmas.{filter-member, member-filter}
use Rattle.lrc_book.specs.Looks.{stripe_numbers, stripes_of}

-- the stripes of the store with a number below `count`, in rising order
unfoldable pub stripes_below : State → ℕ → List StripeNo
stripes_below st count = filter (has_stripe st) (map stripe_at (range_with_len 0 count))

pub own-number : (s : StripeNo) → stripe_at s.value ≡ s
own-number s = equal_stripes (stripe_at s.value) s (mod-eq_of_lt s.in_range)

is_some-if : {X : Type 0} (b : Bool) (x : X) → is_some (if b then Some x else None) ≡ b
is_some-if true x = refl
is_some-if false x = refl

-- the book has a code for the stripes of its store
pub code-there : (st : State) (s : StripeNo) (o : Option Code) (b : Bool) → o ≡ code_shown st s → is_some o ≡ b → has_stripe st s ≡ b
code-there st s o b is told = sym (is_some-if (has_stripe st s) (code_of st s)) ∙ ap is_some (sym is) ∙ told

-- ---- the stripes below a number

pub stripes-none : (st : State) → stripes_below st 0 ≡ []
unfolding stripes_below
stripes-none st = refl

module _ (st : State) (n : ℕ) (s : StripeNo) (is : stripe_at n ≡ s) where
  stripes-more : stripes_below st (n + 1) ≡ stripes_below st n ++ filter (has_stripe st) (s ∷ [])
  unfolding stripes_below
  stripes-more =
      ap (filter (has_stripe st)) (map-range_with_len_more stripe_at 0 n n (zero-add n))
      ∙ filter-append (has_stripe st) (map stripe_at (range_with_len 0 n)) (stripe_at n ∷ [])
      ∙ ap (λ (r : StripeNo). filter (has_stripe st) (map stripe_at (range_with_len 0 n)) ++ filter (has_stripe st) (r ∷ [])) is

  pub stripe-push : (rows : List StripeNo) → rows ≡ stripes_below st n → has_stripe st s ≡ true → rows ++ s ∷ [] ≡ stripes_below st (n + 1)
  stripe-push rows so_far hit =
      ap (λ (l : List StripeNo). l ++ s ∷ []) so_far
      ∙ sym (stripes-more ∙ ap (λ (b : Bool). stripes_below st n ++ (if b then s ∷ [] else [])) hit)

  pub stripe-pass : (rows : List StripeNo) → rows ≡ stripes_below st n → has_stripe st s ≡ false → rows ≡ stripes_below st (n + 1)
  stripe-pass rows so_far miss =
      so_far ∙ sym (stripes-more ∙ ap (λ (b : Bool). stripes_below st n ++ (if b then s ∷ [] else [])) miss ∙ append-nil (stripes_below st n))

pub stripes-all : (st : State) (n : ℕ) → n ≡ 4096 → stripes_below st n ≡ stripes_of st
unfolding stripes_below stripes_of
stripes-all st n end = ap (λ (k : ℕ). filter (has_stripe st) (map stripe_at (range_with_len 0 k))) end

each-there : (st : State) (xs : List StripeNo) → AllByRecursion (λ s. has_stripe st s ≡ true) (filter (has_stripe st) xs)
each-there st [] = tt
each-there st (s ∷ xs) = elim (cases_Bool (has_stripe st s)) [
  | inl hit ↦ rw hit (hit, each-there st xs)
  | inr miss ↦ rw miss (each-there st xs)
]

-- each of them is there
pub stripes-there : (st : State) (n : ℕ) → AllByRecursion (λ s. has_stripe st s ≡ true) (stripes_below st n)
unfolding stripes_below
stripes-there st n = each-there st (map stripe_at (range_with_len 0 n))

few-below : (st : State) (n : ℕ) → length (stripes_below st n) ≤ n
unfolding stripes_below
few-below st n =
    let all = map stripe_at (range_with_len 0 n) in
    omega (arith, length-filter (has_stripe st) all, count_by-le-length (has_stripe st) all, length-map-range_with_len stripe_at 0 n)

pub few-stripes : (st : State) → length (stripes_of st) ≤ 4096
few-stripes st = subst (λ (l : List StripeNo). length l ≤ 4096) (stripes-all st 4096 refl) (few-below st 4096)

-- ---- members

module _ (n : ℕ) (s : StripeNo) (within : s.value < n) where
  number-at : get_or (map stripe_at (range_with_len 0 n)) s.value s ≡ s
  number-at =
      get_or-map stripe_at (range_with_len 0 n) s.value 0 s (omega (arith, within, length-range_with_len 0 n))
      ∙ ap stripe_at (get_or-range_with_len 0 n s.value 0 within ∙ zero-add s.value) ∙ own-number s

  numbered : Contains (map stripe_at (range_with_len 0 n)) s
  numbered = (s.value, omega (arith, within, length-map-range_with_len stripe_at 0 n), number-at)

-- each stripe number is listed
pub every-number : (s : StripeNo) → Contains stripe_numbers s
every-number s = numbered 4096 s s.in_range

-- the stripes that are listed are those that are there
module _ (st : State) (s : StripeNo) where
  pub there-listed : has_stripe st s ≡ true → Contains (stripes_of st) s
  unfolding stripes_of
  there-listed there = member-filter (has_stripe st) stripe_numbers s (every-number s) there

  pub listed-there : Contains (stripes_of st) s → has_stripe st s ≡ true
  unfolding stripes_of
  listed-there listed = (filter-member (has_stripe st) stripe_numbers s listed).1

-- ---- what the book returns of a stripe that is there

module _ (nodes : List NodeInfo) (st : State) (s : StripeNo) (there : has_stripe st s ≡ true) where
  pub code-told : code_shown st s ≡ Some (code_of st s)
  code-told = rw there refl

  pub level-told : level_shown nodes st s ≡ Some (level nodes st s)
  unfolding level_if
  level-told = rw there refl

  pub mask-told : missing_shown nodes st s ≡ Some (record { bits = bits_of (code_of st s) (missing nodes st s) })
  unfolding missing_if
  mask-told = rw there refl

  pub homes-told : homes_shown st s ≡ Some (map (λ (f : Fragment). homes_of st.homes s f.value) all_fragments)
  homes-told = rw there refl
