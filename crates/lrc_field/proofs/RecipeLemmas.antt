-- The recipe that weights give.
use Rattle.std.proofs.Common.{◌≡◌, ℕ, ◌+◌, ◌<◌, ◌≤◌, Bool, true, false, cond, if◌then◌else◌, not, ◌&&◌, ◌||◌, eqb, ltb, nat_eq, List, length, get_or, count_by, refl, sym, ap, ◌∙◌, inl, inr, arith, IsTrue}
use Rattle.std.specs.Bool.{IsFalse}
use Rattle.std.specs.List.{list_all, list_any}
use Rattle.std.specs.Option.{option_map_or}
use Rattle.std.proofs.lemmas.Bool.{cases_Bool, eqb-true, eq-eqb, ltb-true, or_cases, or_left, or_right, and_parts, and_from, not-true, not-false, agree_below, agree_below_at}
use Rattle.std.proofs.lemmas.List.{get_or_past}
use Rattle.lrc_code.specs.declared.codes.Code.{Code}
use Rattle.lrc_code.specs.declared.codes.Code.TheVariants.{Wide, Narrow}
use Rattle.lrc_code.specs.declared.codes.Class.{Class}
use Rattle.lrc_code.specs.declared.codes.Class.TheVariants.{A, B}
use Rattle.lrc_code.specs.declared.numbers.Fragment.{Fragment}
use Rattle.lrc_code.specs.Numbers.{same_fragment}
use Rattle.lrc_code.specs.Codes.{fragment_count, members, class_of, are_one_class, share_class, is_local_class, data_count, group_size}
use Rattle.lrc_code.specs.Losses.{FragmentSet, IsRecoverable, losses_in, size_of, joined, is_local}
use Rattle.lrc_code.proofs.LossesLemmas.{members-below}
use Rattle.lrc_code.proofs.SizeLemmas.{recoverable_part, which_four}
use Rattle.lrc_field.specs.Stripes.{numbers_of, outside, Determines}
use Rattle.lrc_field.specs.Recipes.{read_by, readable, IsRecipe, ComesFirst, IsFirstRecipe}
use Rattle.lrc_field.specs.Weights.{Weights, coefficient_by, weights_for, local_weights}
use Rattle.lrc_field.proofs.MemberLemmas.{only, fragments_below, fragments_listed, at_most_sixteen, size_of-outside, four_parities}
use Rattle.lrc_field.proofs.SublistLemmas.{at_listed}
use Rattle.lrc_field.proofs.CountLemmas.{listed_count}
use Rattle.lrc_field.proofs.LeftOutLemmas.{four, ends_alone}
use Rattle.lrc_field.proofs.ZeroLemmas.{is_out}
use Rattle.lrc_field.proofs.NearLemmas.{is_beside, IsAlone, alone_from, SomeNear, near_from}
use Rattle.lrc_field.proofs.DecodableLemmas.{Rebuilds, LeavesOut, rebuilds_near, rebuilds_local, local_value, except, except-self}
use Rattle.lrc_field.proofs.DeterminedLemmas.{recoverable_near, size_of-within, many_known}
use Rattle.lrc_field.proofs.RisingLemmas.{whole_part, some_listed, none_listed, counted_listed}
use Rattle.lrc_field.proofs.ReadLemmas.{AreOf, below, exact, read_determines, readable_determines, reads_readable, reads_within, unread, lacking}

-- ---- all that is said of a recipe

pub record Made (code : Code) (m : FragmentSet) (f : Fragment) (c : ℕ → ℕ) : Type 0 where
  pub recipe : IsFirstRecipe code m f.value c
  pub determines : Determines code (readable m f.value) f.value
  pub reads : size_of code (read_by c) ≡ (if is_local code m f then group_size code else data_count code)
  pub local : is_local code m f ≡ true → (g : Fragment) → c g.value ≡ (if share_class code f g && not (same_fragment f g) then 1 else 0)

-- the others of a set, as the program has them
abbrev pub others_of : FragmentSet → ℕ → FragmentSet
others_of m f g = not (eqb g f) && m g

pub others_of-self : (m : FragmentSet) (f : ℕ) → others_of m f f ≡ false
others_of-self m f = rw (eq-eqb f f refl) refl

unknown_self : (code : Code) (m known : FragmentSet) (f : ℕ) → f < fragment_count code → ((g : ℕ) → g < fragment_count code → known g ≡ true → readable m f g ≡ true) → known f ≡ false
unknown_self code m known f within inside = elim (cases_Bool (known f)) [
  | inr unknown ↦ unknown
  | inl knows ↦ absurd (let e : not (eqb f f) ≡ true = (and_parts (not (m f)) (not (eqb f f)) (inside f within knows)).1 in let k : not true ≡ true = rw (eq-eqb f f refl) at e in cc)
]

unknown_missing : (code : Code) (m known : FragmentSet) (f : ℕ) → ((g : ℕ) → g < fragment_count code → known g ≡ true → readable m f g ≡ true) → (g : ℕ) → g < fragment_count code → m g ≡ true → eqb g f ≡ false → except (outside known) f g ≡ true
unknown_missing code m known f inside g few missing apart = and_from (outside known g) (not (eqb g f)) (elim (cases_Bool (known g)) [
  | inr unknown ↦ rw unknown refl
  | inl knows ↦ absurd (let e : not (m g) ≡ true = (and_parts (not (m g)) (not (eqb g f)) (inside g few knows)).0 in let k : not true ≡ true = rw missing at e in cc)
]) (rw apart refl)

-- ---- the recipe of a fragment that its group rebuilds

own_size : Code → ℕ → Bool
own_size code f = not (option_map_or is_local_class (class_of code f) false) || eqb (size_of code (is_beside code f)) (group_size code)

all_sizes : (code : Code) → agree_below (own_size code) (λ _. true) (fragment_count code) ≡ true
unfolding own_size
all_sizes Wide = refl
all_sizes Narrow = refl

group_count : (code : Code) (f : ℕ) → f < fragment_count code → option_map_or is_local_class (class_of code f) false ≡ true → size_of code (is_beside code f) ≡ group_size code
unfolding own_size
group_count code f within grouped = elim (or_cases (not (option_map_or is_local_class (class_of code f) false)) (eqb (size_of code (is_beside code f)) (group_size code)) (agree_below_at (own_size code) (λ _. true) (fragment_count code) f (all_sizes code) within)) [
  | inl outside_of ↦ absurd (let e : not true ≡ true = rw grouped at outside_of in cc)
  | inr is ↦ eqb-true _ _ is
]

fewer_others : (code : Code) → group_size code < data_count code
fewer_others Wide = omega arith
fewer_others Narrow = omega arith

equal_both : (a b : ℕ) → a ≤ b → b ≤ a → a ≡ b
equal_both a b le ge = omega (arith, le, ge)

module _ (code : Code) (m : FragmentSet) (f : Fragment) (c : ℕ → ℕ) (within : f.value < fragment_count code) (local : is_local code m f ≡ true) (are : AreOf code f.value (local_weights code f.value) c) where
  alone : IsAlone code m f.value
  alone = alone_from code m f local

  rebuilds : Rebuilds code (others_of m f.value) f.value (local_weights code f.value)
  rebuilds = rebuilds_local code m (others_of m f.value) f.value within (others_of-self m f.value) (λ g h. (and_parts (not (eqb g f.value)) (m g) h).1) alone

  -- the coefficients of the group are 1, and all others 0
  ones : (g : ℕ) → g < 16 → c g ≡ cond (is_beside code f.value g) 1 0
  ones g low = are.by g low ∙ (elim (cases_Bool (eqb g f.value)) [
    | inl here ↦ rw (here, eq-eqb f.value g (sym (eqb-true g f.value here))) (none (are_one_class (class_of code f.value) (class_of code g)))
    | inr other ↦ rw other (local_value code f.value g within low alone.grouped ∙ rw (apart other) (one (are_one_class (class_of code f.value) (class_of code g))))
  ]) where
    apart : eqb g f.value ≡ false → nat_eq f.value g ≡ false
    apart other = elim (cases_Bool (nat_eq f.value g)) [
      | inr differ ↦ differ
      | inl same ↦ absurd (let e : true ≡ false = sym (eq-eqb g f.value (sym (eqb-true f.value g same))) ∙ other in cc)
    ]

    none : (b : Bool) → ◌≡◌ {A = ℕ} 0 (cond (b && not true) 1 0)
    none true = refl
    none false = refl

    one : (b : Bool) → ◌≡◌ {A = ℕ} (cond b 1 0) (cond (b && not false) 1 0)
    one true = refl
    one false = refl

  one_if : (b : Bool) (n : ℕ) → n ≡ cond b 1 0 → not (eqb n 0) ≡ b
  one_if true n is = rw is refl
  one_if false n is = rw is refl

  read_group : (g : ℕ) → g < fragment_count code → read_by c g ≡ is_beside code f.value g
  read_group g few = one_if (is_beside code f.value g) (c g) (ones g (let sixteen = at_most_sixteen code in omega (arith, few, sixteen)))

  count : size_of code (read_by c) ≡ group_size code
  count = equal_both (size_of code (read_by c)) (size_of code (is_beside code f.value)) (size_of-within code (is_beside code f.value) (read_by c) (λ g few h. sym (read_group g few) ∙ h)) (size_of-within code (read_by c) (is_beside code f.value) (λ g few h. read_group g few ∙ h)) ∙ group_count code f.value within alone.grouped

  fewest : (known : FragmentSet) → ((g : ℕ) → g < fragment_count code → known g ≡ true → readable m f.value g ≡ true) → Determines code known f.value → size_of code (read_by c) ≤ size_of code known
  fewest known inside determines = elim (cases_Bool (is_local code (outside known) f)) [
    | inl all_known ↦
        let group = alone_from code (outside known) f all_known in
        size_of-within code known (read_by c) (λ g few h. not-false (known g) (group.none g few (sym (read_group g few) ∙ h)))
    | inr lacking ↦
        let k = near_from code (outside known) (except (outside known) f.value) f within (λ g few h apart. and_from (outside known g) (not (eqb g f.value)) h (rw apart refl)) lacking in
        let many = many_known code known f.value k.p within (unknown_self code m known f.value within inside) k.near determines in
        let fewer = fewer_others code in
        let is = count in
        omega (arith, many, fewer, is)
  ]

  -- a set that determines the fragment has its group in it, or is larger
  first : (known : FragmentSet) → ((g : ℕ) → g < fragment_count code → known g ≡ true → readable m f.value g ≡ true) → Determines code known f.value → size_of code known ≡ size_of code (read_by c) → ComesFirst code (read_by c) known
  first known inside determines same g few knows unread_g = elim (cases_Bool (is_local code (outside known) f)) [
    | inl all_known ↦
        let group = alone_from code (outside known) f all_known in
        let reads_g = whole_part code (read_by c) known (λ g few h. not-false (known g) (group.none g few (sym (read_group g few) ∙ h))) (omega (arith, same)) g few knows in
        absurd (let e : true ≡ false = sym reads_g ∙ unread_g in cc)
    | inr lacking ↦
        let k = near_from code (outside known) (except (outside known) f.value) f within (λ g few h apart. and_from (outside known g) (not (eqb g f.value)) h (rw apart refl)) lacking in
        let many = many_known code known f.value k.p within (unknown_self code m known f.value within inside) k.near determines in
        let fewer = fewer_others code in
        let is = count in
        absurd (omega (arith, many, fewer, is, same))
  ]

  local_is : IsRecipe code m f.value c
  local_is = record {
    within = reads_within code m (others_of m f.value) f.value (local_weights code f.value) c within (others_of-self m f.value) (λ g. refl) rebuilds are;
    standing = reads_readable code m (others_of m f.value) f.value (local_weights code f.value) c within (others_of-self m f.value) (λ g. refl) rebuilds are;
    exact = exact code m (others_of m f.value) f.value (local_weights code f.value) c within (others_of-self m f.value) (λ g. refl) rebuilds are;
    fewest = fewest;
  }

  pub local_recipe : Made code m f c
  local_recipe = record {
    recipe = record {
      recipe = local_is;
      bytes = below code m (others_of m f.value) f.value (local_weights code f.value) c within (others_of-self m f.value) (λ g. refl) rebuilds are;
      first = first;
    };
    determines = readable_determines code m (others_of m f.value) f.value (local_weights code f.value) c within (others_of-self m f.value) (λ g. refl) rebuilds are;
    reads = count ∙ rw local refl;
    local = λ _ g. ones g.value g.in_range;
  }

-- ---- the recipe of another

later : (a b : Bool) → a ≡ false → (a || b) ≡ true → b ≡ true
later true b out h = absurd (let e : true ≡ false = out in cc)
later false b out h = h

few_read : (read unread all most : ℕ) → unread + read ≡ all → all ≡ most + 4 → 4 ≤ unread → read ≤ most
few_read read unread all most both count four = omega (arith, both, count, four)

module _ (code : Code) (m o : FragmentSet) (f : Fragment) (c : ℕ → ℕ) (within : f.value < fragment_count code) (others : (g : ℕ) → o g ≡ others_of m f.value g) (absent : is_local code m f ≡ false) where
  out : o f.value ≡ false
  out = others f.value ∙ others_of-self m f.value

  near : SomeNear code o f.value
  near = near_from code m o f within (λ g few missing apart. others g ∙ rw (apart, missing) refl) absent

  rejoined : (lost : FragmentSet) → ((g : ℕ) → lost g ≡ (eqb g f.value || m g)) → (g : ℕ) → joined o (only f.value) g ≡ true → lost g ≡ true
  rejoined lost are g h = are g ∙ (elim (or_cases (o g) (eqb g f.value) h) [
    | inl other ↦ or_right (eqb g f.value) (m g) (and_parts (not (eqb g f.value)) (m g) (sym (others g) ∙ other)).1
    | inr here ↦ or_left (eqb g f.value) (m g) here
  ])

  joined_again : (lost : FragmentSet) → ((g : ℕ) → lost g ≡ (eqb g f.value || m g)) → (g : ℕ) → lost g ≡ true → joined o (only f.value) g ≡ true
  joined_again lost are g h = elim (cases_Bool (eqb g f.value)) [
    | inl here ↦ or_right (o g) (eqb g f.value) here
    | inr apart ↦ or_left (o g) (eqb g f.value) (others g ∙ and_from (not (eqb g f.value)) (m g) (rw apart refl) (let e = sym (are g) ∙ h in later (eqb g f.value) (m g) apart e))
  ]

  -- a set that is not recoverable with the fragment does not leave it determined
  pub no_recipe : (lost : FragmentSet) → ((g : ℕ) → lost g ≡ (eqb g f.value || m g)) → Determines code (readable m f.value) f.value → IsRecoverable code lost
  no_recipe lost are determines =
      let unknown : readable m f.value f.value ≡ false = unknown_self code m (readable m f.value) f.value within (λ g few h. h) in
      let part : (g : ℕ) → o g ≡ true → readable m f.value g ≡ false = λ g h. (let missing = (and_parts (not (eqb g f.value)) (m g) (sym (others g) ∙ h)).1 in rw missing refl) in
      recoverable_part code (joined o (only f.value)) lost (λ g few h. joined_again lost are g h)
      (recoverable_near code o f.value near.p within out near.near (readable m f.value) unknown part determines)

  module _ (lost : FragmentSet) (are_lost : (g : ℕ) → lost g ≡ (eqb g f.value || m g)) (good : IsRecoverable code lost) (are : AreOf code f.value (weights_for code o f.value) c) where
    weights : Rebuilds code o f.value (weights_for code o f.value) × LeavesOut code o f.value (weights_for code o f.value)
    weights = rebuilds_near code o f.value near.p within out near.near (recoverable_part code lost (joined o (only f.value)) (λ g few h. rejoined lost are_lost g h) good)

    at_four : (g : ℕ) → g < fragment_count code → four f.value weights.1.x weights.1.y weights.1.z g ≡ true → outside (read_by c) g ≡ true
    at_four g few h = zero_unread (c g) (are.by g (let sixteen = at_most_sixteen code in omega (arith, few, sixteen)) ∙ (elim (cases_Bool (eqb g f.value)) [
      | inl here ↦ rw here refl
      | inr other ↦ rw other (weights.1.none g few (later (eqb g f.value) (is_out weights.1.x weights.1.y weights.1.z g) other h))
    ])) where
      zero_unread : (n : ℕ) → n ≡ 0 → not (not (eqb n 0)) ≡ true
      zero_unread n none = rw none refl

    few : size_of code (read_by c) ≤ data_count code
    few =
        let least = size_of-within code (outside (read_by c)) (four f.value weights.1.x weights.1.y weights.1.z) at_four in
        let is = weights.1.count in
        few_read (size_of code (read_by c)) (size_of code (outside (read_by c))) (fragment_count code) (data_count code) (size_of-outside code (read_by c)) (four_parities code) (omega (arith, least, is))

    many : (known : FragmentSet) → ((g : ℕ) → g < fragment_count code → known g ≡ true → readable m f.value g ≡ true) → Determines code known f.value → data_count code ≤ size_of code known
    many known inside determines =
        let k = near_from code m (except (outside known) f.value) f within (unknown_missing code m known f.value inside) absent in
        many_known code known f.value k.p within (unknown_self code m known f.value within inside) k.near determines

    reads : (g : ℕ) → read_by c g ≡ true → readable m f.value g ≡ true
    reads = reads_readable code m o f.value (weights_for code o f.value) c within out others weights.0 are

    near_is : IsRecipe code m f.value c
    near_is = record {
      within = reads_within code m o f.value (weights_for code o f.value) c within out others weights.0 are;
      standing = reads;
      exact = exact code m o f.value (weights_for code o f.value) c within out others weights.0 are;
      fewest = λ known inside determines. (let least = many known inside determines in let most = few in omega (arith, least, most));
    }

    near_count : size_of code (read_by c) ≡ data_count code
    near_count = equal_both (size_of code (read_by c)) (data_count code) few (many (read_by c) (λ g _ h. reads g h) (read_determines code m o f.value (weights_for code o f.value) c within out others weights.0 are))

    -- the fragments that are left out
    abbrev left : FragmentSet
    left = four f.value weights.1.x weights.1.y weights.1.z

    left_count : size_of code (outside (read_by c)) ≤ size_of code left
    left_count =
        let all = size_of-outside code (read_by c) in
        let parities = four_parities code in
        let is = near_count in
        let four_left = weights.1.count in
        omega (arith, all, parities, is, four_left)

    -- all others are read
    left_out : (g : ℕ) → g < fragment_count code → read_by c g ≡ false → left g ≡ true
    left_out g few unread_g = whole_part code left (outside (read_by c)) at_four left_count g few (rw unread_g refl)

    reads_other : (g : ℕ) → g < fragment_count code → left g ≡ false → read_by c g ≡ true
    reads_other g few other = elim (cases_Bool (read_by c g)) [
      | inl is ↦ is
      | inr unread_g ↦ absurd (let e : true ≡ false = sym (left_out g few unread_g) ∙ other in cc)
    ]

    module _ (known : FragmentSet) (inside : (g : ℕ) → g < fragment_count code → known g ≡ true → readable m f.value g ≡ true) (determines : Determines code known f.value) (same : size_of code known ≡ size_of code (read_by c)) where
      unknown : known f.value ≡ false
      unknown = unknown_self code m known f.value within inside

      unknown_count : size_of code (outside known) ≡ 4
      unknown_count =
          let all = size_of-outside code known in
          let parities = four_parities code in
          let is = near_count in
          omega (arith, all, parities, is, same)

      -- one of each local group is unknown
      unknown_good : IsRecoverable code (outside known)
      unknown_good =
          let k = near_from code m (except (outside known) f.value) f within (unknown_missing code m known f.value inside) absent in
          recoverable_part code (joined (except (outside known) f.value) (only f.value)) (outside known) (λ g few h. elim (cases_Bool (eqb g f.value)) [
            | inl here ↦ or_right (except (outside known) f.value g) (eqb g f.value) here
            | inr apart ↦ or_left (except (outside known) f.value g) (eqb g f.value) (and_from (outside known g) (not (eqb g f.value)) h (rw apart refl))
          ])
          (recoverable_near code (except (outside known) f.value) f.value k.p within (except-self (outside known) f.value) k.near known unknown (λ g h. not-true (known g) (and_parts (outside known g) (not (eqb g f.value)) h).0) determines)

      of_each : (0 < losses_in code A (outside known)) × (0 < losses_in code B (outside known))
      of_each = (which_four code (outside known) unknown_count).0 unknown_good

      -- a lower fragment that is read and not known
      abbrev Lower : ℕ → Type 0
      Lower g = (h : ℕ) × (h < g) × IsTrue (read_by c h) × IsFalse (known h)

      -- the fragment is the last of a class of which no other is left out, and another is not known
      lower_by_class : (g : ℕ) → known g ≡ true → (x : Class) → 0 < losses_in code x (outside known) → ends_alone left g (members code x) ≡ true → Lower g
      lower_by_class g knows x some alone_g =
          let k = some_listed (outside known) (members code x) (counted_listed (outside known) (members code x) some) in
          let few_h = ltb-true k.h (fragment_count code) (at_listed (λ h. ltb h (fragment_count code)) k.h (members code x) (members-below code x) k.listed) in
          let unknown_h = not-true (known k.h) k.hit in
          elim (or_cases (eqb k.h g) (ltb k.h g && not (left k.h)) (at_listed (λ h. eqb h g || (ltb h g && not (left h))) k.h (members code x) alone_g k.listed)) [
            | inl here ↦ absurd (let e : true ≡ false = sym knows ∙ (ap known (sym (eqb-true k.h g here)) ∙ unknown_h) in cc)
            | inr lower ↦
                let parts = and_parts (ltb k.h g) (not (left k.h)) lower in
                (k.h, ltb-true k.h g parts.0, reads_other k.h few_h (not-true (left k.h) parts.1), unknown_h)
          ]

      abbrev is_other : ℕ → Bool
      is_other h = not (known h) && not (left h)

      -- the fragment is the last of all that are not left out
      lower_of_all : (g : ℕ) → g < fragment_count code → known g ≡ true → left g ≡ true → list_all (λ h. left h || ltb h g) (numbers_of code) ≡ true → Lower g
      lower_of_all g few knows left_g last = elim (cases_Bool (list_any is_other (numbers_of code))) [
        | inl some ↦
            let k = some_listed is_other (numbers_of code) some in
            let parts = and_parts (not (known k.h)) (not (left k.h)) k.hit in
            let few_h = ltb-true k.h (fragment_count code) (at_listed (λ h. ltb h (fragment_count code)) k.h (numbers_of code) (fragments_below code) k.listed) in
            let other = not-true (left k.h) parts.1 in
            elim (or_cases (left k.h) (ltb k.h g) (at_listed (λ h. left h || ltb h g) k.h (numbers_of code) last k.listed)) [
              | inl taken ↦ absurd (let e : true ≡ false = sym taken ∙ other in cc)
              | inr lower ↦ (k.h, ltb-true k.h g lower, reads_other k.h few_h other, not-true (known k.h) parts.0)
            ]
        | inr none ↦
            let part : (h : ℕ) → h < fragment_count code → outside known h ≡ true → left h ≡ true = λ h low out_h. taken (known h) (left h) out_h (none_listed is_other (numbers_of code) none h (fragments_listed code h low)) in
            let four_left = weights.1.count in
            let four_unknown = unknown_count in
            let out_g = whole_part code (outside known) left part (omega (arith, four_left, four_unknown)) g few left_g in
            absurd (let e : not true ≡ true = ap not (sym knows) ∙ out_g in cc)
      ] where
        taken : (a b : Bool) → not a ≡ true → (not a && not b) ≡ false → b ≡ true
        taken true b h none = absurd (let e : false ≡ true = h in cc)
        taken false true h none = refl
        taken false false h none = absurd (let e : true ≡ false = none in cc)

      near_first : ComesFirst code (read_by c) known
      near_first g few knows unread_g =
          let left_g = left_out g few unread_g in
          let stands = and_parts (not (m g)) (not (eqb g f.value)) (inside g few knows) in
          let other = not-true (eqb g f.value) stands.1 in
          let kept : o g ≡ false = others g ∙ rw (other, not-true (m g) stands.0) refl in
          let spare = weights.1.spare g (later (eqb g f.value) (is_out weights.1.x weights.1.y weights.1.z g) other left_g) kept in
          elim (or_cases (ends_alone left g (members code A) || ends_alone left g (members code B)) (list_all (λ h. left h || ltb h g) (numbers_of code)) spare) [
            | inr last ↦ lower_of_all g few knows left_g last
            | inl of_group ↦ elim (or_cases (ends_alone left g (members code A)) (ends_alone left g (members code B)) of_group) [
              | inl in_a ↦ lower_by_class g knows A of_each.0 in_a
              | inr in_b ↦ lower_by_class g knows B of_each.1 in_b
            ]
          ]

    pub near_recipe : Made code m f c
    near_recipe = record {
      recipe = record {
        recipe = near_is;
        bytes = below code m o f.value (weights_for code o f.value) c within out others weights.0 are;
        first = near_first;
      };
      determines = readable_determines code m o f.value (weights_for code o f.value) c within out others weights.0 are;
      reads = near_count ∙ rw absent refl;
      local = λ is. absurd (let e : true ≡ false = sym is ∙ absent in cc);
    }

-- ---- coefficients in a list of sixteen

pub record Listed (code : Code) (m : FragmentSet) (f : Fragment) (xs : List ℕ) : Type 0 where
  pub recipe : IsFirstRecipe code m f.value (λ g. get_or xs g 0)
  pub determines : Determines code (readable m f.value) f.value
  pub reads : count_by (λ c. not (eqb c 0)) xs ≡ (if is_local code m f then group_size code else data_count code)
  pub local : is_local code m f ≡ true → (g : Fragment) → get_or xs g.value 0 ≡ (if share_class code f g && not (same_fragment f g) then 1 else 0)

none_past : (code : Code) (m : FragmentSet) (f : ℕ) (c : ℕ → ℕ) → IsRecipe code m f c → (g : ℕ) → fragment_count code ≤ g → c g ≡ 0
none_past code m f c recipe g past = elim (cases_Bool (eqb (c g) 0)) [
  | inl none ↦ eqb-true (c g) 0 none
  | inr some ↦ absurd (let few = recipe.within g (rw some refl) in omega (arith, few, past))
]

listed : (code : Code) (m : FragmentSet) (f : Fragment) (xs : List ℕ) → length xs ≡ 16 → Made code m f (λ g. get_or xs g 0) → Listed code m f xs
listed code m f xs long made = record {
  recipe = made.recipe;
  determines = made.determines;
  reads = listed_count code xs long (none_past code m f.value (λ g. get_or xs g 0) made.recipe.recipe) ∙ made.reads;
  local = made.local;
}

are_of : (code : Code) (f : ℕ) (w u : Weights) (xs : List ℕ) → length xs ≡ 16 → w ≡ u → ((g : ℕ) → g < 16 → get_or xs g 0 ≡ coefficient_by code f w g) → AreOf code f u (λ g. get_or xs g 0)
are_of code f w u xs long same given = record {
  by = λ g low. given g low ∙ ap (λ w. coefficient_by code f w g) same;
  past = λ g high. get_or_past xs g 0 (omega (arith, long, high));
}

pub local_list : (code : Code) (m : FragmentSet) (f : Fragment) (xs : List ℕ) (w : Weights) → f.value < fragment_count code → is_local code m f ≡ true → length xs ≡ 16 → w ≡ local_weights code f.value
    → ((g : ℕ) → g < 16 → get_or xs g 0 ≡ coefficient_by code f.value w g) → Listed code m f xs
local_list code m f xs w within local long same given =
    listed code m f xs long (local_recipe code m f (λ g. get_or xs g 0) within local (are_of code f.value w (local_weights code f.value) xs long same given))

pub near_list : (code : Code) (m o lost : FragmentSet) (f : Fragment) (xs : List ℕ) (w : Weights) → f.value < fragment_count code → ((g : ℕ) → o g ≡ others_of m f.value g) → is_local code m f ≡ false
    → ((g : ℕ) → lost g ≡ (eqb g f.value || m g)) → IsRecoverable code lost → length xs ≡ 16 → w ≡ weights_for code o f.value
    → ((g : ℕ) → g < 16 → get_or xs g 0 ≡ coefficient_by code f.value w g) → Listed code m f xs
near_list code m o lost f xs w within others absent are_lost good long same given =
    listed code m f xs long (near_recipe code m o f (λ g. get_or xs g 0) within others absent lost are_lost good (are_of code f.value w (weights_for code o f.value) xs long same given))
