-- The number of fragments that are read is that of each recipe.
use Rattle.std.proofs.Common.{◌≡◌, ◌↔◌, ℕ, ◌<◌, Bool, true, false, if◌then◌else◌, not, ◌&&◌, List, length, Option, Some, None, IsTrue, refl, sym, ap, ◌∙◌, inl, inr}
use Rattle.std.specs.Bool.{IsFalse}
use Rattle.std.specs.Option.{option_map_or}
use Rattle.std.proofs.lemmas.List.Sums.{length-filter}
use Rattle.std.proofs.lemmas.Bool.{cases_Bool, and_parts, ltb-true, not-true}
use Rattle.lrc_code.specs.declared.codes.Code.{Code}
use Rattle.lrc_code.specs.declared.codes.Code.TheVariants.{Wide, Narrow}
use Rattle.lrc_code.specs.declared.numbers.StripeNo.{StripeNo}
use Rattle.lrc_code.specs.declared.numbers.Fragment.{Fragment}
use Rattle.lrc_code.specs.Codes.{fragment_count, has_fragment, fragments, is_in_group, others, data_count, group_size}
use Rattle.lrc_code.specs.Losses.{FragmentSet, size_of, is_local}
use Rattle.lrc_code.proofs.LossesLemmas.{by_test}
use Rattle.lrc_code.proofs.SourcesLemmas.{count_others, is_other}
use Rattle.lrc_field.specs.Recipes.{IsRecipe, read_by}
use Rattle.lrc_field.specs.Stripes.{outside, Determines}
use Rattle.lrc_field.proofs.FirstRecipeLemmas.{recipe_reads, read_determine}
use Rattle.lrc_field.proofs.WhichLemmas.{which_determined}
use Rattle.lrc_topology.specs.declared.NodeInfo.{NodeInfo}
use Rattle.lrc_topology.specs.declared.seat.Seat.{Seat}
use Rattle.lrc_terms.specs.Levels.{homes_of}
use Rattle.lrc_rules.specs.States.{State, code_of, online_at, missing}
use Rattle.lrc_rules.specs.Repairs.{needs, kind, local_kind, is_at_home, is_safe}
use Rattle.lrc_show.specs.Listed.{reads}

reads-local : (code : Code) (safe : Bool) (sources : List Fragment) → reads code safe (local_kind code sources) ≡ Some (length sources)
reads-local Wide safe sources = refl
reads-local Narrow safe sources = refl

-- a member of a local group has as many others as the code says
others-counted : (code : Code) (f : Fragment) → is_in_group code f ≡ true → length (others code f) ≡ group_size code
others-counted code f grouped = length-filter (is_other code f) (fragments code) ∙ count_others code f grouped

away-by : (online : Seat → Bool) (b : Bool) (o : Option Seat) → (b && option_map_or (λ seat. not (online seat)) o true) ≡ true → option_map_or online o false ≡ false
away-by online b (Some seat) gone = not-true (online seat) (and_parts b (not (online seat)) gone).1
away-by online b None gone = refl

home-by : (online : Seat → Bool) (o : Option Seat) → option_map_or (λ seat. not (online seat)) o true ≡ false → option_map_or online o false ≡ true
home-by online (Some seat) there = not-false-is (online seat) there where
  not-false-is : (b : Bool) → not b ≡ false → b ≡ true
  not-false-is true e = refl
  not-false-is false e = absurd (let k : true ≡ false = e in cc)
home-by online None there = absurd (let k : true ≡ false = there in cc)

second : (a b : Bool) → a ≡ true → (a && b) ≡ false → b ≡ false
second true b is none = none
second false b is none = absurd (let e : false ≡ true = is in cc)

module _ (nodes : List NodeInfo) (st : State) (s : StripeNo) (f : Fragment) where
  abbrev code : Code
  code = code_of st s

  abbrev gone : FragmentSet
  gone = missing nodes st s

  abbrev pub told : Option ℕ
  told = reads code (is_safe nodes st s) (kind nodes st s f)

  abbrev online : Seat → Bool
  online seat = online_at nodes st seat.node

  own : gone f.value ≡ true → f.value < fragment_count code
  own lost = ltb-true f.value (fragment_count code) (and_parts (has_fragment code f.value) (option_map_or (λ seat. not (online seat)) (homes_of st.homes s f.value) true) lost).0

  away : gone f.value ≡ true → is_at_home nodes st s f ≡ false
  away lost = away-by online (has_fragment code f.value) (homes_of st.homes s f.value) lost

  told_local : gone f.value ≡ true → is_local code gone f ≡ true → told ≡ Some (group_size code)
  unfolding kind
  told_local lost local =
      let grouped = (and_parts (is_in_group code f) _ local).0 in
      rw (away lost, local) (reads-local code (is_safe nodes st s) (others code f) ∙ ap Some (others-counted code f grouped))

  told_global : gone f.value ≡ true → is_local code gone f ≡ false → told ≡ (if is_safe nodes st s then Some (data_count code) else None)
  unfolding kind
  told_global lost absent = rw (away lost, absent) refl

  -- what is told is the number of fragments that are read, if what is not missing determines the fragment
  told_by : gone f.value ≡ true → told ≡ (if is_local code gone f then Some (group_size code) else (if is_safe nodes st s then Some (data_count code) else None))
  told_by lost = elim (cases_Bool (is_local code gone f)) [
    | inl local ↦ told_local lost local ∙ rw local refl
    | inr absent ↦ told_global lost absent ∙ rw absent refl
  ]

  safe_from : gone f.value ≡ true → is_local code gone f ≡ false → Determines code (outside gone) f.value → is_safe nodes st s ≡ true
  safe_from lost absent determines = elim ((which_determined code gone f (own lost) lost).0 determines) [
    | inl local ↦ absurd (let e : true ≡ false = sym local ∙ absent in cc)
    | inr good ↦ (by_test code gone).1 good
  ]

  module _ (lost : gone f.value ≡ true) (c : ℕ → ℕ) (recipe : IsRecipe code gone f.value c) where
    determines : Determines code (outside gone) f.value
    determines v w sv sw common = read_determine code gone f.value c recipe v w sv sw (λ g few read. common g few (and_parts (not (gone g)) (not _) (recipe.standing g read)).0)

    -- a recipe reads as many as are told
    pub rebuilt : told ≡ Some (size_of code (read_by c))
    rebuilt =
        let count = recipe_reads code gone f c (own lost) recipe in
        elim (cases_Bool (is_local code gone f)) [
          | inl local ↦ told_local lost local ∙ ap Some (sym (count ∙ rw local refl))
          | inr absent ↦ told_global lost absent ∙ rw (safe_from lost absent determines) (ap Some (sym (count ∙ rw absent refl)))
        ]

  none_to : gone f.value ≡ true → told ≡ None → ¬ Determines code (outside gone) f.value
  none_to lost none determines = elim (cases_Bool (is_local code gone f)) [
    | inl local ↦ absurd (let e : ◌≡◌ {A = Option ℕ} (Some (group_size code)) None = sym (told_local lost local) ∙ none in cc)
    | inr absent ↦ absurd (let e : ◌≡◌ {A = Option ℕ} (Some (data_count code)) None = sym (told_global lost absent ∙ rw (safe_from lost absent determines) refl) ∙ none in cc)
  ]

  none_from : gone f.value ≡ true → (¬ Determines code (outside gone) f.value) → told ≡ None
  none_from lost never = elim (cases_Bool (is_local code gone f)) [
    | inl local ↦ absurd (never ((which_determined code gone f (own lost) lost).1 (inl local)))
    | inr absent ↦ told_global lost absent ∙ (elim (cases_Bool (is_safe nodes st s)) [
      | inl safe ↦ absurd (never ((which_determined code gone f (own lost) lost).1 (inr ((by_test code gone).0 safe))))
      | inr not_safe ↦ rw not_safe refl
    ])
  ]

  -- nothing is told of a fragment that is not determined
  pub none : IsTrue (gone f.value) → (told ≡ None) ↔ (¬ Determines code (outside gone) f.value)
  none lost = (none_to lost, none_from lost)

  -- a fragment that needs a lease and is not missing is read itself
  pub moved : IsTrue (needs nodes st s f) → IsFalse (gone f.value) → told ≡ Some 1
  unfolding kind
  moved needed there =
      let has = (and_parts (has_fragment code f.value) _ needed).0 in
      rw (home-by online (homes_of st.homes s f.value) (second (has_fragment code f.value) (option_map_or (λ seat. not (online seat)) (homes_of st.homes s f.value) true) has there)) refl
