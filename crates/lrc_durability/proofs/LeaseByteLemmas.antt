-- What refusals and grants of leases say of bytes.
use Rattle.std.proofs.Common.{◌≡◌, ◌≢◌, ℕ, ◌<◌, ◌↔◌, Bool, true, false, not, ◌&&◌, eqb, IsTrue, List, Option, Some, None, refl, sym, ap, ◌∙◌, subst, inl, inr, arith}
use Rattle.std.specs.Bool.{IsFalse}
use Rattle.std.specs.Option.{option_map_or}
use Rattle.std.proofs.lemmas.Bool.{cases_Bool, and_parts, and_from, not-true, eqb-true, eq-eqb, lt-ltb, ltb-true}
use Rattle.lrc_code.specs.declared.codes.Code.{Code}
use Rattle.lrc_code.specs.declared.codes.Code.TheVariants.{Wide, Narrow}
use Rattle.lrc_code.specs.declared.numbers.StripeNo.{StripeNo}
use Rattle.lrc_code.specs.declared.numbers.SessionNo.{SessionNo}
use Rattle.lrc_code.specs.declared.numbers.Fragment.{Fragment}
use Rattle.lrc_code.specs.Codes.{fragment_count, has_fragment, others, data_count}
use Rattle.lrc_code.specs.Losses.{FragmentSet, is_local, size_of}
use Rattle.lrc_code.proofs.LossesLemmas.{by_test}
use Rattle.lrc_field.specs.Stripes.{outside, Determines}
use Rattle.lrc_field.specs.Recipes.{readable}
use Rattle.lrc_field.proofs.NearLemmas.{is_beside, alone_from}
use Rattle.lrc_field.proofs.DecodableLemmas.{decodable}
use Rattle.lrc_field.proofs.WhichLemmas.{which_determined, few_determine}
use Rattle.lrc_field.proofs.SomeRecipeLemmas.{HasRecipe, some_recipe}
use Rattle.lrc_topology.specs.declared.NodeInfo.{NodeInfo}
use Rattle.lrc_topology.specs.declared.seat.Seat.{Seat}
use Rattle.lrc_terms.specs.declared.lease.Lease.{Lease as LeaseRecord}
use Rattle.lrc_terms.specs.Levels.{homes_of}
use Rattle.lrc_rules.specs.declared.entry.Entry.{Entry}
use Rattle.lrc_rules.specs.declared.command.Command.{Command}
use Rattle.lrc_rules.specs.declared.command.Command.TheVariants.{Lease}
use Rattle.lrc_rules.specs.declared.reply.Reply.TheVariants.{Granted, Refused}
use Rattle.lrc_rules.specs.declared.refusal.Refusal.TheVariants as refusal
use Rattle.lrc_rules.specs.declared.kind.Kind.{Kind}
use Rattle.lrc_rules.specs.declared.kind.Kind.TheVariants.{Global, Move}
use Rattle.lrc_rules.specs.States.{State, has_stripe, code_of, lease_of, online_at, missing}
use Rattle.lrc_rules.specs.Repairs.{needs, is_at_home, is_safe, local_kind, kind, is_beyond_repair}
use Rattle.lrc_rules.specs.Leases.{lease_outcome}
use Rattle.lrc_rules.specs.Outcomes.{Outcome}
use Rattle.lrc_rules.specs.Granting.{IsOwed}
use Rattle.lrc_rules.specs.Steps.{step}
use Rattle.lrc_rules.proofs.GrantingLemmas.{lease-told}
use Rattle.lrc_rules.proofs.EarnedLemmas.{asked}
use Rattle.lrc_rules.proofs.MostUrgentLemmas.{granted-urgent, urgent-leased}
use Rattle.lrc_rules.proofs.UrgencyLemmas.{needs-own}
use Rattle.lrc_durability.specs.Sources.{sources_of}
use Rattle.lrc_durability.proofs.SourceLemmas.{more_determine, is_named, named_others, few_others, others_determine, local_part}

not-local : (code : Code) (os : List Fragment) → local_kind code os ≢ Global
not-local Wide os e = cc
not-local Narrow os e = cc

local_sources_are : (code : Code) (os : List Fragment) (m : FragmentSet) (f : Fragment) (g : ℕ) → sources_of (local_kind code os) m f g ≡ is_named os g
local_sources_are Wide os m f g = refl
local_sources_are Narrow os m f g = refl

module _ (nodes : List NodeInfo) (st : State) (s : StripeNo) (f : Fragment) where
  abbrev code : Code
  code = code_of st s

  abbrev gone : FragmentSet
  gone = missing nodes st s

  abbrev IsOwn : Type 0
  IsOwn = f.value < fragment_count code

  -- the fragments that are there determine it
  abbrev pub IsDetermined : Type 0
  IsDetermined = Determines code (outside gone) f.value

  gone-own : (g : ℕ) → gone g ≡ true → g < fragment_count code
  gone-own g hit = ltb-true g (fragment_count code) (and_parts (has_fragment code g) _ hit).0

  -- ---- at home

  at_home-by : (b : Bool) (o : Option Seat) → option_map_or (λ seat. online_at nodes st seat.node) o false ≡ true → (b && option_map_or (λ seat. not (online_at nodes st seat.node)) o true) ≡ false
  at_home-by true (Some seat) e = rw e refl
  at_home-by false (Some seat) e = refl
  at_home-by b None e = absurd (let k : false ≡ true = e in cc)

  away-by : (o : Option Seat) → option_map_or (λ seat. online_at nodes st seat.node) o false ≡ false → option_map_or (λ seat. not (online_at nodes st seat.node)) o true ≡ true
  away-by (Some seat) e = rw e refl
  away-by None e = refl

  home-there : is_at_home nodes st s f ≡ true → gone f.value ≡ false
  home-there e = at_home-by (has_fragment code f.value) (homes_of st.homes s f.value) e

  away-gone : IsOwn → is_at_home nodes st s f ≡ false → gone f.value ≡ true
  away-gone within e = and_from _ _ (lt-ltb f.value (fragment_count code) within) (away-by (homes_of st.homes s f.value) e)

  gone-away : gone f.value ≡ true → is_at_home nodes st s f ≡ false
  gone-away hit = elim (cases_Bool (is_at_home nodes st s f)) [
    | inr away ↦ away
    | inl home ↦ absurd (let e : true ≡ false = sym hit ∙ home-there home in cc)
  ]

  -- ---- kinds

  move-is : is_at_home nodes st s f ≡ true → kind nodes st s f ≡ Move
  unfolding kind
  move-is home = rw home refl

  local-is : is_at_home nodes st s f ≡ false → is_local code gone f ≡ true → kind nodes st s f ≡ local_kind code (others code f)
  unfolding kind
  local-is away local = rw (away, local) refl

  global-is : is_at_home nodes st s f ≡ false → is_local code gone f ≡ false → kind nodes st s f ≡ Global
  unfolding kind
  global-is away absent = rw (away, absent) refl

  -- a fragment that is rebuilt from the whole stripe is not at home, nor is its group whole
  global-from : kind nodes st s f ≡ Global → (is_at_home nodes st s f ≡ false) × (is_local code gone f ≡ false)
  global-from e = elim (cases_Bool (is_at_home nodes st s f)) [
    | inl home ↦ absurd (let k : Move ≡ Global = sym (move-is home) ∙ e in cc)
    | inr away ↦ elim (cases_Bool (is_local code gone f)) [
      | inl local ↦ absurd (not-local code (others code f) (sym (local-is away local) ∙ e))
      | inr absent ↦ (away, absent)
    ]
  ]

  -- ---- what determines the fragment

  by_home : IsOwn → is_at_home nodes st s f ≡ true → IsDetermined
  by_home within home v w sv sw common = common f.value within (rw (home-there home) refl)

  by_group : IsOwn → is_local code gone f ≡ true → Determines code (is_beside code f.value) f.value × ((g : ℕ) → g < fragment_count code → is_beside code f.value g ≡ true → gone g ≡ false)
  by_group within local = let alone = alone_from code gone f local in (others_determine code f.value within alone.grouped, alone.none)

  by_group_there : IsOwn → is_local code gone f ≡ true → IsDetermined
  by_group_there within local =
      let by = by_group within local in
      more_determine code (is_beside code f.value) (outside gone) f.value (λ g few hit. rw (by.1 g few hit) refl) by.0

  by_all : IsOwn → is_safe nodes st s ≡ true → IsDetermined
  by_all within safe = decodable code gone ((by_test code gone).0 safe) f.value within

  -- ---- refusals

  not-determined : IsOwn → kind nodes st s f ≡ Global → is_safe nodes st s ≡ false → ¬ IsDetermined
  not-determined within is unsafe determines =
      let apart = global-from is in
      elim ((which_determined code gone f within (away-gone within apart.0)).0 determines) [
        | inl local ↦ let e : true ≡ false = sym local ∙ apart.1 in cc
        | inr good ↦ let e : true ≡ false = sym ((by_test code gone).1 good) ∙ unsafe in cc
      ]

  beyond-repair : IsOwn → (¬ IsDetermined) → is_beyond_repair nodes st s f ≡ true
  beyond-repair within bad = elim (cases_Bool (is_at_home nodes st s f)) [
    | inl home ↦ absurd (bad (by_home within home))
    | inr away ↦ elim (cases_Bool (is_local code gone f)) [
      | inl local ↦ absurd (bad (by_group_there within local))
      | inr absent ↦ elim (cases_Bool (is_safe nodes st s)) [
        | inl safe ↦ absurd (bad (by_all within safe))
        | inr unsafe ↦ rw (unsafe, global-is away absent) refl
      ]
    ]
  ]

  module _ (past : List Entry) (session : SessionNo) where
    tell-unrecoverable : has_stripe st s ≡ true → lease_of st s f ≡ None → needs nodes st s f ≡ true → is_beyond_repair nodes st s f ≡ true → (lease_outcome nodes past st session s f).0 ≡ Refused refusal.Unrecoverable
    unfolding lease_outcome
    tell-unrecoverable there none needed beyond = rw (there, none, needed, beyond) refl

    needed-own : needs nodes st s f ≡ true → IsOwn
    needed-own needed = ltb-true f.value (fragment_count code) (needs-own nodes st s f needed)

    pub refused_bytes : ((step nodes past st session (Lease s f)).0 ≡ Refused refusal.Unrecoverable) ↔ (IsTrue (has_stripe st s) × (lease_of st s f ≡ None) × IsTrue (needs nodes st s f) × (¬ IsDetermined))
    refused_bytes = (
      λ told. (let says = lease-told nodes past st session s f (Refused refusal.Unrecoverable) told in (says.0, says.1, says.2, not-determined (needed-own says.2) says.3 says.4)),
      λ so. tell-unrecoverable so.0 so.1 so.2 (beyond-repair (needed-own so.2) so.3),
    )

  pub recipe_bytes : gone f.value ≡ true → IsDetermined ↔ HasRecipe code gone f
  recipe_bytes hit = (
    λ determines. (some_recipe code gone f within).0 (more_determine code (outside gone) (readable gone f.value) f.value to determines),
    λ recipe. more_determine code (readable gone f.value) (outside gone) f.value (λ g few h. (and_parts (not (gone g)) (not (eqb g f.value)) h).0) ((some_recipe code gone f within).1 recipe),
  ) where
    within : IsOwn
    within = gone-own f.value hit

    to : (g : ℕ) → g < fragment_count code → outside gone g ≡ true → readable gone f.value g ≡ true
    to g few stands = and_from (not (gone g)) (not (eqb g f.value)) stands (elim (cases_Bool (eqb g f.value)) [
      | inr apart ↦ rw apart refl
      | inl here ↦ absurd (let e : gone g ≡ true = ap gone (eqb-true g f.value here) ∙ hit in let k : not true ≡ true = rw e at stands in cc)
    ])

  -- ---- grants

  module _ (within : IsOwn) (suffices : kind nodes st s f ≡ Global → is_safe nodes st s ≡ true) where
    abbrev reads : FragmentSet
    reads = sources_of (kind nodes st s f) gone f

    reads-is : (k : Kind) → kind nodes st s f ≡ k → (g : ℕ) → reads g ≡ sources_of k gone f g
    reads-is k is g = ap (λ (j : Kind). sources_of j gone f g) is

    group-reads : is_at_home nodes st s f ≡ false → is_local code gone f ≡ true → (g : ℕ) → g < fragment_count code → reads g ≡ is_beside code f.value g
    group-reads away local g few = reads-is (local_kind code (others code f)) (local-is away local) g ∙ local_sources_are code (others code f) gone f g ∙ named_others code f within g few

    pub sources_present : (g : ℕ) → g < fragment_count code → reads g ≡ true → gone g ≡ false
    sources_present g few hit = elim (cases_Bool (is_at_home nodes st s f)) [
      | inl home ↦ let same = eqb-true f.value g (sym (reads-is Move (move-is home) g) ∙ hit) in ap gone (sym same) ∙ home-there home
      | inr away ↦ elim (cases_Bool (is_local code gone f)) [
        | inl local ↦ (by_group within local).1 g few (sym (group-reads away local g few) ∙ hit)
        | inr absent ↦ not-true (gone g) (sym (reads-is Global (global-is away absent) g) ∙ hit)
      ]
    ]

    pub sources_determine : Determines code reads f.value
    sources_determine = elim (cases_Bool (is_at_home nodes st s f)) [
      | inl home ↦ λ v w sv sw common. common f.value within (reads-is Move (move-is home) f.value ∙ eq-eqb f.value f.value refl)
      | inr away ↦ elim (cases_Bool (is_local code gone f)) [
        | inl local ↦ more_determine code (is_beside code f.value) reads f.value (λ g few h. group-reads away local g few ∙ h) (by_group within local).0
        | inr absent ↦
            let is = global-is away absent in
            more_determine code (outside gone) reads f.value (λ g few h. reads-is Global is g ∙ h) (by_all within (suffices is))
      ]
    ]

  -- ---- few sources

  -- fewer fragments that are there than the code has data fragments determine it
  abbrev pub FewDetermine : Type 0
  FewDetermine = (known : FragmentSet) × (size_of code known < data_count code) × ((g : ℕ) → g < fragment_count code → IsTrue (known g) → IsFalse (gone g)) × Determines code known f.value

  module _ (hit : gone f.value ≡ true) where
    few_from : kind nodes st s f ≢ Global → FewDetermine
    few_from other =
        let within = gone-own f.value hit in
        let away = gone-away hit in
        elim (cases_Bool (is_local code gone f)) [
          | inr absent ↦ absurd (other (global-is away absent))
          | inl local ↦ let by = by_group within local in (is_beside code f.value, few_others code f.value within, by.1, by.0)
        ]

    few_to : FewDetermine → kind nodes st s f ≢ Global
    few_to so is =
        let within = gone-own f.value hit in
        let unknown : so.0 f.value ≡ false = elim (cases_Bool (so.0 f.value)) [
          | inr out ↦ out
          | inl knows ↦ absurd (let e : true ≡ false = sym hit ∙ so.2 f.value within knows in cc)
        ] in
        let lost : (g : ℕ) → gone g ≡ true → outside so.0 g ≡ true = λ g missing_g. elim (cases_Bool (so.0 g)) [
          | inr out ↦ rw out refl
          | inl knows ↦ absurd (let e : true ≡ false = sym missing_g ∙ so.2 g (gone-own g missing_g) knows in cc)
        ] in
        elim (few_determine code so.0 f within unknown so.3) [
          | inl local ↦ let e : true ≡ false = sym (local_part code (outside so.0) gone f lost local) ∙ (global-from is).1 in cc
          | inr many ↦ let few = so.1 in omega (arith, many, few)
        ]

    pub group_bytes : (kind nodes st s f ≢ Global) ↔ FewDetermine
    group_bytes = (few_from, few_to)

-- ---- any command that grants

module _ (nodes : List NodeInfo) (past : List Entry) (st : State) (session : SessionNo) (l : LeaseRecord) (k : Kind) where
  leased : (command : Command) → (step nodes past st session command).0 ≡ Granted l k → (step nodes past st session (Lease l.stripe l.fragment)).0 ≡ Granted l k
  leased command told = elim (asked l k nodes past st session command told).0 [
    | inl is ↦ subst (λ (c : Command). (step nodes past st session c).0 ≡ Granted l k) is told
    | inr is ↦
        let next = subst (λ (c : Command). (step nodes past st session c).0 ≡ Granted l k) is told in
        ap (λ (o : Outcome). o.0) (sym (urgent-leased nodes past st session l.stripe l.fragment (granted-urgent nodes past st session l k next))) ∙ next
  ]

  record IsOwedOne : Type 0 where
    pub owed : IsOwed nodes st l.stripe l.fragment
    pub within : l.fragment.value < fragment_count (code_of st l.stripe)
    pub is : k ≡ kind nodes st l.stripe l.fragment

  owed_one : (command : Command) → (step nodes past st session command).0 ≡ Granted l k → IsOwedOne
  owed_one command told =
      let says = lease-told nodes past st session l.stripe l.fragment (Granted l k) (leased command told) in
      record { owed = says.0; within = ltb-true _ _ (needs-own nodes st l.stripe l.fragment says.0.needed); is = says.3 }

  pub granted_present : (command : Command) → (step nodes past st session command).0 ≡ Granted l k
      → (g : ℕ) → g < fragment_count (code_of st l.stripe) → IsTrue (sources_of k (missing nodes st l.stripe) l.fragment g) → IsFalse (missing nodes st l.stripe g)
  granted_present command told g few hit =
      let one = owed_one command told in
      sources_present nodes st l.stripe l.fragment one.within one.owed.suffices g few
      (sym (ap (λ (j : Kind). sources_of j (missing nodes st l.stripe) l.fragment g) one.is) ∙ hit)

  pub granted_enough : (command : Command) → (step nodes past st session command).0 ≡ Granted l k
      → Determines (code_of st l.stripe) (sources_of k (missing nodes st l.stripe) l.fragment) l.fragment.value
  granted_enough command told =
      let one = owed_one command told in
      subst (λ (j : Kind). Determines (code_of st l.stripe) (sources_of j (missing nodes st l.stripe) l.fragment) l.fragment.value) (sym one.is)
      (sources_determine nodes st l.stripe l.fragment one.within one.owed.suffices)
