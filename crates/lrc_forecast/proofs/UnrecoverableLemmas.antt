-- A stripe is unavailable or lost exactly if its missing fragments are not recoverable.
use Rattle.std.proofs.Common.{arith, ◌≡◌, ◌↔◌, ◌⊎◌, ℕ, ◌+◌, ◌-◌, ◌≤◌, Bool, true, false, not, List, Some, refl, sym, ap, ◌∙◌, inl, inr}
use Rattle.std.proofs.lemmas.Bool.{cases_Bool, leb-true, le-leb}
use Rattle.lrc_code.specs.declared.codes.Class.{Class}
use Rattle.lrc_code.specs.declared.codes.Class.TheVariants.{A, B, G}
use Rattle.lrc_code.specs.declared.codes.Code.{Code}
use Rattle.lrc_code.specs.declared.numbers.StripeNo.{StripeNo}
use Rattle.lrc_code.specs.declared.codes.Code.TheVariants.{Wide, Narrow}
use Rattle.lrc_code.specs.Codes.{fragment_count, all_fragments}
use Rattle.lrc_code.specs.Losses.{FragmentSet, losses_in, is_recoverable}
use Rattle.lrc_code.proofs.LossesLemmas.{losses_in-within}
use Rattle.lrc_topology.specs.declared.NodeInfo.{NodeInfo}
use Rattle.lrc_terms.specs.declared.level.Level.{Level}
use Rattle.lrc_terms.specs.declared.level.Level.TheVariants.{Unavailable, Lost}
use Rattle.lrc_terms.specs.Levels.{homes_of, level_by, level_at, has_some}
use Rattle.lrc_terms.proofs.LevelLemmas.{homeless-missing}
use Rattle.lrc_rules.specs.States.{State, code_of, online_at, homeless, missing, level}
use Rattle.lrc_rules.proofs.NodeWordsLemmas.{flips-false}
use Rattle.lrc_forecast.specs.Forecasts.{is_unrecoverable, IsUnrecoverable}

-- ---- the level, by the missing fragments

fewer-excess : (a b g a1 b1 g1 : ℕ) → a ≤ a1 → b ≤ b1 → g ≤ g1 → (a1 - 1) + (b1 - 1) + g1 ≤ 2 → (a - 1) + (b - 1) + g ≤ 2
fewer-excess a b g a1 b1 g1 x y z all = omega (arith, x, y, z, all)

-- a part of a recoverable set is recoverable
pub part-recoverable : (code : Code) (m part : FragmentSet) → ((f : ℕ) → part f ≡ true → m f ≡ true) → is_recoverable code m ≡ true → is_recoverable code part ≡ true
part-recoverable code m part within all =
    let fewer : (c : Class) → losses_in code c part ≤ losses_in code c m = losses_in-within code m part (λ f low hit. within f hit) in
    le-leb _ _ (fewer-excess (losses_in code A part) (losses_in code B part) (losses_in code G part) (losses_in code A m) (losses_in code B m) (losses_in code G m)
    (fewer A) (fewer B) (fewer G) (leb-true _ _ all))

module _ (code : Code) (homeless missing : FragmentSet) (within : (f : ℕ) → homeless f ≡ true → missing f ≡ true) where
  -- a level is unavailable or lost exactly where the missing fragments are not recoverable
  pub level-test : is_unrecoverable (level_by code homeless missing) ≡ not (is_recoverable code missing)
  unfolding level_by
  level-test = elim (cases_Bool (is_recoverable code missing)) [
    | inl held ↦ let bare = part-recoverable code missing homeless within held in rw (bare, held) (by _ (has_some code missing))
    | inr lost ↦ elim (cases_Bool (is_recoverable code homeless)) [
      | inl bare ↦ rw (bare, lost) refl
      | inr bare ↦ rw (bare, lost) refl
    ]
  ] where
    by : (t : ℕ) (some : Bool) → is_unrecoverable (level_at (Some t) some) ≡ false
    by t true = refl
    by t false = refl

pub most-fragments : (code : Code) → fragment_count code ≤ 16
most-fragments Wide = omega arith
most-fragments Narrow = omega arith

pub test-level : (l : Level) → (is_unrecoverable l ≡ true) ↔ ((l ≡ Unavailable) ⊎ (l ≡ Lost))
test-level l = (there l, back l) where
  there : (l : Level) → is_unrecoverable l ≡ true → (l ≡ Unavailable) ⊎ (l ≡ Lost)
  there Unavailable hit = inl refl
  there Lost hit = inr refl
  there _ hit = absurd (cc)

  back : (l : Level) → (l ≡ Unavailable) ⊎ (l ≡ Lost) → is_unrecoverable l ≡ true
  back l (inl is) = rw is refl
  back l (inr is) = rw is refl

module _ (nodes : List NodeInfo) (s : StripeNo) where
  pub state-test : (st : State) → is_unrecoverable (level nodes st s) ≡ not (is_recoverable (code_of st s) (missing nodes st s))
  state-test st = level-test (code_of st s) (homeless st s) (missing nodes st s) (λ f hit. homeless-missing (code_of st s) (online_at nodes st) (homes_of st.homes s) f hit)

  -- the stripe misses no further fragment in the second state
  pub record MissesNoMore (st next : State) : Type 0 where
    pub code : code_of next s ≡ code_of st s
    pub missing : (f : ℕ) → missing nodes next s f ≡ true → missing nodes st s f ≡ true

  pub unrecoverable-before : (st next : State) → MissesNoMore st next → IsUnrecoverable nodes next s → IsUnrecoverable nodes st s
  unrecoverable-before st next less hit = (test-level (level nodes st s)).0 (by (is_unrecoverable (level nodes st s)) refl) where
    by : (b : Bool) → is_unrecoverable (level nodes st s) ≡ b → is_unrecoverable (level nodes st s) ≡ true
    by true is = is
    by false is = absurd (
        let held : is_recoverable (code_of st s) (missing nodes st s) ≡ true = flips-false _ (sym (state-test st) ∙ is) in
        let still = part-recoverable (code_of st s) (missing nodes st s) (missing nodes next s) less.missing held in
        let now : is_unrecoverable (level nodes next s) ≡ false =
        state-test next ∙ ap (λ (c : Code). not (is_recoverable c (missing nodes next s))) less.code ∙ ap not still in
        let both : true ≡ false = sym ((test-level (level nodes next s)).1 hit) ∙ now in cc)
