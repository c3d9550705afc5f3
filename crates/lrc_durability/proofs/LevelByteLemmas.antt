-- What levels and ranks say of bytes.
use Rattle.std.proofs.Common.{◌≡◌, ◌≢◌, ℕ, ◌+◌, ◌↔◌, Bool, IsTrue, List, Option, Some, None, unwrap_or, refl, sym, ap, ◌∙◌, arith}
use Rattle.lrc_code.specs.declared.codes.Code.{Code}
use Rattle.lrc_code.specs.declared.numbers.StripeNo.{StripeNo}
use Rattle.lrc_code.specs.Losses.{FragmentSet, IsRecoverable, margin_of, size_of}
use Rattle.lrc_code.proofs.MarginLemmas.{by_margin, by_no_margin}
use Rattle.lrc_code.proofs.SizeLemmas.{recoverable_part, margin-few}
use Rattle.lrc_field.specs.Stripes.{Bytes, IsDecodable, AreAlikeOutside, StaysDecodable, AreTooMany}
use Rattle.lrc_field.proofs.MarginDecodingLemmas.{recoverable_decodable}
use Rattle.lrc_field.proofs.TooManyLemmas.{margin_one_more}
use Rattle.lrc_field.proofs.UndecodableLemmas.{two_stripes}
use Rattle.lrc_topology.specs.declared.NodeInfo.{NodeInfo}
use Rattle.lrc_terms.specs.declared.level.Level.{Level}
use Rattle.lrc_terms.specs.declared.level.Level.TheVariants.{Whole, AtRisk, Unavailable, Lost}
use Rattle.lrc_terms.specs.Levels.{SomeMissing, NoneMissing, homes_of, level_if, rank_by}
use Rattle.lrc_terms.proofs.LevelLemmas.{law_lost, law_unavailable, law_at_risk, law_whole, none_recoverable, homeless-missing}
use Rattle.lrc_rules.specs.States.{State, has_stripe, code_of, online_at, homeless, missing, rank, level, level_shown}
use Rattle.lrc_rules.proofs.LookLemmas.{if-some, some-if}

-- the margin in bytes
abbrev pub HasMargin : Code → FragmentSet → ℕ → Type 0
HasMargin code m t = StaysDecodable code m t × ((more : FragmentSet) × (size_of code more ≡ t + 1) × AreTooMany code m more)

module _ (nodes : List NodeInfo) (st : State) (s : StripeNo) where
  abbrev code : Code
  code = code_of st s

  abbrev bare : FragmentSet
  bare = homeless st s

  abbrev gone : FragmentSet
  gone = missing nodes st s

  abbrev Shows : Level → Type 0
  Shows l = level_shown nodes st s ≡ Some l

  abbrev there : Bool
  there = has_stripe st s

  shown : (l : Level) → Shows l → IsTrue there × (level nodes st s ≡ l)
  unfolding level_if
  shown l e = if-some (level nodes st s) there l e

  show : (l : Level) → IsTrue there → level nodes st s ≡ l → Shows l
  unfolding level_if
  show l is_there is = some-if (level nodes st s) there l (is_there, is)

  held : IsRecoverable code gone → IsRecoverable code bare
  held good = recoverable_part code gone bare (λ f _ hit. homeless-missing code (online_at nodes st) (homes_of st.homes s) f hit) good

  undecodable : (m : FragmentSet) → (¬ IsRecoverable code m) → ¬ IsDecodable code m
  undecodable m bad good = bad ((recoverable_decodable code m).1 good)

  unrecoverable : (m : FragmentSet) → (¬ IsDecodable code m) → ¬ IsRecoverable code m
  unrecoverable m bad good = bad ((recoverable_decodable code m).0 good)

  pub lost_bytes : Shows Lost ↔ (IsTrue there × (¬ IsDecodable code bare))
  lost_bytes = (
    λ e. (let is = shown Lost e in (is.0, undecodable bare ((law_lost code bare gone).0 is.1))),
    λ so. show Lost so.0 ((law_lost code bare gone).1 (unrecoverable bare so.1)),
  )

  pub lost_stripes : Shows Lost ↔ (IsTrue there × ((a : Bytes) × (b : Bytes) × AreAlikeOutside code bare a b))
  lost_stripes = (
    λ e. (let so = lost_bytes.0 e in (so.0, (two_stripes code bare).0 so.1)),
    λ so. lost_bytes.1 (so.0, (two_stripes code bare).1 so.1),
  )

  pub unavailable_bytes : Shows Unavailable ↔ (IsTrue there × IsDecodable code bare × (¬ IsDecodable code gone))
  unavailable_bytes = (
    λ e. (let is = shown Unavailable e in let so = (law_unavailable code bare gone).0 is.1 in (is.0, (recoverable_decodable code bare).0 so.0, undecodable gone so.1)),
    λ so. show Unavailable so.0 ((law_unavailable code bare gone).1 ((recoverable_decodable code bare).1 so.1, unrecoverable gone so.2)),
  )

  pub at_risk_bytes : (t : ℕ) → Shows (AtRisk t) ↔ (IsTrue there × SomeMissing code gone × StaysDecodable code gone t × ((more : FragmentSet) × (size_of code more ≡ t + 1) × AreTooMany code gone more))
  at_risk_bytes t = (to, from) where
    to : Shows (AtRisk t) → IsTrue there × SomeMissing code gone × StaysDecodable code gone t × ((more : FragmentSet) × (size_of code more ≡ t + 1) × AreTooMany code gone more)
    to e =
        let is = shown (AtRisk t) e in
        let so = (law_at_risk code bare gone t).0 is.1 in
        let margin = (margin_one_more code gone t).0 so.1 in
        (is.0, so.2, margin.0, margin.1)

    from : IsTrue there × SomeMissing code gone × StaysDecodable code gone t × ((more : FragmentSet) × (size_of code more ≡ t + 1) × AreTooMany code gone more) → Shows (AtRisk t)
    from so =
        let margin = (margin_one_more code gone t).1 (so.2, so.3) in
        show (AtRisk t) so.0 ((law_at_risk code bare gone t).1 (held margin.recoverable, margin, so.1))

  pub whole_bytes : Shows Whole ↔ (IsTrue there × NoneMissing code gone)
  whole_bytes = (
    λ e. (let is = shown Whole e in (is.0, ((law_whole code bare gone).0 is.1).1)),
    λ so. show Whole so.0 ((law_whole code bare gone).1 (held (none_recoverable code gone so.1), so.1)),
  )

  -- ---- ranks

  margin_told : (t : ℕ) → t ≢ 4 → (o : Option ℕ) → margin_of code gone ≡ o → unwrap_or o 4 ≡ t → HasMargin code gone t
  margin_told t four None is e = absurd (four (sym e))
  margin_told t four (Some k) is e = (margin_one_more code gone t).0 ((by_margin code gone t).0 (is ∙ ap (λ (n : ℕ). Some n) e))

  pub rank_margin : (t : ℕ) → t ≢ 4 → (rank nodes st s ≡ t) ↔ HasMargin code gone t
  unfolding rank_by
  rank_margin t four = (
    λ e. margin_told t four (margin_of code gone) refl e,
    λ so. (let is = (by_margin code gone t).1 ((margin_one_more code gone t).1 so) in ap (λ (o : Option ℕ). unwrap_or o 4) is),
  )

  none_told : (o : Option ℕ) → margin_of code gone ≡ o → unwrap_or o 4 ≡ 4 → ¬ IsRecoverable code gone
  none_told None is e = (by_no_margin code gone).0 is
  none_told (Some k) is e = absurd (let few = margin-few code gone k ((by_margin code gone k).0 is) in let four : k ≡ 4 = e in omega (arith, few, four))

  pub rank_none : (rank nodes st s ≡ 4) ↔ (¬ IsDecodable code gone)
  unfolding rank_by
  rank_none = (
    λ e. undecodable gone (none_told (margin_of code gone) refl e),
    λ bad. ap (λ (o : Option ℕ). unwrap_or o 4) ((by_no_margin code gone).1 (unrecoverable gone bad)),
  )
