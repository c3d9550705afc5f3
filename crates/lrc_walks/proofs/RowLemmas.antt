-- The rows of stripes and nodes, from what the book returns of each.
use Rattle.std.proofs.Common.{◌≡◌, ℕ, Bool, true, false, if◌then◌else◌, List, Option, Some, None, inl, inr, refl, sym, ap, ◌∙◌, subst}
use Rattle.std.specs.Prelude.{slice_get}
use Rattle.std.proofs.lemmas.Bool.{cases_Bool}
use Rattle.std.proofs.lemmas.Option.{same_Some, slice_get_cases}
use Rattle.std.proofs.lemmas.List.Elements.{Contains-get_or}
use Rattle.std.specs.List.{Contains}
use Rattle.lrc_code.specs.declared.codes.Code.{Code}
use Rattle.lrc_code.specs.declared.losses.LossMask.{LossMask}
use Rattle.lrc_code.specs.declared.numbers.StripeNo.{StripeNo}
use Rattle.lrc_code.specs.declared.numbers.NodeNo.{NodeNo}
use Rattle.lrc_code.specs.Losses.{bits_of}
use Rattle.lrc_topology.specs.declared.NodeInfo.{NodeInfo}
use Rattle.lrc_topology.specs.Nodes.{AreNodes, node_at}
use Rattle.lrc_terms.specs.declared.level.Level.{Level}
use Rattle.lrc_terms.specs.Levels.{Homes, homes_of, level_if, missing_if}
use Rattle.lrc_rules.specs.States.{State, has_stripe, code_of, code_shown, level, level_shown, missing, missing_shown, online_at}
use Rattle.lrc_rules.proofs.NodeLemmas.{node_at-member}
use Rattle.lrc_records.specs.declared.stripe.LrcStripe.{LrcStripe}
use Rattle.lrc_records.specs.Shown.{encoded_stripe}
use Rattle.lrc_walks.specs.WalkRows.{stripe_record}

-- ---- stripes

missing-none : (there : Bool) (code : Code) (online : NodeNo → Bool) (homes : Homes) → None ≡ missing_if there code online homes → there ≡ false
unfolding missing_if
missing-none false code online homes is = refl
missing-none true code online homes is = absurd (cc)

level-none : (there : Bool) (code : Code) (online : NodeNo → Bool) (homes : Homes) → None ≡ level_if there code online homes → there ≡ false
unfolding level_if
level-none false code online homes is = refl
level-none true code online homes is = absurd (cc)

module _ (nodes : List NodeInfo) (st : State) (s : StripeNo) where
  abbrev row_if : Bool → Option LrcStripe
  row_if there = if there then Some (stripe_record nodes st s) else None

  -- a stripe of which the book returns nothing has no row
  pub row-unmissing : None ≡ missing_shown nodes st s → None ≡ row_if (has_stripe st s)
  row-unmissing none = sym (ap row_if (missing-none (has_stripe st s) (code_of st s) (online_at nodes st) (homes_of st.homes s) none))

  pub row-unlevelled : None ≡ level_shown nodes st s → None ≡ row_if (has_stripe st s)
  row-unlevelled none = sym (ap row_if (level-none (has_stripe st s) (code_of st s) (online_at nodes st) (homes_of st.homes s) none))

  module _ (there : has_stripe st s ≡ true) where
    code-told : code_shown st s ≡ Some (code_of st s)
    code-told = rw there refl

    level-told : level_shown nodes st s ≡ Some (level nodes st s)
    unfolding level_if
    level-told = rw there refl

    mask-told : missing_shown nodes st s ≡ Some (record { bits = bits_of (code_of st s) (missing nodes st s) })
    unfolding missing_if
    mask-told = rw there refl

  absent : (code : Code) → Some code ≡ code_shown st s → has_stripe st s ≡ false → ⊥
  absent code coded miss =
      let never : Some code ≡ None = coded ∙ ap (λ (b : Bool). let o : Option Code = (if b then Some (code_of st s) else None) in o) miss in
      absurd (cc)

  -- the row of what the book returns of the stripe
  pub row-told : (code : Code) (mask : LossMask) (l : Level) → Some code ≡ code_shown st s → Some mask ≡ missing_shown nodes st s → Some l ≡ level_shown nodes st s
      → Some (encoded_stripe s code mask l) ≡ row_if (has_stripe st s)
  row-told code mask l coded masked levelled = elim (cases_Bool (has_stripe st s)) [
    | inl there ↦
        ap (λ c. Some (encoded_stripe s c mask l)) (same_Some _ _ (coded ∙ code-told there))
        ∙ ap (λ m. Some (encoded_stripe s (code_of st s) m l)) (same_Some _ _ (masked ∙ mask-told there))
        ∙ ap (λ k. Some (encoded_stripe s (code_of st s) (record { bits = bits_of (code_of st s) (missing nodes st s) }) k)) (same_Some _ _ (levelled ∙ level-told there))
        ∙ sym (ap row_if there)
    | inr miss ↦ absurd (absent code coded miss)
  ]

-- ---- nodes

-- the node at a position is that of its number
pub node-known : (nodes : List NodeInfo) → AreNodes nodes → (i : ℕ) (n : NodeInfo) → slice_get nodes i ≡ Some n → node_at nodes n.number ≡ Some n
node-known nodes known i n got = elim ((slice_get_cases nodes i).1) [
  | inl here ↦
      let (m, within, at, read) = here in
      let same : m ≡ n = same_Some m n (sym at ∙ got) in
      node_at-member nodes known n (subst (Contains nodes) (read ∙ same) (Contains-get_or nodes i m within))
  | inr past ↦ let never : None ≡ Some n = sym past.1 ∙ got in absurd (cc)
]
