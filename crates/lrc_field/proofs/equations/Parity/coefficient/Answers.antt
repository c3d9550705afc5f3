use Rattle.std.proofs.Common.{◌≡◌, ℕ, true, eqb, slice_index_or, List, [], ◌∷◌, refl}
use Rattle.std.proofs.lemmas.Bool.{agree_below, agree_below_at, eqb-true}
use Rattle.lrc_code.specs.declared.codes.Code.TheVariants.{Wide, Narrow}
use Rattle.lrc_field.specs.Field.{times, times_by, times_x}
use Rattle.lrc_field.specs.declared.equations.Parity.{Parity}
use Rattle.lrc_field.specs.declared.equations.Parity.TheVariants.{LocalA, LocalB, Global, Square}
use Rattle.lrc_field.specs.Weights.{number_of, in_equation}
use Rattle.lrc_field.proofs.equations.Parity.coefficient.Goals as goal

abbrev wide : List (List ℕ)
wide =
    (1 ∷ 1 ∷ 1 ∷ 1 ∷ 1 ∷ 1 ∷ 0 ∷ 0 ∷ 0 ∷ 0 ∷ 0 ∷ 0 ∷ 1 ∷ 0 ∷ 0 ∷ 0 ∷ []) ∷ (0 ∷ 0 ∷ 0 ∷ 0 ∷ 0 ∷ 0 ∷ 1 ∷ 1 ∷ 1 ∷ 1 ∷ 1 ∷ 1 ∷ 0 ∷ 1 ∷ 0 ∷ 0 ∷ [])
    ∷ (1 ∷ 2 ∷ 3 ∷ 4 ∷ 5 ∷ 6 ∷ 16 ∷ 32 ∷ 48 ∷ 64 ∷ 80 ∷ 96 ∷ 0 ∷ 0 ∷ 1 ∷ 0 ∷ [])
    ∷ (1 ∷ 4 ∷ 5 ∷ 16 ∷ 17 ∷ 20 ∷ 29 ∷ 116 ∷ 105 ∷ 205 ∷ 208 ∷ 185 ∷ 0 ∷ 0 ∷ 0 ∷ 1 ∷ []) ∷ []

abbrev narrow : List (List ℕ)
narrow =
    (1 ∷ 1 ∷ 1 ∷ 0 ∷ 0 ∷ 0 ∷ 1 ∷ 0 ∷ 0 ∷ 0 ∷ 0 ∷ 0 ∷ 0 ∷ 0 ∷ 0 ∷ 0 ∷ []) ∷ (0 ∷ 0 ∷ 0 ∷ 1 ∷ 1 ∷ 1 ∷ 0 ∷ 1 ∷ 0 ∷ 0 ∷ 0 ∷ 0 ∷ 0 ∷ 0 ∷ 0 ∷ 0 ∷ [])
    ∷ (1 ∷ 2 ∷ 3 ∷ 16 ∷ 32 ∷ 48 ∷ 0 ∷ 0 ∷ 1 ∷ 0 ∷ 0 ∷ 0 ∷ 0 ∷ 0 ∷ 0 ∷ 0 ∷ [])
    ∷ (1 ∷ 4 ∷ 5 ∷ 29 ∷ 116 ∷ 105 ∷ 0 ∷ 0 ∷ 0 ∷ 1 ∷ 0 ∷ 0 ∷ 0 ∷ 0 ∷ 0 ∷ 0 ∷ []) ∷ []

wide_table : (p : Parity) → agree_below (λ f. eqb (slice_index_or (slice_index_or wide (number_of p) []) f 0) (in_equation Wide (number_of p) f)) (λ _. true) 16 ≡ true
unfolding times times_by times_x
wide_table LocalA = refl
wide_table LocalB = refl
wide_table Global = refl
wide_table Square = refl

narrow_table : (p : Parity) → agree_below (λ f. eqb (slice_index_or (slice_index_or narrow (number_of p) []) f 0) (in_equation Narrow (number_of p) f)) (λ _. true) 16 ≡ true
unfolding times times_by times_x
narrow_table LocalA = refl
narrow_table LocalB = refl
narrow_table Global = refl
narrow_table Square = refl

pub returns-in-Wide : goal.returns-in-Wide
returns-in-Wide c =
    let p = c.args.self in
    rw (c.in-Wide.is, c.number.ensures.value)
    (eqb-true _ _ (agree_below_at (λ f. eqb (slice_index_or (slice_index_or wide (number_of p) []) f 0) (in_equation Wide (number_of p) f)) (λ _. true) 16 c.args.fragment.value (wide_table p) c.args.fragment.in_range))

pub returns-in-Narrow : goal.returns-in-Narrow
returns-in-Narrow c =
    let p = c.args.self in
    rw (c.in-Narrow.is, c.number-in-Narrow.ensures.value)
    (eqb-true _ _ (agree_below_at (λ f. eqb (slice_index_or (slice_index_or narrow (number_of p) []) f 0) (in_equation Narrow (number_of p) f)) (λ _. true) 16 c.args.fragment.value (narrow_table p) c.args.fragment.in_range))
