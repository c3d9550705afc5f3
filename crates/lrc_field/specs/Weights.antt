-- Internal: no public clause reaches these definitions.
-- How the parity equations of a code are added up so that they give one fragment by the others.
use Rattle.std.specs.Prelude.{ℕ, ◌+◌, if◌then◌else◌, nat_lt, nat_eq, not, List, [], ◌∷◌, filter, Some}
use Rattle.lrc_code.specs.declared.codes.Code.{Code}
use Rattle.lrc_code.specs.declared.codes.Class.{Class}
use Rattle.lrc_code.specs.declared.codes.Class.TheVariants.{A, B, G}
use Rattle.lrc_code.specs.Codes.{class_of, are_one_class, members, data_count}
use Rattle.lrc_code.specs.Losses.{FragmentSet}
use Rattle.lrc_field.specs.Field.{plus, times, inverse}
use Rattle.lrc_field.specs.Stripes.{factor, in_parity}
use Rattle.lrc_field.specs.declared.equations.Parity.{Parity}
use Rattle.lrc_field.specs.declared.equations.Parity.TheVariants.{LocalA, LocalB, Global, Square}
pub use Rattle.lrc_field.specs.declared.equations.Weights.{Weights}

-- the number of a parity, from 0
abbrev pub number_of : Parity → ℕ
number_of LocalA = 0
number_of LocalB = 1
number_of Global = 2
number_of Square = 3

-- The equation of a parity says that a sum is 0: that of the data, each times its coefficient in the parity, and of
-- the parity itself. This is the coefficient of each fragment in it.
abbrev pub in_equation : Code → ℕ → ℕ → ℕ
in_equation code j f = if nat_lt f (data_count code) then in_parity code j f else (if nat_eq f (data_count code + j) then 1 else 0)

-- the coefficient of a fragment in the sum of the four equations, each times its weight
unfoldable pub value_at : Code → Weights → ℕ → ℕ
value_at code w f =
    plus (times w.local_a (in_equation code 0 f)) (plus (times w.local_b (in_equation code 1 f)) (plus (times w.global (in_equation code 2 f)) (times w.square (in_equation code 3 f))))

-- all weights times one element
abbrev pub scaled : ℕ → Weights → Weights
scaled i w = record { local_a = times i w.local_a; local_b = times i w.local_b; global = times i w.global; square = times i w.square }

-- the coefficients of the other fragments, where the fragment's own is 1
abbrev pub coefficient_by : Code → ℕ → Weights → ℕ → ℕ
coefficient_by code f w g = if nat_eq g f then 0 else value_at code w g

-- ---- what is left out: one member of each local group, and a third fragment

-- the place of a fragment in its local group: its factor, or 0 for a parity
abbrev pub place : Code → ℕ → ℕ
place code f = if nat_lt f (data_count code) then factor code f else 0

-- the weights of the global equations alone, for which the third fragment and the other one of its local group get
-- the same; or for which a global parity gets 0
abbrev pub by_third : Code → ℕ → ℕ → ℕ → Weights
by_third code x y z =
    if are_one_class (Some A) (class_of code z) then record { local_a = 0; local_b = 0; global = plus (place code x) (place code z); square = 1 }
    else (if are_one_class (Some B) (class_of code z) then record { local_a = 0; local_b = 0; global = plus (place code y) (place code z); square = 1 }
    else (if nat_eq z (data_count code + 2) then record { local_a = 0; local_b = 0; global = 0; square = 1 } else record { local_a = 0; local_b = 0; global = 1; square = 0 }))

-- the sum of the two global equations at a place
abbrev pub line : Weights → ℕ → ℕ
line w p = plus (times w.global p) (times w.square (times p p))

-- the same, with the weights of the local equations for which x and y get 0
abbrev pub with_locals : Code → ℕ → ℕ → Weights → Weights
with_locals code x y w = record { local_a = line w (place code x); local_b = line w (place code y); global = w.global; square = w.square }

-- weights for which exactly x, of group A, y, of group B, and z get 0
unfoldable pub weights_without : Code → ℕ → ℕ → ℕ → Weights
weights_without code x y z = with_locals code x y (by_third code x y z)

-- the first of some fragments, or else another
abbrev pub first_or : List ℕ → ℕ → ℕ
first_or [] other = other
first_or (x ∷ xs) other = x

-- the others of a list
abbrev pub but : ℕ → List ℕ → List ℕ
but f fs = filter (λ g. not (nat_eq g f)) fs

-- the members of a class that are in the set
abbrev pub lost_in : Code → Class → FragmentSet → List ℕ
lost_in code c lost = filter lost (members code c)

-- the member of group A that is left out: the first that is lost, or the parity
abbrev pub out_of_a : Code → List ℕ → ℕ
out_of_a code la = first_or la (data_count code)

-- the same for group B
abbrev pub out_of_b : Code → List ℕ → ℕ
out_of_b code lb = first_or lb (data_count code + 1)

-- a global parity other than the fragment
abbrev pub spare : Code → ℕ → ℕ
spare code f = if nat_eq f (data_count code + 3) then data_count code + 2 else data_count code + 3

-- the third: another that is lost, or a global parity
abbrev pub third_out : Code → List ℕ → List ℕ → List ℕ → ℕ → ℕ
third_out code la lb lg f = first_or (but (out_of_a code la) la) (first_or (but (out_of_b code lb) lb) (first_or lg (spare code f)))

-- the weights for the losses of a set, of which the fragment is none
unfoldable pub raw_weights : Code → FragmentSet → ℕ → Weights
raw_weights code others f =
    let la = lost_in code A others in
    let lb = lost_in code B others in
    weights_without code (out_of_a code la) (out_of_b code lb) (third_out code la lb (lost_in code G others) f)

-- the same, scaled so that the fragment gets 1
unfoldable pub weights_for : Code → FragmentSet → ℕ → Weights
weights_for code others f = let w = raw_weights code others f in scaled (inverse (value_at code w f)) w

-- the weights that rebuild a member of a local group by the others: the equation of the group's parity
abbrev pub local_weights : Code → ℕ → Weights
local_weights code f =
    if are_one_class (Some B) (class_of code f) then record { local_a = 0; local_b = 1; global = 0; square = 0 } else record { local_a = 1; local_b = 0; global = 0; square = 0 }
