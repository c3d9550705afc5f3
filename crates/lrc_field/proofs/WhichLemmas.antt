-- Which fragments are determined, by how many others.
use Rattle.std.proofs.Common.{◌≡◌, ℕ, ◌<◌, ◌≤◌, ◌⊎◌, ◌↔◌, true, false, not, eqb, IsTrue, refl, inl, inr}
use Rattle.std.specs.Bool.{IsFalse}
use Rattle.std.proofs.lemmas.Bool.{cases_Bool, and_parts, and_from, or_left, or_right, not-false}
use Rattle.lrc_code.specs.declared.codes.Code.{Code}
use Rattle.lrc_code.specs.declared.numbers.Fragment.{Fragment}
use Rattle.lrc_code.specs.Codes.{fragment_count, data_count}
use Rattle.lrc_code.specs.Losses.{FragmentSet, IsRecoverable, size_of, joined, is_local}
use Rattle.lrc_code.proofs.SizeLemmas.{recoverable_part}
use Rattle.lrc_field.specs.Stripes.{outside, Determines}
use Rattle.lrc_field.specs.Weights.{local_weights}
use Rattle.lrc_field.proofs.MemberLemmas.{only}
use Rattle.lrc_field.proofs.NearLemmas.{alone_from, near_from}
use Rattle.lrc_field.proofs.DecodableLemmas.{decodable, determined, rebuilds_local, except, except-self}
use Rattle.lrc_field.proofs.DeterminedLemmas.{recoverable_near, many_known}

module _ (code : Code) (m : FragmentSet) (f : Fragment) (within : f.value < fragment_count code) (hit : m f.value ≡ true) where
  others : (g : ℕ) → m g ≡ true → eqb g f.value ≡ false → except m f.value g ≡ true
  others g lost apart = and_from (m g) (not (eqb g f.value)) lost (rw apart refl)

  again : (g : ℕ) → m g ≡ true → joined (except m f.value) (only f.value) g ≡ true
  again g lost = elim (cases_Bool (eqb g f.value)) [
    | inl here ↦ or_right (except m f.value g) (eqb g f.value) here
    | inr apart ↦ or_left (except m f.value g) (eqb g f.value) (others g lost apart)
  ]

  to : Determines code (outside m) f.value → IsTrue (is_local code m f) ⊎ IsRecoverable code m
  to determines = elim (cases_Bool (is_local code m f)) [
    | inl local ↦ inl local
    | inr absent ↦
        let k = near_from code m (except m f.value) f within (λ g few lost apart. others g lost apart) absent in
        inr (recoverable_part code (joined (except m f.value) (only f.value)) m (λ g few lost. again g lost)
        (recoverable_near code (except m f.value) f.value k.p within (except-self m f.value) k.near (outside m) (rw hit refl) (λ g h. let lost = (and_parts (m g) (not (eqb g f.value)) h).0 in rw lost refl) determines))
  ]

  from : IsTrue (is_local code m f) ⊎ IsRecoverable code m → Determines code (outside m) f.value
  from (inr good) = decodable code m good f.value within
  from (inl local) =
      determined code (except m f.value) (outside m) f.value (local_weights code f.value) within
      (rebuilds_local code m (except m f.value) f.value within (except-self m f.value) (λ g h. (and_parts (m g) (not (eqb g f.value)) h).0) (alone_from code m f local))
      (λ g left apart. others g (not-false (m g) left) apart)

-- What is left determines a lost fragment exactly if its group rebuilds it or the losses are recoverable.
pub which_determined : (code : Code) (m : FragmentSet) (f : Fragment) → f.value < fragment_count code → IsTrue (m f.value) → Determines code (outside m) f.value ↔ (IsTrue (is_local code m f) ⊎ IsRecoverable code m)
which_determined code m f within hit = (to code m f within hit, from code m f within hit)

-- What determines a fragment has the others of its group in it, or as many fragments as there are data.
pub few_determine : (code : Code) (known : FragmentSet) (f : Fragment) → f.value < fragment_count code → IsFalse (known f.value) → Determines code known f.value → IsTrue (is_local code (outside known) f) ⊎ (data_count code ≤ size_of code known)
few_determine code known f within unknown determines = elim (cases_Bool (is_local code (outside known) f)) [
  | inl local ↦ inl local
  | inr absent ↦
      let k = near_from code (outside known) (except (outside known) f.value) f within (λ g few h apart. and_from (outside known g) (not (eqb g f.value)) h (rw apart refl)) absent in
      inr (many_known code known f.value k.p within unknown k.near determines)
]
