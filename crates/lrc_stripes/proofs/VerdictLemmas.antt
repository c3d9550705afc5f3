-- What is kept of the searches for stripes that are lost to upgrades.
use Rattle.std.proofs.Common.{◌≡◌, ℕ, zero, suc, ◌<◌, ◌≤◌, inl, inr, Bool, true, false, not, ◌&&◌, ◌||◌, List, [], ◌∷◌, ◌++◌, length, get_or, set, vec_capacity, arith, refl, sym, ap, ◌∙◌}
use Rattle.std.specs.Vec.{with_item}
use Rattle.std.proofs.lemmas.Bool.{cases_Bool, cases_eq, cases_lt, eqb-true}
use Rattle.std.proofs.lemmas.List.{get_or_past, get_or-set_same, get_or-set_other}
use Rattle.lrc_code.specs.declared.numbers.StripeNo.{StripeNo}
use Rattle.lrc_code.specs.declared.numbers.UpgradeNo.{UpgradeNo}
use Rattle.lrc_code.specs.Numbers.{same_stripe}
use Rattle.lrc_code.proofs.NumbersLemmas.{equal_stripes}
use Rattle.lrc_ranks.specs.Sets.{has}
use Rattle.lrc_stripes.specs.declared.verdicts.Verdicts.{Verdicts}
use Rattle.lrc_stripes.specs.UpgradeLosses.{AreVerdicts}

pub or-parts : (a b : Bool) → (a || b) ≡ false → (a ≡ false) × (b ≡ false)
or-parts true b e = absurd (cc)
or-parts false b e = (refl, e)

-- stripes that pass the test are noted as changed, and others are lost as before
pub marked : (v w : Verdicts) (test : StripeNo → Bool) → w.safe ≡ v.safe → w.is_settled ≡ false → ((s : StripeNo) → has w.changed s ≡ false → (test s ≡ false) × (has v.changed s ≡ false))
    → (lost now : UpgradeNo → StripeNo → Bool) (several after : StripeNo → Bool) → AreVerdicts lost several v → ((u : UpgradeNo) (s : StripeNo) → test s ≡ false → now u s ≡ lost u s)
    → AreVerdicts now after w
marked v w test sets unsettled split lost now several after are same = record {
  room = rw sets are.room;
  safe = λ u s there kept. same u s (split s kept).0 ∙ are.safe u s (rw sets at there) (split s kept).1;
  unchanged = λ settled. absurd (let clash : false ≡ true = sym unsettled ∙ settled in cc);
  counted = λ settled. absurd (let clash : false ≡ true = sym unsettled ∙ settled in cc);
}

-- an empty set at the end has no stripe
pub has-added : (sets : List (List Bool)) (none : List Bool) → has none ≡ (λ s. false) → (k : ℕ) (s : StripeNo) → has (get_or (sets ++ none ∷ []) k []) s ≡ true → has (get_or sets k []) s ≡ true
has-added [] none empty zero s there = absurd (let clash : true ≡ false = sym there ∙ ap (λ (f : StripeNo → Bool). f s) empty in cc)
has-added [] none empty (suc k) s there = there
has-added (x ∷ sets) none empty zero s there = there
has-added (x ∷ sets) none empty (suc k) s there = has-added sets none empty k s there

-- one more safe stripe of a domain
pub kept-safe : (v : Verdicts) (u : UpgradeNo) (stripe : StripeNo) (former more : List Bool) → u.value < length v.safe.items → former ≡ get_or v.safe.items u.value [] → has more ≡ (λ s. same_stripe stripe s || has former s)
    → (lost : UpgradeNo → StripeNo → Bool) (several : StripeNo → Bool) → AreVerdicts lost several v → lost u stripe ≡ false → AreVerdicts lost several (record v { safe = with_item v.safe u.value more })
kept-safe v u stripe former more within at is lost several are safe = record {
  room = are.room;
  safe = λ w s there kept. elim (cases_eq w.value u.value) [
    | inl same ↦
        let here : has more s ≡ true = sym (ap (λ (x : List Bool). has x s) (ap (λ (k : ℕ). get_or (set v.safe.items u.value more) k []) same ∙ get_or-set_same v.safe.items u.value more [] within)) ∙ there in
        let own : w ≡ u = ap (λ (k : ℕ). let n : UpgradeNo = record { value = k } in n) same in
        ap (λ (x : UpgradeNo). lost x s) own ∙ (elim (cases_Bool (same_stripe stripe s)) [
          | inl it ↦ ap (lost u) (sym (equal_stripes stripe s (eqb-true stripe.value s.value it))) ∙ safe
          | inr other ↦
              let old : has former s ≡ true = sym (ap (λ (f : StripeNo → Bool). f s) is ∙ ap (λ (b : Bool). b || has former s) other) ∙ here in
              are.safe u s (sym (ap (λ (x : List Bool). has x s) at) ∙ old) kept
        ])
    | inr other ↦
        are.safe w s (sym (ap (λ (x : List Bool). has x s) (get_or-set_other v.safe.items u.value w.value more [] other)) ∙ there) kept
  ];
  unchanged = are.unchanged;
  counted = are.counted;
}

-- a set of a list without the stripes of another
pub removed-one : (sets : List (List Bool)) (i : ℕ) (former less : List Bool) (stripes : StripeNo → Bool) → i < length sets → former ≡ get_or sets i [] → has less ≡ (λ s. has former s && not (stripes s))
    → (k : ℕ) (s : StripeNo) → has (get_or (set sets i less) k []) s ≡ true → (has (get_or sets k []) s ≡ true) × (k ≡ i → stripes s ≡ false)
removed-one sets i former less stripes within at is k s there = elim (cases_eq k i) [
  | inl same ↦
      let here : has less s ≡ true = sym (ap (λ (x : List Bool). has x s) (ap (λ (j : ℕ). get_or (set sets i less) j []) same ∙ get_or-set_same sets i less [] within)) ∙ there in
      let both = parts (has former s) (stripes s) (sym (ap (λ (f : StripeNo → Bool). f s) is) ∙ here) in
      (ap (λ (j : ℕ). has (get_or sets j []) s) same ∙ (sym (ap (λ (x : List Bool). has x s) at) ∙ both.0), λ _. both.1)
  | inr other ↦ (sym (ap (λ (x : List Bool). has x s) (get_or-set_other sets i k less [] other)) ∙ there, λ same. absurd (other same))
] where
  parts : (a b : Bool) → (a && not b) ≡ true → (a ≡ true) × (b ≡ false)
  parts true true e = absurd (cc)
  parts true false e = (refl, refl)
  parts false b e = absurd (cc)

-- past the end there is none
pub none-past : (sets : List (List Bool)) (k : ℕ) (s : StripeNo) → has (get_or sets k []) s ≡ true → k < length sets
none-past sets k s there = elim (cases_lt k (length sets)) [
  | inl within ↦ within
  | inr past ↦ absurd (let clash : true ≡ false = sym there ∙ ap (λ (x : List Bool). has x s) (get_or_past sets k [] past) in cc)
]
