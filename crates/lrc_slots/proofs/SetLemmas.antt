-- Sets of ordinals by key.
use Rattle.std.proofs.Common.{◌≡◌, ◌≢◌, ℕ, zero, suc, add-one, ◌+◌, ◌<◌, Bool, true, false, not, ◌&&◌, ◌||◌, eqb, cond, List, [], ◌∷◌, ◌++◌, length, length-set, get_or, set, replicate, Option, Some, None, is_some, arith, refl, sym, ap, ◌∙◌, inl, inr}
use Rattle.std.proofs.lemmas.Bool.{and_parts, cases_Bool, cases_eq, eq-eqb, ne_eqb}
use Rattle.std.proofs.lemmas.List.{length-replicate, get_or-set_same, get_or-set_other, get_or_default}
use Rattle.std.proofs.lemmas.List.Elements.{All-set}
use Rattle.std.specs.List.{All}
use Rattle.lrc_bits.specs.Flags.{FindsFrom}
use Rattle.lrc_slots.specs.Indexes.{listed, AreSets, same_key}
use Rattle.lrc_slots.proofs.MarkLemmas.{get_or-replicate_same, get_or-set_true, get_or-set_false, or-false, and-true}

-- ---- empty sets

-- copies of a set without an ordinal list it under no key
sets_at : (n l : ℕ) (set : List Bool) (r : ℕ) → get_or set r false ≡ false → listed (replicate n set) l r ≡ false
sets_at zero l set r none = refl
sets_at (suc n) zero set r none = none
sets_at (suc n) (suc l) set r none = sets_at n l set r none

-- new sets list no ordinal
pub none-listed : (n l r : ℕ) → listed (replicate n (replicate 512 false)) l r ≡ false
none-listed n l r = sets_at n l (replicate 512 false) r (get_or-replicate_same 512 r false)

-- what holds for an element holds for each copy
at : {X : Type 0} (P : X → Type 0) (n : ℕ) (x : X) → P x → (k : ℕ) (d : X) → k < n → P (get_or (replicate n x) k d)
at P zero x p k d within = absurd (omega (arith, within))
at P (suc n) x p zero d within = p
at P (suc n) x p (suc k) d within = at P n x p k d (omega (arith, within))

-- the same, for all
all_same : {X : Type 0} (P : X → Type 0) (n : ℕ) (x : X) → P x → All P (replicate n x)
all_same P n x p = λ k d within. at P n x p k d (rw (length-replicate n x) at within)

-- new sets mark no key
pub sets-none : AreSets (replicate 256 (replicate 512 false)) (replicate 256 false)
sets-none = record {
  loads = length-replicate 256 (replicate 512 false);
  ordinals = all_same (λ xs. length xs ≡ 512) 256 (replicate 512 false) (length-replicate 512 false);
  marks = length-replicate 256 false;
  covered = λ l r hit. absurd (let clash : true ≡ false = sym hit ∙ none-listed 256 l r in cc);
  filled = λ l hit. absurd (let clash : true ≡ false = sym hit ∙ get_or-replicate_same 256 l false in cc);
}

-- ---- the keys that are marked

-- adding an ordinal to a set marks its key
pub filled-set : (sets : List (List Bool)) (used : List Bool) (number ordinal : ℕ) (set_there : List Bool) → number < length sets
    → get_or set_there ordinal false ≡ true → ((l : ℕ) → get_or used l false ≡ true → (r : ℕ) × (listed sets l r ≡ true))
    → (l : ℕ) → get_or (set used number true) l false ≡ true → (r : ℕ) × (listed (set sets number set_there) l r ≡ true)
filled-set sets used number ordinal set_there within has filled l hit = elim (cases_eq l number) [
  | inl same ↦ (ordinal, rw (same, get_or-set_same sets number set_there [] within) has)
  | inr other ↦
      let old = filled l (sym (get_or-set_other used number l true false other) ∙ hit) in
      (old.0, rw (get_or-set_other sets number l set_there [] other) old.1)
]

-- ---- one ordinal added or removed

module _ {sets : List (List Bool)} {used : List Bool} (h : AreSets sets used) (load ordinal : ℕ) (low : load < 256) (few : ordinal < 512)
    (x : List Bool) (is_at : x ≡ get_or sets load x) where
  within : load < length sets
  within = let all = h.loads in omega (arith, all, low)

  marked_within : load < length used
  marked_within = let all = h.marks in omega (arith, all, low)

  -- the set of the key has 512 places
  long : length x ≡ 512
  long = ap length is_at ∙ h.ordinals load x within

  inside : ordinal < length x
  inside = omega (arith, long, few)

  -- what is listed under the key is what the set has
  old_here : (r : ℕ) → listed sets load r ≡ get_or x r false
  old_here r = ap (λ (xs : List Bool). get_or xs r false) (sym (is_at ∙ get_or_default sets load x [] within))

  -- a set that has an ordinal is marked
  pub some-marked : (r : ℕ) → get_or x r false ≡ true → get_or used load false ≡ true
  some-marked r has = h.covered load r (old_here r ∙ has)

  module _ (y : List Bool) where
    new_here : (r : ℕ) → listed (set sets load y) load r ≡ get_or y r false
    new_here r = ap (λ (xs : List Bool). get_or xs r false) (get_or-set_same sets load y [] within)

    new_other : (l r : ℕ) → l ≢ load → listed (set sets load y) l r ≡ listed sets l r
    new_other l r other = ap (λ (xs : List Bool). get_or xs r false) (get_or-set_other sets load l y [] other)

    module _ (is : y ≡ set x ordinal true) where
      has : get_or y ordinal false ≡ true
      has = ap (λ (xs : List Bool). get_or xs ordinal false) is ∙ get_or-set_same x ordinal true false inside

      new_long : length y ≡ 512
      new_long = ap length is ∙ (length-set x ordinal true ∙ long)

      -- what is listed with one more
      pub inserted-listed : (l r : ℕ) → listed (set sets load y) l r ≡ (listed sets l r || same_key load ordinal l r)
      inserted-listed l r = elim (cases_eq l load) [
        | inl same ↦ rw (same, new_here r, old_here r, is, get_or-set_true x ordinal r inside, eq-eqb load load refl) refl
        | inr other ↦ rw (new_other l r other, ne_eqb load l (λ e. other (sym e))) (sym (or-false (listed sets l r)))
      ]

      -- the key of the set is marked now
      pub inserted-first : AreSets (set sets load y) (set used load true)
      inserted-first = record {
        loads = length-set sets load y ∙ h.loads;
        ordinals = All-set (λ xs. length xs ≡ 512) sets load y new_long h.ordinals;
        marks = length-set used load true ∙ h.marks;
        covered = λ l r hit. elim (cases_eq l load) [
          | inl same ↦ rw same (get_or-set_same used load true false marked_within)
          | inr other ↦ get_or-set_other used load l true false other ∙ h.covered l r (sym (new_other l r other) ∙ hit)
        ];
        filled = filled-set sets used load ordinal y within has h.filled;
      }

      -- the key of the set was marked before
      pub inserted-more : get_or used load false ≡ true → AreSets (set sets load y) used
      inserted-more marked = record {
        loads = length-set sets load y ∙ h.loads;
        ordinals = All-set (λ xs. length xs ≡ 512) sets load y new_long h.ordinals;
        marks = h.marks;
        covered = λ l r hit. elim (cases_eq l load) [
          | inl same ↦ rw same marked
          | inr other ↦ h.covered l r (sym (new_other l r other) ∙ hit)
        ];
        filled = λ l hit. elim (cases_eq l load) [
          | inl same ↦ (ordinal, rw same (new_here ordinal ∙ has))
          | inr other ↦ let old = h.filled l hit in (old.0, new_other l old.0 other ∙ old.1)
        ];
      }

    module _ (is : y ≡ set x ordinal false) where
      less_long : length y ≡ 512
      less_long = ap length is ∙ (length-set x ordinal false ∙ long)

      kept : (r : ℕ) → get_or y r false ≡ true → get_or x r false ≡ true
      kept r hit =
          let both = sym (ap (λ (xs : List Bool). get_or xs r false) is ∙ get_or-set_false x ordinal r inside) ∙ hit in
          (and_parts (get_or x r false) (not (eqb ordinal r)) both).0

      -- what is listed with one less
      pub removed-listed : (l r : ℕ) → listed (set sets load y) l r ≡ (listed sets l r && not (same_key load ordinal l r))
      removed-listed l r = elim (cases_eq l load) [
        | inl same ↦ rw (same, new_here r, old_here r, is, get_or-set_false x ordinal r inside, eq-eqb load load refl) refl
        | inr other ↦ rw (new_other l r other, ne_eqb load l (λ e. other (sym e))) (sym (and-true (listed sets l r)))
      ]

      -- the set is empty now
      pub removed-last : ((r : ℕ) → get_or y r false ≡ false) → AreSets (set sets load y) (set used load false)
      removed-last none = record {
        loads = length-set sets load y ∙ h.loads;
        ordinals = All-set (λ xs. length xs ≡ 512) sets load y less_long h.ordinals;
        marks = length-set used load false ∙ h.marks;
        covered = λ l r hit. elim (cases_eq l load) [
          | inl same ↦ absurd (let clash : true ≡ false = sym (rw same at hit) ∙ (new_here r ∙ none r) in cc)
          | inr other ↦ get_or-set_other used load l false false other ∙ h.covered l r (sym (new_other l r other) ∙ hit)
        ];
        filled = λ l hit. elim (cases_eq l load) [
          | inl same ↦ absurd (let clash : true ≡ false = sym (rw same at hit) ∙ get_or-set_same used load false false marked_within in cc)
          | inr other ↦
              let old = h.filled l (sym (get_or-set_other used load l false false other) ∙ hit) in
              (old.0, new_other l old.0 other ∙ old.1)
        ];
      }

      -- the set has an ordinal left
      pub removed-one : (r : ℕ) → get_or y r false ≡ true → AreSets (set sets load y) used
      removed-one left left_has = record {
        loads = length-set sets load y ∙ h.loads;
        ordinals = All-set (λ xs. length xs ≡ 512) sets load y less_long h.ordinals;
        marks = h.marks;
        covered = λ l r hit. elim (cases_eq l load) [
          | inl same ↦ rw same (some-marked left (kept left left_has))
          | inr other ↦ h.covered l r (sym (new_other l r other) ∙ hit)
        ];
        filled = λ l hit. elim (cases_eq l load) [
          | inl same ↦ (left, rw same (new_here left ∙ left_has))
          | inr other ↦ let old = h.filled l hit in (old.0, new_other l old.0 other ∙ old.1)
        ];
      }

-- the first marked key has an ordinal
pub some-listed : (sets : List (List Bool)) (used : List Bool) → ((l : ℕ) → get_or used l false ≡ true → (r : ℕ) × (listed sets l r ≡ true))
    → (o : Option ℕ) → FindsFrom used 0 o → is_some o ≡ true → (l r : ℕ) × (listed sets l r ≡ true)
some-listed sets used filled None first some = absurd (cc)
some-listed sets used filled (Some l) first some = let here = filled l first.has in (l, here.0, here.1)

-- one more copy at the end
pub sets-more : (n : ℕ) (set : List Bool) → replicate n set ++ set ∷ [] ≡ replicate (n + 1) set
sets-more n set = rw add-one (more n set) where
  more : (n : ℕ) (set : List Bool) → replicate n set ++ set ∷ [] ≡ replicate (suc n) set
  more zero set = refl
  more (suc n) set = ap (λ xs. set ∷ xs) (more n set)

-- ---- moving an ordinal from one key to another

-- what is removed is gone
gone : (b : Bool) → (b && not (b && true)) ≡ false
gone true = refl
gone false = refl

-- what is not removed stays
here : (b : Bool) → (b && true) ≡ b
here true = refl
here false = refl

module _ (number ordinal : ℕ) (old : ℕ → ℕ → Bool) where
  -- another ordinal has another key pair
  elsewhere : (k r : ℕ) → ordinal ≢ r → same_key number ordinal k r ≡ false
  elsewhere k r differ = rw (ne_eqb ordinal r differ) (off (eqb number k)) where
    off : (b : Bool) → (b && false) ≡ false
    off true = refl
    off false = refl

  -- the ordinal is removed from its key
  pub unlisted : ((k : ℕ) → old k ordinal ≡ eqb number k) → (k r : ℕ)
      → (old k r && not (same_key number ordinal k r)) ≡ cond (eqb ordinal r) false (old k r)
  unlisted shown k r = elim (cases_eq ordinal r) [
    | inl same ↦ rw (← same, shown k, eq-eqb ordinal ordinal refl) (gone (eqb number k))
    | inr differ ↦ rw (elsewhere k r differ, ne_eqb ordinal r differ) (and-true (old k r))
  ]

  -- the ordinal is added to a key
  pub enlisted : ((k : ℕ) → old k ordinal ≡ false) → (k r : ℕ)
      → (old k r || same_key number ordinal k r) ≡ cond (eqb ordinal r) (eqb number k) (old k r)
  enlisted none k r = elim (cases_eq ordinal r) [
    | inl same ↦ rw (← same, none k, eq-eqb ordinal ordinal refl) (here (eqb number k))
    | inr differ ↦ rw (elsewhere k r differ, ne_eqb ordinal r differ) (or-false (old k r))
  ]

-- removing nothing keeps an unlisted ordinal unlisted
pub unlisted-none : (ordinal : ℕ) (old : ℕ → ℕ → Bool) → ((k : ℕ) → old k ordinal ≡ false) → (k r : ℕ)
    → old k r ≡ cond (eqb ordinal r) false (old k r)
unlisted-none ordinal old none k r = elim (cases_eq ordinal r) [
  | inl same ↦ rw (eq-eqb ordinal r same, ← same) (none k)
  | inr differ ↦ rw (ne_eqb ordinal r differ) refl
]

-- removed from one load, and added to another
pub moved-twice : (ordinal : ℕ) (old mid new listing : ℕ → ℕ → Bool) → ((k r : ℕ) → mid k r ≡ cond (eqb ordinal r) false (old k r))
    → ((k r : ℕ) → new k r ≡ cond (eqb ordinal r) (listing k r) (mid k r))
    → (k r : ℕ) → new k r ≡ cond (eqb ordinal r) (listing k r) (old k r)
moved-twice ordinal old mid new listing first second k r = elim (cases_Bool (eqb ordinal r)) [
  | inl same ↦ rw (second k r, same) refl
  | inr other ↦ rw (second k r, first k r, other) refl
]

-- an ordinal that was removed is not listed
pub unlisted-ordinal : (ordinal : ℕ) (old new : ℕ → ℕ → Bool) → ((k r : ℕ) → new k r ≡ cond (eqb ordinal r) false (old k r)) → (k : ℕ)
    → new k ordinal ≡ false
unlisted-ordinal ordinal old new moved k = moved k ordinal ∙ rw (eq-eqb ordinal ordinal refl) refl
