-- Rows by the stripes' numbers, and the queues that follow from them.
use Rattle.std.proofs.Common.{◌≡◌, not, ℕ, zero, suc, ◌<◌, inl, inr, Bool, true, false, cond, ◌&&◌, ◌||◌, nat_lt, List, length, get_or, set, replicate, Option, Some, None, is_some, option_and_then, arith, refl, sym, ap, ap₂, ◌∙◌, nat_eq}
use Rattle.std.proofs.Math.Path.{fun_ext}
use Rattle.std.proofs.Math.ListN.{length-set}
use Rattle.std.proofs.lemmas.Option.{same_Some}
use Rattle.std.proofs.lemmas.Bool.{cases_eq, cases_lt, eq-eqb, ne_eqb, eqb-true, cases_Bool, lt-ltb, le-ltb, not-false}
use Rattle.std.proofs.lemmas.List.{length-replicate, get_or-set_same, get_or-set_other}
use Rattle.lrc_code.specs.declared.numbers.StripeNo.{StripeNo}
use Rattle.lrc_code.specs.declared.codes.Code.{Code}
use Rattle.lrc_code.specs.Losses.{FragmentSet, joined, bits_set}
use Rattle.lrc_code.specs.Numbers.{same_stripe}
use Rattle.lrc_code.proofs.NumbersLemmas.{equal_stripes}
use Rattle.lrc_rows.specs.declared.row.Row.{Row}
use Rattle.lrc_ranks.specs.declared.planes.Planes.{Planes}
use Rattle.lrc_ranks.specs.Missing.{code_by, fragments_at, rank_with}
use Rattle.lrc_ranks.specs.Sets.{at_rank, at_fragment, has}
use Rattle.lrc_rows.specs.Listed.{rows_in}
use Rattle.lrc_homes.specs.Masks.{renewed}
use Rattle.lrc_terms.specs.Levels.{rank_by}
use Rattle.lrc_homes.specs.Upgrading.{missing_with, work_rank_with}
use Rattle.lrc_ranks.specs.Ranks.{is_at}
use Rattle.lrc_rows.specs.Kept.{AreQueued, ArePlaned, is_planed, is_in_upgrade, needs_of, ranked, row_has_work}
use Rattle.lrc_code.specs.declared.codes.Code.TheVariants.{Wide, Narrow}

-- ---- no rows

abbrev no_row : Option Row
no_row = None

none_at : (n i : ℕ) → get_or (replicate n no_row) i None ≡ None
none_at zero i = refl
none_at (suc n) zero = refl
none_at (suc n) (suc i) = none_at n i

pub rows_in-none : (list : List (Option Row)) (n : ℕ) → list ≡ replicate n None → rows_in list ≡ (λ s. None)
rows_in-none list n is = ap rows_in is ∙ fun_ext (λ s. none_at n s.value)

ranked-none : (upgrading : List Bool) (rows : StripeNo → Option Row) → rows ≡ (λ s. None) → (λ (k : ℕ) (s : StripeNo). false) ≡ ranked upgrading rows
ranked-none upgrading rows none = fun_ext (λ k. fun_ext (λ s. ap (λ (r : StripeNo → Option Row). ranked upgrading r k s) (sym none)))

zero_at : (n i : ℕ) → ◌≡◌ {A = ℕ} (get_or (replicate n 0) i 0) 0
zero_at zero i = refl
zero_at (suc n) zero = refl
zero_at (suc n) (suc i) = zero_at n i

pub are_queued-none : (list : List (Option Row)) (upgrading : List Bool) (needs : List ℕ) (n : ℕ) (there : List Bool) (work : List (List Bool)) (planes : Planes) → n ≡ 4096 → list ≡ replicate n None
    → needs ≡ replicate n 0 → has there ≡ (λ s. false) → at_rank work ≡ (λ k s. false) → has planes.work ≡ (λ s. false) → at_fragment planes.missing ≡ (λ f s. false) → AreQueued list upgrading needs there work planes
are_queued-none list upgrading needs n there work planes all is zeros no_there no_work none_with none_missing = record {
  long = ap length is ∙ (length-replicate n no_row ∙ all);
  needs_long = ap length zeros ∙ (length-replicate n 0 ∙ all);
  needed = λ s. rw zeros (zero_at n s.value) ∙ sym (ap needs_of (ap (λ (f : StripeNo → Option Row). f s) (rows_in-none list n is)));
  present = no_there ∙ fun_ext (λ s. ap (λ (rows : StripeNo → Option Row). is_some (rows s)) (sym (rows_in-none list n is)));
  works = no_work ∙ ranked-none upgrading (rows_in list) (rows_in-none list n is);
  planed = record {
    work = none_with ∙ fun_ext (λ s. ap (λ (rows : StripeNo → Option Row). row_has_work (rows s)) (sym (rows_in-none list n is)));
    missing = λ f s low. ap (λ (m : ℕ → StripeNo → Bool). m f s) none_missing ∙ ap (λ (rows : StripeNo → Option Row). is_planed f (rows s)) (sym (rows_in-none list n is));
    narrow = λ s r found. absurd (let clash : None ≡ Some r = sym (ap (λ (rows : StripeNo → Option Row). rows s) (rows_in-none list n is)) ∙ found in cc);
  };
}

-- ---- one row

-- the rank of a row where the upgrade domains of the set are upgrading
abbrev pub rank_of_row : List Bool → Row → Option ℕ
rank_of_row upgrading r = work_rank_with upgrading r.homes r.domains r.losses

module _ (list : List (Option Row)) (stripe : StripeNo) (row : Option Row) (within : stripe.value < length list) where
  rows_at-set : (s : StripeNo) → rows_in (set list stripe.value row) s ≡ cond (same_stripe stripe s) row (rows_in list s)
  rows_at-set s = elim (cases_eq s.value stripe.value) [
    | inl same ↦
        ap (λ n. get_or (set list stripe.value row) n None) same ∙ (get_or-set_same list stripe.value row None within
        ∙ ap (λ b. cond b row (rows_in list s)) (sym (eq-eqb stripe.value s.value (sym same))))
    | inr other ↦
        get_or-set_other list stripe.value s.value row None other
        ∙ ap (λ b. cond b row (rows_in list s)) (sym (ne_eqb stripe.value s.value (λ e. other (sym e))))
  ]

  pub rows_in-set : rows_in (set list stripe.value row) ≡ (λ s. cond (same_stripe stripe s) row (rows_in list s))
  rows_in-set = fun_ext rows_at-set

  -- the queue where the stripe has moved to its row's rank
  ranked-set : (upgrading : List Bool) (old new : ℕ → StripeNo → Bool) (after : Option ℕ) → old ≡ ranked upgrading (rows_in list)
      → after ≡ option_and_then (rank_of_row upgrading) row → new ≡ (λ k s. cond (same_stripe stripe s) (is_at k after) (old k s))
      → new ≡ ranked upgrading (rows_in (set list stripe.value row))
  ranked-set upgrading old new after was is moved = moved ∙ fun_ext (λ k. fun_ext (λ s. by k s (same_stripe stripe s) refl)) where
    by : (k : ℕ) (s : StripeNo) (b : Bool) → same_stripe stripe s ≡ b → cond (same_stripe stripe s) (is_at k after) (old k s) ≡ ranked upgrading (rows_in (set list stripe.value row)) k s
    by k s true same =
        ap (λ b. cond b (is_at k after) (old k s)) same
        ∙ (ap (is_at k) is ∙ ap (λ (o : Option Row). is_at k (option_and_then (rank_of_row upgrading) o)) (sym (rows_at-set s ∙ ap (λ b. cond b row (rows_in list s)) same)))
    by k s false other =
        ap (λ b. cond b (is_at k after) (old k s)) other
        ∙ (ap (λ (q : ℕ → StripeNo → Bool). q k s) was
        ∙ ap (λ (o : Option Row). is_at k (option_and_then (rank_of_row upgrading) o)) (sym (rows_at-set s ∙ ap (λ b. cond b row (rows_in list s)) other)))

  needed-set : (needs : List ℕ) (bits : ℕ) → stripe.value < length needs → ((s : StripeNo) → get_or needs s.value 0 ≡ needs_of (rows_in list s)) → bits ≡ needs_of row
      → (s : StripeNo) → get_or (set needs stripe.value bits) s.value 0 ≡ needs_of (rows_in (set list stripe.value row) s)
  needed-set needs bits inside before is s = elim (cases_eq s.value stripe.value) [
    | inl same ↦
        ap (λ n. get_or (set needs stripe.value bits) n 0) same ∙ (get_or-set_same needs stripe.value bits 0 inside
        ∙ (is ∙ sym (ap needs_of (rows_at-set s ∙ ap (λ b. cond b row (rows_in list s)) (eq-eqb stripe.value s.value (sym same))))))
    | inr other ↦
        get_or-set_other needs stripe.value s.value bits 0 other
        ∙ (before s ∙ sym (ap needs_of (rows_at-set s ∙ ap (λ b. cond b row (rows_in list s)) (ne_eqb stripe.value s.value (λ e. other (sym e))))))
  ]

  -- the set after the stripe is added or removed
  pub present-set : (old new : List Bool) (is_there : Bool) → has old ≡ (λ s. is_some (rows_in list s)) → is_there ≡ is_some row
      → has new ≡ (λ s. cond (same_stripe stripe s) is_there (has old s)) → has new ≡ (λ s. is_some (rows_in (set list stripe.value row) s))
  present-set old new is_there was is moved = moved ∙ fun_ext (λ s.
      ap (λ (f : StripeNo → Bool). cond (same_stripe stripe s) is_there (f s)) was
      ∙ (ap (λ b. cond (same_stripe stripe s) b (is_some (rows_in list s))) is
      ∙ (either (same_stripe stripe s) (rows_in list s) ∙ sym (ap (λ (o : Option Row). is_some o) (rows_at-set s))))) where
        either : (b : Bool) (o : Option Row) → cond b (is_some row) (is_some o) ≡ is_some (cond b row o)
        either true o = refl
        either false o = refl

  -- the set of the stripes that are there stays where one row becomes another
  pub present-same : (there : List Bool) → has there ≡ (λ s. is_some (rows_in list s)) → is_some row ≡ is_some (rows_in list stripe)
      → has there ≡ (λ s. is_some (rows_in (set list stripe.value row) s))
  present-same there was same = present-set there there (is_some row) was refl (fun_ext (λ s. elim (cases_eq stripe.value s.value) [
    | inl here ↦
        ap (λ (f : StripeNo → Bool). f s) was
        ∙ (ap (λ (x : StripeNo). is_some (rows_in list x)) (sym (equal_stripes stripe s here)) ∙ (sym same ∙ ap (λ b. cond b (is_some row) (has there s)) (sym (eq-eqb stripe.value s.value here))))
    | inr other ↦ ap (λ b. cond b (is_some row) (has there s)) (sym (ne_eqb stripe.value s.value other))
  ]))

  -- the row that a stripe has now
  own-row : (s : StripeNo) → same_stripe stripe s ≡ true → rows_in (set list stripe.value row) s ≡ row
  own-row s same = rows_at-set s ∙ ap (λ b. cond b row (rows_in list s)) same

  other-row : (s : StripeNo) → same_stripe stripe s ≡ false → rows_in (set list stripe.value row) s ≡ rows_in list s
  other-row s other = rows_at-set s ∙ ap (λ b. cond b row (rows_in list s)) other

  -- the planes where they have the fragments of this row
  pub planed-set : (planes next : Planes) (after : ℕ) (with_work : Bool) → ArePlaned (rows_in list) planes → ((f : ℕ) → bits_set after f ≡ is_planed f row) → with_work ≡ row_has_work row
      → ((f : ℕ) (s : StripeNo) → f < 16 → at_fragment next.missing f s ≡ cond (same_stripe stripe s) (bits_set after f) (at_fragment planes.missing f s))
      → has next.work ≡ (λ s. cond (same_stripe stripe s) with_work (has planes.work s)) → ((r : Row) → row ≡ Some r → code_by next.narrow stripe ≡ r.losses.code)
      → ((s : StripeNo) → same_stripe stripe s ≡ false → has next.narrow s ≡ has planes.narrow s) → ArePlaned (rows_in (set list stripe.value row)) next
  planed-set planes next after with_work are each with missing work own others = record {
    work = work ∙ fun_ext (λ s. elim (cases_Bool (same_stripe stripe s)) [
      | inl same ↦ ap (λ b. cond b with_work (has planes.work s)) same ∙ (with ∙ ap row_has_work (sym (own-row s same)))
      | inr other ↦ ap (λ b. cond b with_work (has planes.work s)) other ∙ (ap (λ (f : StripeNo → Bool). f s) are.work ∙ ap row_has_work (sym (other-row s other)))
    ]);
    missing = λ f s low. missing f s low ∙ (elim (cases_Bool (same_stripe stripe s)) [
      | inl same ↦ ap (λ b. cond b (bits_set after f) (at_fragment planes.missing f s)) same ∙ (each f ∙ ap (is_planed f) (sym (own-row s same)))
      | inr other ↦ ap (λ b. cond b (bits_set after f) (at_fragment planes.missing f s)) other ∙ (are.missing f s low ∙ ap (is_planed f) (sym (other-row s other)))
    ]);
    narrow = λ s r found. elim (cases_Bool (same_stripe stripe s)) [
      | inl same ↦ ap (code_by next.narrow) (sym (equal_stripes stripe s (eqb-true stripe.value s.value same))) ∙ own r (sym (own-row s same) ∙ found)
      | inr other ↦ ap (λ (b : Bool). let c : Code = cond b Narrow Wide in c) (others s other) ∙ are.narrow s r (sym (other-row s other) ∙ found)
    ];
  }

  -- the same where the code stays
  pub planed-kept : (planes next : Planes) (after : ℕ) (with_work : Bool) → ArePlaned (rows_in list) planes → ((f : ℕ) → bits_set after f ≡ is_planed f row) → with_work ≡ row_has_work row
      → ((f : ℕ) (s : StripeNo) → f < 16 → at_fragment next.missing f s ≡ cond (same_stripe stripe s) (bits_set after f) (at_fragment planes.missing f s))
      → has next.work ≡ (λ s. cond (same_stripe stripe s) with_work (has planes.work s)) → next.narrow ≡ planes.narrow
      → ((q : Row) → row ≡ Some q → (r : Row) × (rows_in list stripe ≡ Some r) × (q.losses.code ≡ r.losses.code)) → ArePlaned (rows_in (set list stripe.value row)) next
  planed-kept planes next after with_work are each with missing work narrow coded = planed-set planes next after with_work are each with missing work
      (λ q is. let (r, found, same) = coded q is in ap (λ (n : List Bool). code_by n stripe) narrow ∙ (are.narrow stripe r found ∙ sym same))
      (λ s other. ap (λ (n : List Bool). has n s) narrow)

  -- the same where the row is new
  pub planed-added : (r : Row) → row ≡ Some r → (planes next : Planes) (after : ℕ) (with_work : Bool) → ArePlaned (rows_in list) planes → ((f : ℕ) → bits_set after f ≡ is_planed f row) → with_work ≡ row_has_work row
      → ((f : ℕ) (s : StripeNo) → f < 16 → at_fragment next.missing f s ≡ cond (same_stripe stripe s) (bits_set after f) (at_fragment planes.missing f s))
      → has next.work ≡ (λ s. cond (same_stripe stripe s) with_work (has planes.work s)) → (narrows : List Bool) → next.narrow ≡ narrows → (is_narrow : Bool) → (let c : Code = cond is_narrow Narrow Wide in c) ≡ r.losses.code
      → has narrows ≡ (λ s. cond (same_stripe stripe s) is_narrow (has planes.narrow s)) → ArePlaned (rows_in (set list stripe.value row)) next
  planed-added r there planes next after with_work are each with missing work narrows same is_narrow coded moved = planed-set planes next after with_work are each with missing work
      (λ q is.
      ap (λ (b : Bool). let c : Code = cond b Narrow Wide in c)
      (ap (λ (n : List Bool). has n stripe) same ∙ (ap (λ (f : StripeNo → Bool). f stripe) moved ∙ ap (λ b. cond b is_narrow (has planes.narrow stripe)) (eq-eqb stripe.value stripe.value refl)))
      ∙ (coded ∙ ap (λ (x : Row). x.losses.code) (same_Some r q (sym there ∙ is))))
      (λ s other. ap (λ (n : List Bool). has n s) same ∙ (ap (λ (f : StripeNo → Bool). f s) moved ∙ ap (λ b. cond b is_narrow (has planes.narrow s)) other))

  pub are_queued-set : (upgrading : List Bool) (needs : List ℕ) (bits : ℕ) (there new_there : List Bool) (work new_work : List (List Bool)) (planes next : Planes) (after : Option ℕ) → AreQueued list upgrading needs there work planes → ArePlaned (rows_in (set list stripe.value row)) next
      → has new_there ≡ (λ s. is_some (rows_in (set list stripe.value row) s)) → bits ≡ needs_of row → after ≡ option_and_then (rank_of_row upgrading) row
      → at_rank new_work ≡ (λ k s. cond (same_stripe stripe s) (is_at k after) (at_rank work k s))
      → AreQueued (set list stripe.value row) upgrading (set needs stripe.value bits) new_there new_work next
  are_queued-set upgrading needs bits there new_there work new_work planes next after are planed now bits_are is moved = record {
    long = length-set list stripe.value row ∙ are.long;
    needs_long = length-set needs stripe.value bits ∙ are.needs_long;
    needed = needed-set needs bits (let low = stripe.in_range in let all = are.needs_long in omega (arith, low, all)) are.needed bits_are;
    present = now;
    works = ranked-set upgrading (at_rank work) (at_rank new_work) after are.works is moved;
    planed = planed;
  }

  -- the same where the fragments that need a lease stay
  pub are_queued-same : (upgrading : List Bool) (needs : List ℕ) (there : List Bool) (work new_work : List (List Bool)) (planes next : Planes) (after : Option ℕ) → AreQueued list upgrading needs there work planes → ArePlaned (rows_in (set list stripe.value row)) next
      → is_some row ≡ is_some (rows_in list stripe) → needs_of row ≡ needs_of (rows_in list stripe) → after ≡ option_and_then (rank_of_row upgrading) row
      → at_rank new_work ≡ (λ k s. cond (same_stripe stripe s) (is_at k after) (at_rank work k s))
      → AreQueued (set list stripe.value row) upgrading needs there new_work next
  are_queued-same upgrading needs there work new_work planes next after are planed is_there same is moved = record {
    long = length-set list stripe.value row ∙ are.long;
    needs_long = are.needs_long;
    needed = λ s. are.needed s ∙ elim (cases_eq stripe.value s.value) [
      | inl here ↦
          ap (λ (n : ℕ). needs_of (get_or list n None)) (sym here)
          ∙ (sym same ∙ sym (ap needs_of (rows_at-set s ∙ ap (λ b. cond b row (rows_in list s)) (eq-eqb stripe.value s.value here))))
      | inr other ↦ sym (ap needs_of (rows_at-set s ∙ ap (λ b. cond b row (rows_in list s)) (ne_eqb stripe.value s.value other)))
    ];
    present = present-same there are.present is_there;
    works = ranked-set upgrading (at_rank work) (at_rank new_work) after are.works is moved;
    planed = planed;
  }

-- the rank depends on the sixteen fragments alone
rank-cut : (code : Code) (m : FragmentSet) → rank_by code m ≡ rank_by code (λ f. cond (nat_lt f 16) (m f) false)
unfolding rank_by
rank-cut Wide m = refl
rank-cut Narrow m = refl

rank-same : (code : Code) (m n : FragmentSet) → ((f : ℕ) → f < 16 → m f ≡ n f) → rank_by code m ≡ rank_by code n
rank-same code m n same = rank-cut code m ∙ (ap (rank_by code) (fun_ext (λ f. elim (cases_lt f 16) [
  | inl low ↦ ap (λ (b : Bool). cond b (m f) false) (lt-ltb f 16 low) ∙ (same f low ∙ sym (ap (λ (b : Bool). cond b (n f) false) (lt-ltb f 16 low)))
  | inr high ↦ ap (λ (b : Bool). cond b (m f) false) (le-ltb f 16 high) ∙ sym (ap (λ (b : Bool). cond b (n f) false) (le-ltb f 16 high))
])) ∙ sym (rank-cut code n))

-- other domains are upgrading, and the ranks are made from the planes
pub are_queued-upgrading : (list : List (Option Row)) (upgrading next : List Bool) (needs : List ℕ) (there : List Bool) (work new_work : List (List Bool)) (planes : Planes) → AreQueued list upgrading needs there work planes
    → (more : List (List Bool)) → ((f : ℕ) (s : StripeNo) → f < 16 → at_fragment more f s ≡ (has planes.work s && is_in_upgrade next f (rows_in list s)))
    → at_rank new_work ≡ (λ k s. has planes.work s && nat_eq (rank_with planes.narrow planes.missing more s) k) → AreQueued list next needs there new_work planes
are_queued-upgrading list upgrading next needs there work new_work planes are more each renewed = record {
  long = are.long;
  needs_long = are.needs_long;
  needed = are.needed;
  present = are.present;
  works = renewed ∙ fun_ext (λ k. fun_ext (λ s. by k s (rows_in list s) refl));
  planed = are.planed;
} where
  has_work : (s : StripeNo) (o : Option Row) → rows_in list s ≡ o → has planes.work s ≡ row_has_work o
  has_work s o at = ap (λ (f : StripeNo → Bool). f s) are.planed.work ∙ ap row_has_work at

  by : (k : ℕ) (s : StripeNo) (o : Option Row) → rows_in list s ≡ o → (has planes.work s && nat_eq (rank_with planes.narrow planes.missing more s) k) ≡ ranked next (rows_in list) k s
  by k s None at =
      ap (λ (b : Bool). b && nat_eq (rank_with planes.narrow planes.missing more s) k) (has_work s None at) ∙ sym (ap (λ (o : Option Row). is_at k (option_and_then (rank_of_row next) o)) at)
  by k s (Some r) at = work-or-not (nat_eq r.losses.needs.bits 0) refl where
    work-or-not : (b : Bool) → nat_eq r.losses.needs.bits 0 ≡ b → (has planes.work s && nat_eq (rank_with planes.narrow planes.missing more s) k) ≡ ranked next (rows_in list) k s
    work-or-not true none =
        ap (λ (b : Bool). b && nat_eq (rank_with planes.narrow planes.missing more s) k) (has_work s (Some r) at ∙ ap not none)
        ∙ sym (ap (λ (o : Option Row). is_at k (option_and_then (rank_of_row next) o)) at ∙ rw none refl)
    work-or-not false some =
        let on : has planes.work s ≡ true = has_work s (Some r) at ∙ ap not some in
        let same : (f : ℕ) → f < 16 → (at_fragment planes.missing f s || at_fragment more f s) ≡ missing_with next r.homes r.domains r.losses f = λ f low.
        ap₂ (λ (a b : Bool). a || b)
        (are.planed.missing f s low ∙ (ap (is_planed f) at ∙ ap (λ (b : Bool). not b && bits_set r.losses.missing.bits f) some))
        (each f s low ∙ (ap (λ (b : Bool). b && is_in_upgrade next f (rows_in list s)) on ∙ ap (is_in_upgrade next f) at)) in
        ap (λ (b : Bool). b && nat_eq (rank_with planes.narrow planes.missing more s) k) on
        ∙ (ap (λ (n : ℕ). nat_eq n k)
        (ap (λ (c : Code). rank_by c (joined (fragments_at planes.missing s) (fragments_at more s))) (are.planed.narrow s r at)
        ∙ rank-same r.losses.code (joined (fragments_at planes.missing s) (fragments_at more s)) (missing_with next r.homes r.domains r.losses) same)
        ∙ sym (ap (λ (o : Option Row). is_at k (option_and_then (rank_of_row next) o)) at ∙ rw some refl))

-- without work no rank depends on which domains are upgrading
pub are_queued-idle : (list : List (Option Row)) (upgrading next : List Bool) (needs : List ℕ) (there : List Bool) (work : List (List Bool)) (planes : Planes)
    → AreQueued list upgrading needs there work planes → ((s : StripeNo) → row_has_work (rows_in list s) ≡ false) → AreQueued list next needs there work planes
are_queued-idle list upgrading next needs there work planes are idle = record {
  long = are.long;
  needs_long = are.needs_long;
  needed = are.needed;
  present = are.present;
  works = are.works ∙ fun_ext (λ k. fun_ext (λ s. same k (rows_in list s) (idle s)));
  planed = are.planed;
} where
  same : (k : ℕ) (o : Option Row) → row_has_work o ≡ false → is_at k (option_and_then (rank_of_row upgrading) o) ≡ is_at k (option_and_then (rank_of_row next) o)
  same k None idle_row = refl
  same k (Some r) idle_row = let none : nat_eq r.losses.needs.bits 0 ≡ true = not-false (nat_eq r.losses.needs.bits 0) idle_row in rw none refl
