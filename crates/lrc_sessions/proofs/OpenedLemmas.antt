-- The sessions that were opened are all sessions of their manager, and still are after they ran scripts.
use Rattle.std.proofs.Common.{◌≡◌, ℕ, zero, suc, ◌+◌, ◌<◌, ◌≤◌, ◌==◌, nat_le, List, [], ◌∷◌, length, get_or, Vec, Global, Result, Ok, Err, IfOk, IfErr, refl, sym, ap, subst, ◌∙◌, arith}
use Rattle.std.proofs.lemmas.List.Sums.{sum_by-append, sum_by-cons}
use Rattle.std.proofs.lemmas.Bool.Decides.{nat_tests}
use Rattle.std.proofs.lemmas.List.FromFn.{length-map-range_with_len}
use Rattle.lrc_code.specs.declared.fault.Fault.{Fault}
use Rattle.lrc_code.specs.declared.fault.Fault.TheVariants as fault
use Rattle.lrc_rules.specs.declared.command.Command.{Command}
use Rattle.lrc_sessions.specs.declared.track.Track.{Track}
use Rattle.lrc_sessions.specs.Views.{SessionView, fresh}
use Rattle.lrc_sessions.specs.Counts.{times, AreAll}
use Rattle.lrc_sessions.specs.Runs.{AreRun}
use Rattle.lrc_sessions.proofs.Counting.{only, fresh_push}
use Rattle.lrc_sessions.proofs.RunLemmas.{some_of}

-- only the numbers matter for how often each is there
same_times : (k : ℕ) (ss ts : List SessionView) → length ss ≡ length ts
    → ((i : ℕ) (s t : SessionView) → i < length ss → (get_or ss i s).number ≡ (get_or ts i t).number) → times k ss ≡ times k ts
same_times k [] [] len same = refl
same_times k [] (t ∷ ts) len same = absurd (omega (arith, len))
same_times k (s ∷ ss) [] len same = absurd (omega (arith, len))
same_times k (s ∷ ss) (t ∷ ts) len same =
    let one : s.number ≡ t.number = same 0 s t (omega arith) in
    let more = same_times k ss ts (omega (arith, len)) (λ i a b low. same (suc i) a b (omega arith)) in
    sum_by-cons (λ (x : SessionView). only (x.number == k) 1) s ss ∙ ap (λ n. only (n == k) 1 + times k ss) one
    ∙ ap (λ n. only (t.number == k) 1 + n) more ∙ sym (sum_by-cons (λ (x : SessionView). only (x.number == k) 1) t ts)

abbrev last : ℕ → SessionView
last b = record { number = b + 1; made = 0; seen = [] }

none_below : (k : ℕ) → 1 ≤ k → 0 ≡ only (nat_le k 0) 1
none_below k low = grind (arith, nat_tests)

one_more : (k b : ℕ) → 1 ≤ k → only (nat_le k b) 1 + (0 + only (b + 1 == k) 1) ≡ only (nat_le k (b + 1)) 1
one_more k b low = grind (arith, nat_tests)

fresh_next : (k b : ℕ) → 1 ≤ k → times k (fresh b) ≡ only (nat_le k b) 1 → times k (fresh (b + 1)) ≡ only (nat_le k (b + 1)) 1
fresh_next k b low so_far =
    sym (ap (times k) (fresh_push b (fresh b) (last b) refl refl))
    ∙ sum_by-append (λ (x : SessionView). only (x.number == k) 1) (fresh b) (last b ∷ [])
    ∙ ap (λ n. n + (0 + only (b + 1 == k) 1)) so_far ∙ one_more k b low

fresh_times : (k b : ℕ) → 1 ≤ k → times k (fresh b) ≡ only (nat_le k b) 1
fresh_times k zero low = none_below k low
fresh_times k (suc b) low = let next : b + 1 ≡ suc b = omega arith in subst (λ n. times k (fresh n) ≡ only (nat_le k n) 1) next (fresh_next k b low (fresh_times k b low))

-- the sessions that were just opened are all
pub all_fresh : (count : ℕ) → AreAll count (fresh count)
all_fresh count k low high = fresh_times k count low

-- sessions that are all still are after they ran scripts
pub all_ran : {Z : Type 0} (count limit most : ℕ) (may_stop : Type 0) (passes : ℕ → ℕ → Type 0) (scripts : List (Vec Command Z)) (before after : List SessionView) (tracks : List Track)
    → AreAll count before → length before ≡ length scripts → AreRun limit most may_stop passes scripts before after tracks → AreAll count after
all_ran count limit most may_stop passes scripts before after tracks all len ran k low high =
    same_times k after before (ran.0 ∙ sym len)
    (λ i a b within.
    let below : i < length scripts = omega (arith, within, ran.0) in
    (ran.2 i (some_of scripts i below) b a (some_of tracks i (omega (arith, below, ran.1))) below).0.0)
    ∙ all k low high

pub length_fresh : (count : ℕ) → length (fresh count) ≡ count
length_fresh count = length-map-range_with_len (λ (k : ℕ). record { number = k; made = 0; seen = [] }) 1 count

-- the same if the run had no memory
pub all_left : {Z : Type 0} (count limit most : ℕ) (may_stop : Type 0) (passes : ℕ → ℕ → Type 0) (scripts : List (Vec Command Z)) (before after : Vec SessionView Global)
    (ran : Result (Vec Track Global) Fault)
    → before.items ≡ fresh count → length before.items ≡ length scripts
    → IfOk ran (λ tracks. AreRun limit most may_stop passes scripts before.items after.items tracks.items)
    → IfErr ran (λ e. (e ≡ fault.OutOfMemory) × (after ≡ before)) → AreAll count after.items
all_left count limit most may_stop passes scripts before after ran is len ok err = left ran ok err
  where
    all : AreAll count before.items
    all = subst (AreAll count) (sym is) (all_fresh count)

    left : (r : Result (Vec Track Global) Fault) → IfOk r (λ tracks. AreRun limit most may_stop passes scripts before.items after.items tracks.items)
        → IfErr r (λ e. (e ≡ fault.OutOfMemory) × (after ≡ before)) → AreAll count after.items
    left (Ok tracks) ok err = all_ran count limit most may_stop passes scripts before.items after.items tracks.items all len ok
    left (Err e) ok err = subst (AreAll count) (ap (λ v. v.items) (sym err.1)) all
