-- Sessions that were opened and kept their numbers are all sessions of their manager.
use Rattle.std.proofs.Common.{◌≡◌, ℕ, suc, ◌<◌, ◌==◌, ◌+◌, cond, List, [], ◌∷◌, length, map, get_or, refl, sym, ap, ◌∙◌, arith}
use Rattle.std.proofs.lemmas.List.Sums.{sum_by-cons}
use Rattle.lrc_sessions.specs.Views.{SessionView, fresh}
use Rattle.lrc_sessions.specs.Counts.{times, AreAll}
use Rattle.lrc_sessions.proofs.OpenedLemmas.{all_fresh}

-- one session more
times_more : (k : ℕ) (s : SessionView) (ss : List SessionView) → times k (s ∷ ss) ≡ cond (s.number == k) 1 0 + times k ss
times_more k s ss = sum_by-cons (λ (x : SessionView). cond (x.number == k) 1 0) s ss

-- only the numbers matter for how often each is there
same_times : {W : Type 0} (session : W → SessionView) (k : ℕ) (old new : List W) → length new ≡ length old
    → ((i : ℕ) (w : W) → i < length old → (session (get_or new i w)).number ≡ (session (get_or old i w)).number)
    → times k (map session new) ≡ times k (map session old)
same_times session k [] [] len same = refl
same_times session k [] (n ∷ new) len same = absurd (omega (arith, len))
same_times session k (o ∷ old) [] len same = absurd (omega (arith, len))
same_times session k (o ∷ old) (n ∷ new) len same =
    let one : (session n).number ≡ (session o).number = same 0 n (omega arith) in
    let more = same_times session k old new (omega (arith, len)) (λ i w low. same (suc i) w (omega arith)) in
    times_more k (session n) (map session new) ∙ ap (λ j. cond (j == k) 1 0 + times k (map session new)) one
    ∙ ap (λ j. cond ((session o).number == k) 1 0 + j) more ∙ sym (times_more k (session o) (map session old))

pub all_same : {W : Type 0} (session : W → SessionView) (count : ℕ) (old new : List W) → length new ≡ length old
    → ((i : ℕ) (w : W) → i < length old → (session (get_or new i w)).number ≡ (session (get_or old i w)).number)
    → map session old ≡ fresh count → AreAll count (map session new)
all_same session count old new len same opened k low high =
    same_times session k old new len same ∙ ap (times k) opened ∙ all_fresh count k low high
