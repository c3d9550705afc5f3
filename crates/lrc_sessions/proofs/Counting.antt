-- Counts of sessions by number.
use Rattle.std.proofs.Common.{◌≡◌, ℕ, ◌+◌, ◌<◌, ◌≤◌, ◌==◌, Bool, true, false, cond, List, [], ◌∷◌, ◌++◌, refl, sym, ◌∙◌, arith, nat_le}
use Rattle.std.proofs.lemmas.List.Sums.{sum_by-append, sum_by-cons}
use Rattle.std.proofs.lemmas.List.FromFn.{map-range_with_len_more}
use Rattle.std.proofs.lemmas.Bool.Decides.{nat_tests}
use Rattle.lrc_sessions.specs.Views.{SessionView, fresh}
use Rattle.lrc_sessions.specs.Counts.{times, made_of, counts_of, total_made, AreAll}

-- x where the test passes, and else 0
abbrev pub only : Bool → ℕ → ℕ
only b x = cond b x 0

pub le_true : (j count : ℕ) → j ≤ count → only (nat_le j count) 1 ≡ 1
le_true j count h = grind (arith, nat_tests)

pub ne_made : (b j m : ℕ) → b < j → only (b == j) m ≡ 0
ne_made b j m h = grind (arith, nat_tests)

pub same_true : (b m : ℕ) → only (b == b) m ≡ m
same_true b m = grind (arith, nat_tests)

pub all_at : (count : ℕ) (ss : List SessionView) → AreAll count ss → count ≤ 8 → (j : ℕ) → 0 < j → j ≤ count → times j ss ≡ 1
all_at count ss all le j low high = all j (omega arith) (omega arith) ∙ le_true j count high

none_made_step : (k : ℕ) (s : SessionView) (ss : List SessionView) → (times k ss ≡ 0 → made_of k ss ≡ 0) → (b : Bool) → (s.number == k) ≡ b
    → only (s.number == k) 1 + times k ss ≡ 0 → only (s.number == k) s.made + made_of k ss ≡ 0
none_made_step k s ss more true is h = absurd (let h' = rw is at h in omega arith)
none_made_step k s ss more false is h = rw is (let h' = rw is at h in let m = more (omega arith) in omega arith)

-- if no session has the number, no call was made under it
pub none_made : (k : ℕ) (ss : List SessionView) → times k ss ≡ 0 → made_of k ss ≡ 0
none_made k [] h = refl
none_made k (s ∷ ss) h =
    sum_by-cons (λ (x : SessionView). only (x.number == k) x.made) s ss
    ∙ none_made_step k s ss (none_made k ss) (s.number == k) refl (sym (sum_by-cons (λ (x : SessionView). only (x.number == k) 1) s ss) ∙ h)

pub counts_more : (b : ℕ) (ss : List SessionView) → counts_of (b + 1) ss ≡ counts_of b ss ++ (b + 1, made_of (b + 1) ss) ∷ []
counts_more b ss = map-range_with_len_more (λ k. (k, made_of k ss)) 1 b (b + 1) (omega arith)

fresh_more : (b : ℕ) → fresh (b + 1) ≡ fresh b ++ record { number = b + 1; made = 0; seen = [] } ∷ []
fresh_more b = map-range_with_len_more (λ (k : ℕ). record { number = k; made = 0; seen = [] }) 1 b (b + 1) (omega arith)

pub fresh_push : (b : ℕ) (ss : List SessionView) (s : SessionView) → ss ≡ fresh b → s ≡ record { number = b + 1; made = 0; seen = [] } → ss ++ s ∷ [] ≡ fresh (b + 1)
fresh_push b ss s so_far next = (λ i. so_far i ++ next i ∷ []) ∙ sym (fresh_more b)

pub total_push : (cs : List (ℕ × ℕ)) (c : ℕ × ℕ) → total_made (cs ++ c ∷ []) ≡ total_made cs + c.1
total_push cs c = sum_by-append (λ (c : ℕ × ℕ). c.1) cs (c ∷ []) ∙ omega arith
