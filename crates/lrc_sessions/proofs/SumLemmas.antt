-- No session counts more calls than the history has entries of it, and the sum is the length of the history: so each count is exact.
use Rattle.std.proofs.Common.{◌≡◌, ℕ, zero, suc, ◌+◌, ◌<◌, ◌≤◌, ◌==◌, Bool, true, false, nat_eq, List, [], ◌∷◌, ◌++◌, length, map, All, refl, sym, ap, ◌∙◌, subst, arith}
use Rattle.std.proofs.lemmas.List.Sums.{sum_by-cons}
use Rattle.std.proofs.lemmas.List.FromFn.{map-range_with_len_more}
use Rattle.std.proofs.lemmas.List.Elements.{All-head, All-tail}
use Rattle.std.proofs.lemmas.Bool.Decides.{nat_tests}
use Rattle.lrc_rules.specs.declared.entry.Entry.{Entry}
use Rattle.lrc_rules.specs.Sessions.{sessions, is_of}
use Rattle.lrc_sessions.specs.Views.{SessionView}
use Rattle.lrc_sessions.specs.Counts.{times, made_of, made_in, counts_of, counts_in, total_made, AreAll}
use Rattle.lrc_sessions.proofs.Counting.{only, all_at, none_made, total_push}

-- ---- sums over the numbers of sessions

abbrev sum_to : (ℕ → ℕ) → ℕ → ℕ
sum_to f zero = 0
sum_to f (suc n) = sum_to f n + f (suc n)

abbrev listed : (ℕ → ℕ) → ℕ → List (ℕ × ℕ)
listed f n = map (λ k. (k, f k)) (sessions n)

listed_plus : (f : ℕ → ℕ) (n : ℕ) → listed f (n + 1) ≡ listed f n ++ (n + 1, f (n + 1)) ∷ []
listed_plus f n = map-range_with_len_more (λ k. (k, f k)) 1 n (n + 1) (omega arith)

listed-more : (f : ℕ → ℕ) (n : ℕ) → listed f (suc n) ≡ listed f n ++ (suc n, f (suc n)) ∷ []
listed-more f n =
    let e : n + 1 ≡ suc n = omega arith in
    subst (λ (m : ℕ). listed f m ≡ listed f n ++ (m, f m) ∷ []) e (listed_plus f n)

total_listed : (f : ℕ → ℕ) (n : ℕ) → total_made (listed f n) ≡ sum_to f n
total_listed f zero = refl
total_listed f (suc n) =
    ap total_made (listed-more f n) ∙ total_push (listed f n) (suc n, f (suc n)) ∙ ap (λ t. t + f (suc n)) (total_listed f n)

-- ---- the entries of several sessions are at most all entries

abbrev hit : ℕ → ℕ → ℕ
hit s k = only (nat_eq s k) 1

record AtMostOnce (n s : ℕ) : Type 0 where
  none : n < s → sum_to (hit s) n ≡ 0
  once : sum_to (hit s) n ≤ 1

same_is : (a b : ℕ) → nat_eq a b ≡ true → a ≡ b
same_is a b h = grind (arith, nat_tests)

below_not : (a b : ℕ) → b < a → hit a b ≡ 0
below_not a b h = grind (arith, nat_tests)

once_step : (n s : ℕ) → AtMostOnce n s → (b : Bool) → nat_eq s (suc n) ≡ b → sum_to (hit s) n + hit s (suc n) ≤ 1
once_step n s m true is = rw is (let at = same_is s (suc n) is in let z = m.none (omega arith) in omega arith)
once_step n s m false is = rw is (let o = m.once in omega arith)

at_most_once : (n s : ℕ) → AtMostOnce n s
at_most_once zero s = record { none = λ _. refl; once = omega arith }
at_most_once (suc n) s = let m = at_most_once n s in record {
  none = λ low. let z = m.none (omega arith) in let o = below_not s (suc n) low in omega arith;
  once = once_step n s m (nat_eq s (suc n)) refl;
}

sum_cons : (n : ℕ) (e : Entry) (h : List Entry)
    → sum_to (λ k. made_in k (e ∷ h)) n ≡ sum_to (hit e.session.value) n + sum_to (λ k. made_in k h) n
sum_cons zero e h = refl
sum_cons (suc n) e h =
    let c = sum_by-cons (λ (x : Entry). only (is_of (suc n) x) 1) e h in
    let more = sum_cons n e h in
    omega arith

sum_nil : (n : ℕ) → sum_to (λ k. made_in k []) n ≡ 0
sum_nil zero = refl
sum_nil (suc n) = let more = sum_nil n in omega arith

sum_in : (n : ℕ) (h : List Entry) → sum_to (λ k. made_in k h) n ≤ length h
sum_in n [] = let z = sum_nil n in omega arith
sum_in n (e ∷ h) =
    let c = sum_cons n e h in let o = (at_most_once n e.session.value).once in let more = sum_in n h in omega arith

-- ---- if each number is at most another, and their sums are equal, they are equal

sum_below : (f g : ℕ → ℕ) (n : ℕ) → ((k : ℕ) → 1 ≤ k → k ≤ n → f k ≤ g k) → sum_to f n ≤ sum_to g n
sum_below f g zero each = omega arith
sum_below f g (suc n) each =
    let more = sum_below f g n (λ k low high. each k low (omega arith)) in let last = each (suc n) (omega arith) (omega arith) in omega arith

squeeze : (f g : ℕ → ℕ) (n : ℕ) → ((k : ℕ) → 1 ≤ k → k ≤ n → f k ≤ g k) → sum_to g n ≤ sum_to f n → listed f n ≡ listed g n
squeeze f g zero each le = refl
squeeze f g (suc n) each le =
    let lower : (k : ℕ) → 1 ≤ k → k ≤ n → f k ≤ g k = λ k low high. each k low (omega arith) in
    let below = sum_below f g n lower in
    let last = each (suc n) (omega arith) (omega arith) in
    let same : f (suc n) ≡ g (suc n) = omega arith in
    let more = squeeze f g n lower (omega arith) in
    listed-more f n ∙ (λ i. more i ++ (suc n, same i) ∷ []) ∙ sym (listed-more g n)

-- ---- the calls of one session

made_step : (k m : ℕ) (s : SessionView) (ss : List SessionView) → (times k ss ≡ 1 → made_of k ss ≤ m) → (s.number ≡ k → s.made ≤ m)
    → (b : Bool) → (s.number == k) ≡ b → only (s.number == k) 1 + times k ss ≡ 1 → only (s.number == k) s.made + made_of k ss ≤ m
made_step k m s ss more here true is h =
    rw is (let h' = rw is at h in let z = none_made k ss (omega arith) in let l = here (same_is s.number k is) in omega arith)
made_step k m s ss more here false is h = rw is (let h' = rw is at h in let l = more (omega arith) in omega arith)

made_below : (k : ℕ) (ss : List SessionView) (h : List Entry) → All (λ s. s.made ≤ made_in s.number h) ss → times k ss ≡ 1
    → made_of k ss ≤ made_in k h
made_below k [] h all one = omega arith
made_below k (s ∷ ss) h all one =
    let P : SessionView → Type 0 = λ s. s.made ≤ made_in s.number h in
    let sum = sum_by-cons (λ (x : SessionView). only (x.number == k) x.made) s ss in
    let count = sum_by-cons (λ (x : SessionView). only (x.number == k) 1) s ss in
    let step = made_step k (made_in k h) s ss (made_below k ss h (All-tail P s ss all))
    (λ is. subst (λ (j : ℕ). s.made ≤ made_in j h) is (All-head P s ss all)) (s.number == k) refl (sym count ∙ one) in
    omega arith

-- each session made as many calls as the history has entries of it
pub squeezed : (count : ℕ) (ss : List SessionView) (h : List Entry) → AreAll count ss → count ≤ 8 → All (λ s. s.made ≤ made_in s.number h) ss
    → length h ≡ total_made (counts_of count ss) → counts_of count ss ≡ counts_in count h
squeezed count ss h all few made total =
    squeeze (λ k. made_of k ss) (λ k. made_in k h) count
    (λ k low high. made_below k ss h made (all_at count ss all few k low high))
    (let s = sum_in count h in let t = total_listed (λ k. made_of k ss) count in omega arith)
