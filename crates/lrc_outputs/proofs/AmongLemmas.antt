-- What each session made of a history, by its number, and that nobody else made any of it.
use Rattle.std.proofs.Common.{◌≡◌, ◌≢◌, ℕ, zero, suc, ◌+◌, ◌≤◌, ◌<◌, ◌==◌, inl, inr, Bool, true, nat_le, nat_eq, All, List, [], ◌∷◌, ◌++◌, length, map, get_or, flat_map, count_by, sum_by, Option, Some, None, unwrap_or, Vec, refl, sym, ap, subst, ◌∙◌, arith}
use borrow.Author.Tests.{eq-eqb}
use Rattle.std.proofs.lemmas.Bool.{cases_Bool, leb-true}
use Rattle.std.proofs.lemmas.Bool.Decides.{nat_tests}
use Rattle.std.proofs.lemmas.List.{length-map, get_or-map}
use Rattle.std.proofs.lemmas.List.Elements.{All-nil, All-cons, All-weaker}
use Rattle.std.proofs.lemmas.List.Concat.{flat_map-append}
use Rattle.std.proofs.lemmas.List.FromFn.{get_or-map-range_with_len, map-range_with_len_more}
use Rattle.std.proofs.lemmas.List.Sums.{sum_by-cons, count_by-le-length, length-filter}
use Rattle.std.specs.List.{range_with_len}
use Rattle.std.specs.Option.{option_or}
use mathlib.Core.List.{IsPrefix}
use Rattle.lrc_code.specs.declared.fault.Fault.{Fault}
use Rattle.lrc_code.specs.declared.fault.Fault.TheVariants as book
use Rattle.lrc_rules.specs.declared.command.Command.{Command}
use Rattle.lrc_rules.specs.declared.entry.Entry.{Entry}
use Rattle.lrc_rules.specs.Sessions.{NumberedEntry, numbered_from, is_of, entries_of, commands_of, AreRising}
use Rattle.lrc_topology.specs.declared.NodeInfo.{NodeInfo}
use Rattle.lrc_rules.proofs.NumberedLemmas.{all_made}
use Rattle.lrc_board.specs.declared.batch.Batch.{Batch}
use Rattle.lrc_board.specs.declared.receipt.Receipt.{Receipt}
use Rattle.lrc_sessions.specs.declared.closing.Closing.{Closing}
use Rattle.lrc_sessions.specs.declared.track.Stop.{Stop}
use Rattle.lrc_sessions.specs.declared.track.Stop.TheVariants as stop
use Rattle.lrc_sessions.specs.declared.track.Track.{Track}
use Rattle.lrc_sessions.specs.Views.{SessionView, fresh}
use Rattle.lrc_sessions.specs.Counts.{made_of, made_in, counts_of, counts_in, total_made}
use Rattle.lrc_sessions.specs.Closing.{Closes}
use Rattle.lrc_sessions.specs.Receipts.{entries_at, receipts_from, receipts_in, IsBatchIn}
use Rattle.lrc_sessions.specs.Runs.{StopFits, StopIsSeen, AreStanding, IsRun, IsRunInBatches, AreRun}
use Rattle.lrc_sessions.proofs.Counting.{only, total_push}
use Rattle.lrc_sessions.proofs.ReceiptLemmas.{receipts_in-later, all_seen_later}
use Rattle.lrc_sessions.proofs.RunLemmas.{some_of}
use Rattle.lrc_sessions.proofs.StandingLemmas.{prefix_long, standing_on}
use Rattle.lrc_outputs.specs.Judged.{lists_of}
use Rattle.lrc_outputs.specs.Faults.{stop_fault, first_fault}
use Rattle.lrc_text.specs.Texts.{reply_line, lines_from, script_line}
use Rattle.lrc_text.proofs.WholeTexts.{script_text, replies_text}
use Rattle.lrc_outputs.specs.Plays.{AreMade, batches_text, track_text, tracks_text}

-- ---- nobody else

abbrev IsAmong : ℕ → Entry → Bool
IsAmong count e = nat_le e.session.value count

none_among : (v : ℕ) → 1 ≤ v → only (nat_le v 0) 1 ≡ 0
none_among v low = grind (arith, nat_tests)

one_among : (v n : ℕ) → only (nat_le v n) 1 + only (nat_eq v (suc n)) 1 ≡ only (nat_le v (suc n)) 1
one_among v n = grind (arith, nat_tests)

count_none : (h : List Entry) → count_by (IsAmong 0) h ≡ 0
count_none [] = refl
count_none (e ∷ h) =
    let all = sum_by-cons (λ (x : Entry). only (IsAmong 0 x) 1) e h in let none = none_among e.session.value e.session.in_range.0 in
    let more = count_none h in omega (arith, all, none, more)

count_one_more : (n : ℕ) (h : List Entry) → count_by (IsAmong n) h + made_in (suc n) h ≡ count_by (IsAmong (suc n)) h
count_one_more n [] = refl
count_one_more n (e ∷ h) =
    let a = sum_by-cons (λ (x : Entry). only (IsAmong n x) 1) e h in
    let b = sum_by-cons (λ (x : Entry). only (is_of (suc n) x) 1) e h in
    let c = sum_by-cons (λ (x : Entry). only (IsAmong (suc n) x) 1) e h in
    let one = one_among e.session.value n in
    let more = count_one_more n h in
    omega (arith, a, b, c, one, more)

count_among : (n : ℕ) (h : List Entry) → total_made (counts_in n h) ≡ count_by (IsAmong n) h
count_among zero h = sym (count_none h)
count_among (suc n) h =
    let next : suc n ≡ n + 1 = omega arith in
    ap (λ k. total_made (counts_in k h)) next ∙ ap total_made (map-range_with_len_more (λ (k : ℕ). (k, made_in k h)) 1 n (suc n) (omega arith)) ∙ total_push (counts_in n h) (suc n, made_in (suc n) h)
    ∙ ap (λ t. t + made_in (suc n) h) (count_among n h) ∙ count_one_more n h

all_pass : {X : Type 0} (p : X → Bool) (xs : List X) → count_by p xs ≡ length xs → All (λ x. p x ≡ true) xs
all_pass p [] all = All-nil (λ x. p x ≡ true)
all_pass {X} p (x ∷ xs) all =
    let sum = sum_by-cons (λ (y : X). only (p y) 1) x xs in
    let most = count_by-le-length p xs in
    elim (cases_Bool (p x)) [
      | inl hit ↦
          let one : only (p x) 1 ≡ 1 = ap (λ b. only b 1) hit in
          All-cons (λ y. p y ≡ true) x xs hit (all_pass p xs (omega (arith, sum, one, all)))
      | inr miss ↦ let none : only (p x) 1 ≡ 0 = ap (λ b. only b 1) miss in absurd (omega (arith, sum, none, all, most))
    ]

-- where the sessions 1 to count made as many entries as there are, they made them all
pub all_among : (count : ℕ) (h : List Entry) → length h ≡ total_made (counts_in count h) → All (λ e. e.session.value ≤ count) h
all_among count h total =
    All-weaker (λ e. IsAmong count e ≡ true) (λ e. e.session.value ≤ count) (λ e. leb-true e.session.value count) h
    (all_pass (IsAmong count) h (sym (count_among count h) ∙ sym total))

-- ---- the count of a session

-- the sessions have the numbers from this one on
abbrev pub AreFrom : ℕ → List SessionView → Type 0
AreFrom first ss = (j : ℕ) (d : SessionView) → j < length ss → (get_or ss j d).number ≡ first + j

later_from : (first : ℕ) (s : SessionView) (ss : List SessionView) → AreFrom first (s ∷ ss) → AreFrom (first + 1) ss
later_from first s ss from j d low = omega (arith, from (suc j) d (omega arith))

made_by : (n k m : ℕ) → n ≡ k → only (n == k) m ≡ m
made_by n k m same = grind (arith, nat_tests)

made_below : (n k m : ℕ) → n < k → only (n == k) m ≡ 0
made_below n k m low = grind (arith, nat_tests)

made_above : (n k m : ℕ) → k < n → only (n == k) m ≡ 0
made_above n k m low = grind (arith, nat_tests)

made_none : (k first : ℕ) (ss : List SessionView) → k < first → AreFrom first ss → made_of k ss ≡ 0
made_none k first [] low from = refl
made_none k first (s ∷ ss) low from =
    let sum = sum_by-cons (λ (x : SessionView). only (x.number == k) x.made) s ss in
    let number = from 0 s (omega arith) in
    let one = made_above s.number k s.made (omega (arith, number, low)) in
    let more = made_none k (first + 1) ss (omega (arith, low)) (later_from first s ss from) in
    omega (arith, sum, one, more)

pub made_at : (first i k : ℕ) (ss : List SessionView) (d : SessionView) → AreFrom first ss → i < length ss → k ≡ first + i → made_of k ss ≡ (get_or ss i d).made
made_at first i k [] d from low is = absurd (omega (arith, low))
made_at first zero k (s ∷ ss) d from low is =
    let sum = sum_by-cons (λ (x : SessionView). only (x.number == k) x.made) s ss in
    let number = from 0 s (omega arith) in
    let one = made_by s.number k s.made (omega (arith, number, is)) in
    let more = made_none k (first + 1) ss (omega (arith, is)) (later_from first s ss from) in
    omega (arith, sum, one, more)
made_at first (suc i) k (s ∷ ss) d from low is =
    let sum = sum_by-cons (λ (x : SessionView). only (x.number == k) x.made) s ss in
    let number = from 0 s (omega arith) in
    let none = made_below s.number k s.made (omega (arith, number, is)) in
    let more = made_at (first + 1) i k ss d (later_from first s ss from) (omega (arith, low)) (omega (arith, is)) in
    omega (arith, sum, none, more)

pub same_count : (n i : ℕ) (ss : List SessionView) (h : List Entry) → counts_of n ss ≡ counts_in n h → i < n → made_of (1 + i) ss ≡ made_in (1 + i) h
same_count n i ss h same low =
    let d : ℕ × ℕ = (0, 0) in
    let left = get_or-map-range_with_len (λ (k : ℕ). (k, made_of k ss)) 1 n i (1 + i) d low refl in
    let right = get_or-map-range_with_len (λ (k : ℕ). (k, made_in k h)) 1 n i (1 + i) d low refl in
    ap (λ (c : ℕ × ℕ). c.1) (sym left ∙ ap (λ cs. get_or cs i d) same ∙ right)
