-- How an end stands after a call was read or written, and before the last one.
use Rattle.std.proofs.Common.{◌≡◌, ℕ, suc, ◌+◌, ◌-◌, ◌<◌, ◌≤◌, List, [], ◌∷◌, ◌++◌, length, take, Some, slice_get, ap, sym, ◌∙◌, arith, length-append}
use mathlib.Core.List.{IsPrefix}
use Rattle.logbook.specs.Pages.{Book}
use Rattle.lrc_feed.specs.declared.feed.FedCall.{FedCall}
use Rattle.lrc_feed.specs.Feeds.{FeedAt, passed}
use Rattle.lrc_feed.proofs.Prefixes.{take_prefix, take_next, take_length, take_before}

abbrev pub end_at : Book → List FedCall → ℕ → ℕ → FeedAt
end_at book log count place = record { feed = book; calls = take count log; known = length log; place = place }

one_more : {A : Type 0} (xs : List A) (n : ℕ) (x : A) → slice_get xs n ≡ Some x → take (n + 1) xs ≡ take n xs ++ x ∷ []
one_more xs n x h = let e : n + 1 ≡ suc n = omega arith in ap (λ k. take k xs) e ∙ take_next xs n x h

pub read_some : (at : FeedAt) (book book' : Book) (log log' : List FedCall) (count place : ℕ) (call : FedCall) → end_at book log count place ≡ at
    → book' ≡ book → IsPrefix log log' → count ≤ length log → slice_get log' count ≡ Some call
    → end_at book' log' (count + 1) (place + 1) ≡ record (passed at call) { known = length log' }
read_some at book book' log log' count place call is same pre few there =
    let calls : take (count + 1) log' ≡ at.calls ++ call ∷ [] =
    one_more log' count call there ∙ ap (λ cs. cs ++ call ∷ []) (take_prefix log log' count pre few ∙ ap (λ (e : FeedAt). e.calls) is) in
    λ i. record { feed = (same ∙ ap (λ (e : FeedAt). e.feed) is) i; calls = calls i; known = length log'; place = (is i).place + 1 }

pub count_is : (at : FeedAt) (book : Book) (log : List FedCall) (count place : ℕ) → end_at book log count place ≡ at → count ≤ length log → length at.calls ≡ count
count_is at book log count place is few = sym (ap (λ (e : FeedAt). length e.calls) is) ∙ take_length log count few

pub unread_is : (at : FeedAt) (book : Book) (log : List FedCall) (count place : ℕ) (before : List FedCall) (last : FedCall) → end_at book log count place ≡ at
    → count ≤ length log → at.calls ≡ before ++ last ∷ []
    → end_at book log (count - 1) (place - 1) ≡ record at { calls = before; place = at.place - 1 }
unread_is at book log count place before last is few ends =
    let long : length at.calls ≡ count = count_is at book log count place is few in
    let some : 0 < count = omega (arith, long, ap length ends, length-append before (last ∷ [])) in
    let next : suc (count - 1) ≡ count = omega (arith, some) in
    let calls : take (suc (count - 1)) log ≡ before ++ last ∷ [] = ap (λ k. take k log) next ∙ (ap (λ (e : FeedAt). e.calls) is ∙ ends) in
    let rest : take (count - 1) log ≡ before = take_before log before last (count - 1) calls (omega (arith, next, few)) in
    λ i. record { feed = (is i).feed; calls = rest i; known = (is i).known; place = (is i).place - 1 }
