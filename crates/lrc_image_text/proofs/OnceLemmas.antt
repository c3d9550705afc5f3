-- A text starts with one line at most, and so with one list of lines.
use Rattle.std.proofs.Common.{◌≡◌, ◌≢◌, ℕ, ◌+◌, ◌^◌, ◌<◌, ◌≤◌, Bool, true, false, nat_eq, if◌then◌else◌, Option, Some, None, List, [], ◌∷◌, ◌++◌, length, map, get_or, drop, take, codes, decimal, refl, sym, ap, subst, ◌∙◌, append_assoc, arith}
use Rattle.std.specs.List.{All}
use Rattle.std.proofs.lemmas.List.{append_cancel_left}
use Rattle.std.proofs.lemmas.List.Elements.{All-head, All-tail}
use Rattle.std.specs.Coded.{le_prop}
use Rattle.lrc_code.specs.declared.codes.Code.{Code}
use Rattle.lrc_code.specs.declared.codes.Code.TheVariants.{Wide, Narrow}
use Rattle.lrc_code.proofs.NumbersLemmas.{equal_stripes, equal_fragments}
use Rattle.lrc_code.specs.declared.numbers.SessionNo.{SessionNo}
use Rattle.lrc_code.specs.Codes.{fragment_count}
use Rattle.lrc_images.specs.declared.image.NodeRow.{NodeRow}
use Rattle.lrc_images.specs.declared.image.StripeRow.{StripeRow}
use Rattle.lrc_images.specs.declared.image.GrantRow.{GrantRow}
use Rattle.lrc_images.specs.declared.image.LeaseRow.{LeaseRow}
use Rattle.lrc_image_text.specs.Lines.{Line, Version, Before, Clock, Upgrading, Node, Stripe, Grants, Lease, End, home_word, code_word, line_text, lines_text, IsReadable, IsStripeRow}
use Rattle.lrc_image_text.specs.Texts.{section, next_section, may_come, after_lines, IsBadLine}
use Rattle.lrc_image_text.specs.Fronts.{words_on, line_on}
use Rattle.lrc_image_text.proofs.WordLemmas.{same_number, same_seat}
use Rattle.lrc_image_text.proofs.RowLemmas.{words_space, some_words, coded, stripe_on, standing_space}
use Rattle.lrc_image_text.proofs.SameLemmas.{same_words, one_count, same_homes, same_standing}
use Rattle.lrc_image_text.proofs.LineLemmas.{line_on-text}

-- ---- sessions

low_range : (n : ℕ) → IsProp (1 ≤ n)
low_range n = le_prop

high_range : (n : ℕ) → IsProp (n ≤ 8)
high_range n = le_prop

session_range : (n : ℕ) → IsProp ((1 ≤ n) × (n ≤ 8))
session_range n a b = ap (λ (x : 1 ≤ n). (x, a.1)) (low_range n a.0 b.0) ∙ ap (λ (y : n ≤ 8). (b.0, y)) (high_range n a.1 b.1)

equal_sessions : (a b : SessionNo) → a.value ≡ b.value → a ≡ b
equal_sessions a b e =
    subst (λ n. (h : (1 ≤ n) × (n ≤ 8)) → a ≡ record { value = n; in_range = h }) e
    (λ h. ap (λ (i : (1 ≤ a.value) × (a.value ≤ 8)). record { value = a.value; in_range = i }) (session_range a.value a.in_range h)) b.in_range

-- ---- lines of one kind

-- a number and words behind it
same_front : (word : List ℕ) (n m : ℕ) (after after' tail tail' : List ℕ) → n < 2 ^ 64 → m < 2 ^ 64 → after ≡ 32 ∷ tail → after' ≡ 32 ∷ tail' → word ++ (decimal n ++ after) ≡ word ++ (decimal m ++ after') → (n ≡ m) × (after ≡ after')
same_front word n m after after' tail tail' low low' starts starts' is =
    let parts = same_number n m 32 tail tail' low low' refl
    (ap (λ t. decimal n ++ t) (sym starts) ∙ append_cancel_left word (decimal n ++ after) (decimal m ++ after') is ∙ ap (λ t. decimal m ++ t) starts') in
    (parts.0, starts ∙ ap (λ t. 32 ∷ t) parts.1 ∙ sym starts')

-- a number alone
same_alone : (word : List ℕ) (n m : ℕ) (a b : List ℕ) → n < 2 ^ 64 → m < 2 ^ 64 → word ++ (decimal n ++ 10 ∷ a) ≡ word ++ (decimal m ++ 10 ∷ b) → (n ≡ m) × (a ≡ b)
same_alone word n m a b low low' is = same_number n m 10 a b low low' refl (append_cancel_left word (decimal n ++ 10 ∷ a) (decimal m ++ 10 ∷ b) is)

-- the line is the only one of its kind, and then the same is left
abbrev IsOnce : Line → Line → List ℕ → List ℕ → Type 0
IsOnce l m a b = (l ≡ m) × (a ≡ b)

same_node_lines : (r q : NodeRow) (a b : List ℕ) → IsReadable (Node r) → IsReadable (Node q) → line_on (Node r) a ≡ line_on (Node q) b → IsOnce (Node r) (Node q) a b
same_node_lines r q a b can can' is =
    let left = standing_space r.mode r.is_down a can.1 in
    let right = standing_space q.mode q.is_down b can'.1 in
    let first = same_front (codes "node ") r.node.value q.node.value _ _ left.0 right.0 (omega (arith, can.0)) (omega (arith, can'.0)) left.1 right.1 is in
    let others = same_standing r.mode q.mode r.is_down q.is_down a b can.1 can'.1 first.1 in
    (λ i. Node (record { node = record { value = first.0 i }; mode = others.0 i; is_down = others.1 i }), others.2)

same_grant_lines : (r q : GrantRow) (a b : List ℕ) → IsReadable (Grants r) → IsReadable (Grants q) → line_on (Grants r) a ≡ line_on (Grants q) b → IsOnce (Grants r) (Grants q) a b
same_grant_lines r q a b can can' is =
    let low = r.stripe.in_range in
    let low' = q.stripe.in_range in
    let left = words_space (map decimal r.granted) a (some_words decimal r.granted 16 can.0 (omega arith)) in
    let right = words_space (map decimal q.granted) b (some_words decimal q.granted 16 can'.0 (omega arith)) in
    let first = same_front (codes "granted ") r.stripe.value q.stripe.value _ _ left.0 right.0 (omega (arith, low)) (omega (arith, low')) left.1 right.1 is in
    let others = same_words decimal (λ n. n < 4294967296) one_count r.granted q.granted a b (can.0 ∙ sym can'.0) can.1 can'.1 first.1 in
    let stripe = equal_stripes r.stripe q.stripe first.0 in
    (λ i. Grants (record { stripe = stripe i; granted = others.0 i }), others.1)

-- the code that its word tells
abbrev code_in : List ℕ → Code
code_in t = if nat_eq (get_or t 6 0) 32 then Wide else Narrow

code_told : (code : Code) (rest : List ℕ) → code ≡ code_in (code_word code ++ 32 ∷ rest)
code_told Wide rest = refl
code_told Narrow rest = refl

same_stripe_lines : (r q : StripeRow) (a b : List ℕ) → IsStripeRow r → IsStripeRow q → line_on (Stripe r) a ≡ line_on (Stripe q) b → IsOnce (Stripe r) (Stripe q) a b
same_stripe_lines r q a b can can' is =
    let low = r.stripe.in_range in
    let low' = q.stripe.in_range in
    let code = code_told r.code (decimal r.stripe.value ++ words_on (map home_word (take (fragment_count r.code) r.homes)) a) ∙ ap code_in is
    ∙ sym (code_told q.code (decimal q.stripe.value ++ words_on (map home_word (take (fragment_count q.code) q.homes)) b)) in
    let is' = sym (stripe_on r r.code refl a) ∙ is ∙ stripe_on q r.code (sym code) b in
    let size = coded r.code r.homes can.all in
    let size' = coded r.code q.homes can'.all in
    let left = words_space (map home_word (take (fragment_count r.code) r.homes)) a (some_words home_word (take (fragment_count r.code) r.homes) (fragment_count r.code) size.0 size.1) in
    let right = words_space (map home_word (take (fragment_count r.code) q.homes)) b (some_words home_word (take (fragment_count r.code) q.homes) (fragment_count r.code) size'.0 size'.1) in
    let first = same_front (code_word r.code ++ codes " ") r.stripe.value q.stripe.value _ _ left.0 right.0 (omega (arith, low)) (omega (arith, low')) left.1 right.1 is' in
    let none' = subst (λ c. All (λ h. h ≡ None) (drop (fragment_count c) q.homes)) (sym code) can'.none in
    let others = same_homes (fragment_count r.code) r.homes q.homes a b can.all can'.all can.homes can'.homes can.none none' first.1 in
    let stripe = equal_stripes r.stripe q.stripe first.0 in
    (λ i. Stripe (record { stripe = stripe i; code = code i; homes = others.0 i }), others.1)

same_lease_lines : (r q : LeaseRow) (a b : List ℕ) → IsReadable (Lease r) → IsReadable (Lease q) → line_on (Lease r) a ≡ line_on (Lease q) b → IsOnce (Lease r) (Lease q) a b
same_lease_lines r q a b can can' is =
    let low = r.stripe.in_range in
    let low' = q.stripe.in_range in
    let low-f = r.fragment.in_range in
    let low-f' = q.fragment.in_range in
    let low-h = r.holder.in_range in
    let low-h' = q.holder.in_range in
    let s = same_front (codes "lease ") r.stripe.value q.stripe.value _ _ _ _ (omega (arith, low)) (omega (arith, low')) refl refl is in
    let f = same_front (32 ∷ []) r.fragment.value q.fragment.value _ _ _ _ (omega (arith, low-f)) (omega (arith, low-f')) refl refl s.1 in
    let h = same_front (32 ∷ []) r.holder.value q.holder.value _ _ _ _ (omega (arith, low-h.1)) (omega (arith, low-h'.1)) refl refl f.1 in
    let t = same_seat r.target q.target 32 _ _ can.0 can'.0 refl (ap (drop 1) h.1) in
    let e = same_alone [] r.expiry q.expiry a b (omega (arith, can.1)) (omega (arith, can'.1)) t.1 in
    let stripe = equal_stripes r.stripe q.stripe s.0 in
    let fragment = equal_fragments r.fragment q.fragment f.0 in
    let holder = equal_sessions r.holder q.holder h.0 in
    (λ i. Lease (record { stripe = stripe i; fragment = fragment i; holder = holder i; target = t.0 i; expiry = e.0 i }), e.1)

-- ---- lines of any kind

-- the section that the first letter of a line tells
abbrev section_in : List ℕ → ℕ
section_in t =
    if nat_eq (get_or t 0 0) 105 then 0 else if nat_eq (get_or t 0 0) 98 then 1 else if nat_eq (get_or t 0 0) 99 then 2 else if nat_eq (get_or t 0 0) 117 then 3
    else if nat_eq (get_or t 0 0) 110 then 4 else if nat_eq (get_or t 0 0) 115 then 5 else if nat_eq (get_or t 0 0) 103 then 6 else if nat_eq (get_or t 0 0) 108 then 7 else 8

stripe_section : (code : Code) (rest : List ℕ) → 5 ≡ section_in (code_word code ++ rest)
stripe_section Wide rest = refl
stripe_section Narrow rest = refl

section_told : (line : Line) (rest : List ℕ) → section line ≡ section_in (line_on line rest)
section_told Version rest = refl
section_told (Before n) rest = refl
section_told (Clock n) rest = refl
section_told (Upgrading u) rest = refl
section_told (Node r) rest = refl
section_told (Stripe r) rest = stripe_section r.code _
section_told (Grants r) rest = refl
section_told (Lease r) rest = refl
section_told End rest = refl

once_of : (l m : Line) (a b : List ℕ) → section l ≡ section m → IsReadable l → IsReadable m → line_on l a ≡ line_on m b → IsOnce l m a b
once_of Version Version a b same can can' is = (refl, ap (drop 8) is)
once_of (Before n) (Before m) a b same can can' is = let parts = same_alone (codes "before ") n m a b can can' is in (ap Before parts.0, parts.1)
once_of (Clock n) (Clock m) a b same can can' is = let parts = same_alone (codes "clock ") n m a b (omega (arith, can)) (omega (arith, can')) is in (ap Clock parts.0, parts.1)
once_of (Upgrading u) (Upgrading v) a b same can can' is =
    let parts = same_alone (codes "upgrading ") u.value v.value a b (omega (arith, can)) (omega (arith, can')) is in (λ i. Upgrading (record { value = parts.0 i }), parts.1)
once_of (Node r) (Node q) a b same can can' is = same_node_lines r q a b can can' is
once_of (Stripe r) (Stripe q) a b same can can' is = same_stripe_lines r q a b can can' is
once_of (Grants r) (Grants q) a b same can can' is = same_grant_lines r q a b can can' is
once_of (Lease r) (Lease q) a b same can can' is = same_lease_lines r q a b can can' is
once_of End End a b same can can' is = (refl, ap (drop 4) is)
once_of l m a b same can can' is = absurd (omega (arith, same))

pub once : (l m : Line) (a b : List ℕ) → IsReadable l → IsReadable m → line_text l ++ a ≡ line_text m ++ b → IsOnce l m a b
once l m a b can can' is =
    let is' = sym (line_on-text l a) ∙ is ∙ line_on-text m b in
    once_of l m a b (section_told l a ∙ ap section_in is' ∙ sym (section_told m b)) can can' is'

-- ---- lists of lines

-- no line that may come behind these lines is in front of what is left
abbrev pub IsStopped : Option ℕ → List Line → List ℕ → Type 0
IsStopped from lines left = (first : ℕ) (line : Line) (rest : List ℕ) → after_lines from lines ≡ Some first → may_come first line ≡ true → IsReadable line → left ≢ line_text line ++ rest

if_some : (b : Bool) (n m : ℕ) → (if b then Some n else None) ≡ Some m → b ≡ true
if_some true n m is = refl
if_some false n m is = cc

after_none : (lines : List Line) (n : ℕ) → after_lines None lines ≢ Some n
after_none [] n is = cc
after_none (l ∷ ls) n is = after_none ls n is

-- the first of lines that may follow may come
first_may : (b : Bool) (next : ℕ) (ls : List Line) (n : ℕ) → after_lines (if b then Some next else None) ls ≡ Some n → b ≡ true
first_may true next ls n is = refl
first_may false next ls n is = absurd (after_none ls n is)

pub same_lines : (from : ℕ) (ls ms : List Line) (a b : List ℕ) (n m : ℕ) → after_lines (Some from) ls ≡ Some n → after_lines (Some from) ms ≡ Some m → All IsReadable ls → All IsReadable ms
    → IsStopped (Some from) ls a → IsStopped (Some from) ms b → lines_text ls ++ a ≡ lines_text ms ++ b → (ls ≡ ms) × (a ≡ b)
same_lines from [] [] a b n m goes goes' can can' stop stop' is = (refl, is)
same_lines from [] (k ∷ ms) a b n m goes goes' can can' stop stop' is =
    absurd (stop from k (lines_text ms ++ b) refl (first_may (may_come from k) (next_section k) ms m goes') (All-head IsReadable k ms can') (is ∙ append_assoc (line_text k) (lines_text ms) b))
same_lines from (l ∷ ls) [] a b n m goes goes' can can' stop stop' is =
    absurd (stop' from l (lines_text ls ++ a) refl (first_may (may_come from l) (next_section l) ls n goes) (All-head IsReadable l ls can) (sym is ∙ append_assoc (line_text l) (lines_text ls) a))
same_lines from (l ∷ ls) (k ∷ ms) a b n m goes goes' can can' stop stop' is =
    let parts = once l k (lines_text ls ++ a) (lines_text ms ++ b) (All-head IsReadable l ls can) (All-head IsReadable k ms can')
    (sym (append_assoc (line_text l) (lines_text ls) a) ∙ is ∙ append_assoc (line_text k) (lines_text ms) b) in
    let here = first_may (may_come from l) (next_section l) ls n goes in
    let here' = first_may (may_come from k) (next_section k) ms m goes' in
    let step = ap (λ t. if t then Some (next_section l) else None) here in
    let step' = ap (λ t. if t then Some (next_section k) else None) here' ∙ ap (λ x. Some (next_section x)) (sym parts.0) in
    let others = same_lines (next_section l) ls ms a b n m (ap (λ o. after_lines o ls) (sym step) ∙ goes) (ap (λ o. after_lines o ms) (sym step') ∙ goes') (All-tail IsReadable l ls can) (All-tail IsReadable k ms can')
    (λ first line rest to. stop first line rest (ap (λ o. after_lines o ls) step ∙ to)) (λ first line rest to. stop' first line rest (ap (λ o. after_lines o ms) step' ∙ to)) parts.1 in
    (ap (λ x. x ∷ ls) parts.0 ∙ ap (λ xs. k ∷ xs) others.0, others.1)

-- ---- bad lines

pub some_same : (m n : ℕ) → Some m ≡ Some n → m ≡ n
some_same m n is = cc

pub stopped : (text : List ℕ) (n : ℕ) (bad : IsBadLine text n) → IsStopped (Some 0) bad.before bad.left
stopped text n bad first line rest to may can is =
    let same : bad.first ≡ first = some_same bad.first first (sym bad.may_begin ∙ to) in
    bad.bad line rest can (subst (λ f. may_come f line ≡ true) (sym same) may) is

pub one_bad : (text : List ℕ) (m n : ℕ) → IsBadLine text m → IsBadLine text n → m ≡ n
one_bad text m n bad bad' =
    let parts = same_lines 0 bad.before bad'.before bad.left bad'.left bad.first bad'.first bad.may_begin bad'.may_begin bad.readable bad'.readable (stopped text m bad) (stopped text n bad') (sym bad.text_is ∙ bad'.text_is) in
    bad.numbered ∙ ap (λ ls. length ls + 1) parts.0 ∙ sym bad'.numbered
