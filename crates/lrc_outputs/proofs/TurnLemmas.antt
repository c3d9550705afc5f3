-- Scripts that are run in turn: each list of at most eight scripts has a history.
use Rattle.std.proofs.Common.{◌≡◌, ℕ, ◌+◌, ◌≤◌, ◌<◌, lit≤, inl, inr, Bool, false, nat_eq, All, List, [], ◌∷◌, ◌++◌, length, map, filter, refl, ap, ◌∙◌, arith, append-nil, zero, suc}
use borrow.Author.Tests.{eq-eqb}
use Rattle.std.specs.List.{range_with_len}
use Rattle.std.proofs.lemmas.Bool.{cases_Bool}
use Rattle.std.proofs.lemmas.Bool.Decides.{nat_tests}
use Rattle.std.proofs.lemmas.List.{map-append}
use Rattle.std.proofs.lemmas.List.Elements.{All-head, All-tail, All-nil, All-cons, All-append, filter-append}
use Rattle.lrc_code.specs.declared.numbers.SessionNo.{SessionNo}
use Rattle.lrc_topology.specs.declared.NodeInfo.{NodeInfo}
use Rattle.lrc_rules.specs.declared.command.Command.{Command}
use Rattle.lrc_rules.specs.declared.entry.Entry.{Entry}
use Rattle.lrc_rules.specs.Histories.{World, outcome_in, next_world, state_from, IsLegalFrom}
use Rattle.lrc_rules.specs.Sessions.{numbered_from, is_of, commands_of}
use Rattle.lrc_text.specs.Tables.{tables_text}
use Rattle.lrc_text.specs.Texts.{replies_text_behind}
use Rattle.lrc_outputs.specs.Outputs.{IsPlayedFrom}
use Rattle.lrc_outputs.specs.Plays.{AreMadeFrom}
use Rattle.lrc_outputs.proofs.SessionLemmas.{played_with_tables}
use Rattle.lrc_outputs.proofs.HistoryLemmas.{session, entry}

-- a command, and the session that makes it
abbrev Call : Type 0
Call = SessionNo × Command

-- ---- the calls

abbrev calls_of : SessionNo → List Command → List Call
calls_of s commands = map (λ c. (s, c)) commands

this_high : (n more : ℕ) → n + suc more ≤ 9 → n ≤ 8
this_high n more high = omega (arith, high)

next_low : (n : ℕ) → 1 ≤ n → 1 ≤ n + 1
next_low n low = omega (arith, low)

next_high : (n more : ℕ) → n + suc more ≤ 9 → n + 1 + more ≤ 9
next_high n more high = omega (arith, high)

-- the calls of the scripts of the sessions from this number on, one script after the other
abbrev calls_from : (n : ℕ) (scripts : List (List Command)) → 1 ≤ n → n + length scripts ≤ 9 → List Call
calls_from n [] low high = []
calls_from n (commands ∷ scripts) low high =
    calls_of (session n (low, this_high n (length scripts) high)) commands ++ calls_from (n + 1) scripts (next_low n low) (next_high n (length scripts) high)

-- the commands that the session asks for
abbrev asked : ℕ → List Call → List Command
asked k calls = map (λ c. c.1) (filter (λ c. nat_eq c.0.value k) calls)

asked-append : (k : ℕ) (cs ds : List Call) → asked k (cs ++ ds) ≡ asked k cs ++ asked k ds
asked-append k cs ds =
    let own : Call → Bool = λ c. nat_eq c.0.value k in
    ap (map (λ (c : Call). c.1)) (filter-append own cs ds) ∙ map-append (λ (c : Call). c.1) (filter own cs) (filter own ds)

asked_own : (s : SessionNo) (commands : List Command) → asked s.value (calls_of s commands) ≡ commands
asked_own s [] = refl
asked_own s (c ∷ commands) = rw (eq-eqb s.value s.value refl) (ap (λ cs. c ∷ cs) (asked_own s commands))

asked_other : (k : ℕ) (s : SessionNo) (commands : List Command) → nat_eq s.value k ≡ false → asked k (calls_of s commands) ≡ []
asked_other k s [] other = refl
asked_other k s (c ∷ commands) other = rw other (asked_other k s commands other)

is_below : (a b : ℕ) → a < b → nat_eq a b ≡ false
is_below a b low = grind (arith, nat_tests)

is_above : (a b : ℕ) → b < a → nat_eq a b ≡ false
is_above a b low = grind (arith, nat_tests)

asked_before : (k n : ℕ) (scripts : List (List Command)) (low : 1 ≤ n) (high : n + length scripts ≤ 9) → k < n → asked k (calls_from n scripts low high) ≡ []
asked_before k n [] low high before = refl
asked_before k n (commands ∷ scripts) low high before =
    let s = session n (low, this_high n (length scripts) high) in
    let rest = calls_from (n + 1) scripts (next_low n low) (next_high n (length scripts) high) in
    let own = asked_other k s commands (is_above n k before) in
    let more = asked_before k (n + 1) scripts (next_low n low) (next_high n (length scripts) high) (omega (arith, before)) in
    asked-append k (calls_of s commands) rest ∙ (λ i. own i ++ more i)

map_range-same : {X : Type 0} (f g : ℕ → X) (a n : ℕ) → ((k : ℕ) → a ≤ k → f k ≡ g k) → map f (range_with_len a n) ≡ map g (range_with_len a n)
map_range-same f g a zero same = refl
map_range-same f g a (suc n) same =
    let first = same a (omega arith) in
    let more = map_range-same f g (a + 1) n (λ k low. same k (omega (arith, low))) in
    λ i. first i ∷ more i

asked_all : (n : ℕ) (scripts : List (List Command)) (low : 1 ≤ n) (high : n + length scripts ≤ 9)
    → map (λ k. asked k (calls_from n scripts low high)) (range_with_len n (length scripts)) ≡ scripts
asked_all n [] low high = refl
asked_all n (commands ∷ scripts) low high =
    let s = session n (low, this_high n (length scripts) high) in
    let rest = calls_from (n + 1) scripts (next_low n low) (next_high n (length scripts) high) in
    let own : asked n (calls_of s commands) ++ asked n rest ≡ commands ++ [] =
    λ i. asked_own s commands i ++ asked_before n (n + 1) scripts (next_low n low) (next_high n (length scripts) high) (omega arith) i in
    let first : asked n (calls_of s commands ++ rest) ≡ commands = asked-append n (calls_of s commands) rest ∙ own ∙ append-nil commands in
    let others = map_range-same (λ k. asked k (calls_of s commands ++ rest)) (λ k. asked k rest) (n + 1) (length scripts)
    (λ k above. asked-append k (calls_of s commands) rest ∙ ap (λ cs. cs ++ asked k rest) (asked_other k s commands (is_below n k (omega (arith, above))))) in
    let more = others ∙ asked_all (n + 1) scripts (next_low n low) (next_high n (length scripts) high) in
    λ i. first i ∷ more i

abbrev IsWithin : ℕ → Call → Type 0
IsWithin count c = c.0.value ≤ count

calls_within : (count : ℕ) (s : SessionNo) (commands : List Command) → s.value ≤ count → All (IsWithin count) (calls_of s commands)
calls_within count s [] within = All-nil (IsWithin count)
calls_within count s (c ∷ commands) within = All-cons (IsWithin count) (s, c) (calls_of s commands) within (calls_within count s commands within)

all_within : (count n : ℕ) (scripts : List (List Command)) (low : 1 ≤ n) (high : n + length scripts ≤ 9) → n + length scripts ≤ count + 1
    → All (IsWithin count) (calls_from n scripts low high)
all_within count n [] low high within = All-nil (IsWithin count)
all_within count n (commands ∷ scripts) low high within =
    let s = session n (low, this_high n (length scripts) high) in
    let rest = calls_from (n + 1) scripts (next_low n low) (next_high n (length scripts) high) in
    All-append (IsWithin count) (calls_of s commands) rest (calls_within count s commands (omega (arith, within)))
    (all_within count (n + 1) scripts (next_low n low) (next_high n (length scripts) high) (omega (arith, within)))

-- ---- their history

module _ (nodes : List NodeInfo) where
  abbrev next_entry : World → Call → Entry
  next_entry w c = entry c.0 c.1 (outcome_in nodes w c.0 c.1).0

  abbrev history_of : World → List Call → List Entry
  history_of w [] = []
  history_of w (c ∷ cs) = next_entry w c ∷ history_of (next_world nodes w (next_entry w c)) cs

  is_legal : (w : World) (cs : List Call) → IsLegalFrom nodes w (history_of w cs)
  is_legal w [] = tt
  is_legal w (c ∷ cs) = (refl, is_legal (next_world nodes w (next_entry w c)) cs)

  has_asked : (k place : ℕ) (w : World) (cs : List Call)
      → map (λ n. n.entry.command) (filter (λ n. is_of k n.entry) (numbered_from place (history_of w cs))) ≡ asked k cs
  has_asked k place w [] = refl
  has_asked k place w (c ∷ cs) = let more = has_asked k (place + 1) (next_world nodes w (next_entry w c)) cs in elim (cases_Bool (nat_eq c.0.value k)) [
    | inl own ↦ rw own (ap (λ ds. c.1 ∷ ds) more)
    | inr other ↦ rw other more
  ]

  is_within : (count : ℕ) (w : World) (cs : List Call) → All (IsWithin count) cs → All (λ e. e.session.value ≤ count) (history_of w cs)
  is_within count w [] all = All-nil (λ e. e.session.value ≤ count)
  is_within count w (c ∷ cs) all =
      let w' = next_world nodes w (next_entry w c) in
      All-cons (λ e. e.session.value ≤ count) (next_entry w c) (history_of w' cs) (All-head (IsWithin count) c cs all)
      (is_within count w' cs (All-tail (IsWithin count) c cs all))

  -- the calls from a world on, and what is printed of their replies
  pub some_made : (base : World) (before : ℕ) (scripts : List (List Command)) → length scripts ≤ 8
      → (history : List Entry) × AreMadeFrom nodes base before scripts history (replies_text_behind before (length scripts) history)
  some_made base before scripts few =
      let low : 1 ≤ 1 = lit≤ tt in
      let high : 1 + length scripts ≤ 9 = omega (arith, few) in
      let cs = calls_from 1 scripts low high in
      let h = history_of base cs in
      let each = map_range-same (λ k. commands_of k h) (λ k. asked k cs) 1 (length scripts) (λ k above. has_asked k 1 base cs) in (
        h,
        record {
          legal = is_legal base cs;
          made = each ∙ asked_all 1 scripts low high;
          alone = is_within (length scripts) base cs (all_within (length scripts) 1 scripts low high (omega arith));
          printed = refl;
        },
      )

  pub some_play : (base : World) (before : ℕ) (scripts : List (List Command)) → length scripts ≤ 8 → (text : List ℕ) × IsPlayedFrom nodes base before scripts text
  some_play base before scripts few =
      let (h, made) = some_made base before scripts few in
      let text = replies_text_behind before (length scripts) h in
      let whole = text ++ tables_text nodes (state_from nodes base h) in
      (whole, played_with_tables nodes nodes base before scripts h text whole made refl refl)
