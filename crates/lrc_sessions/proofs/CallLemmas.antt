-- The number of entries of a session in a history, and a session after a call.
use Rattle.std.proofs.Common.{◌≡◌, ℕ, ◌+◌, ◌-◌, ◌<◌, ◌≤◌, cond, nat_eq, All, List, [], ◌∷◌, ◌++◌, length, length-append, map, take, get_or, refl, sym, ap, subst, ◌∙◌, arith, append-nil}
use Rattle.std.proofs.lemmas.List.{get_or_push, length-map, length-take, length-take-le, nil_from_length}
use Rattle.std.proofs.lemmas.List.Elements.{All-head, All-tail}
use Rattle.std.proofs.lemmas.List.Sums.{sum_by-append, sum_by-cons}
use Rattle.std.proofs.lemmas.Bool.Decides.{nat_tests}
use mathlib.Core.List.{IsPrefix}
use Rattle.lrc_code.specs.declared.fault.Fault.{Fault}
use Rattle.lrc_code.specs.declared.fault.Fault.TheVariants.{OutOfMemory, HistoryFull}
use Rattle.lrc_code.specs.declared.numbers.SessionNo.{SessionNo}
use Rattle.lrc_topology.specs.declared.NodeInfo.{NodeInfo}
use Rattle.lrc_rules.specs.declared.command.Command.{Command}
use Rattle.lrc_rules.specs.declared.entry.Entry.{Entry}
use Rattle.lrc_rules.specs.Histories.{IsLegal}
use Rattle.lrc_rules.specs.Sessions.{is_of}
use Rattle.lrc_board.specs.declared.receipt.Receipt.{Receipt}
use Rattle.lrc_board.specs.Batches.{AreMadeBehind}
use Rattle.lrc_sessions.specs.Views.{SessionView}
use Rattle.lrc_sessions.specs.Counts.{made_in}
use Rattle.lrc_sessions.specs.Calls.{IsCalled, AreCalled, IsLeft, IsFullIn}
use Rattle.lrc_sessions.proofs.StandingLemmas.{batch_on}

made_in-append : (k : ℕ) (xs ys : List Entry) → made_in k (xs ++ ys) ≡ made_in k xs + made_in k ys
made_in-append k xs ys = sum_by-append (λ (e : Entry). cond (is_of k e) 1 0) xs ys

-- a prefix of a history has no more entries of a session
pub made_in-prefix : (k : ℕ) (xs ys : List Entry) → IsPrefix xs ys → made_in k xs ≤ made_in k ys
made_in-prefix k xs ys p = omega (arith, ap (made_in k) p.1, made_in-append k xs p.0)

one_of : (k x : ℕ) → x ≡ cond (nat_eq k k) 1 0 → x ≡ 1
one_of k x h = grind (arith, nat_tests)

-- if all entries are of the session, it made as many as there are
made_in-all : (k : ℕ) (es : List Entry) → All (λ e. e.session.value ≡ k) es → made_in k es ≡ length es
made_in-all k [] all = refl
made_in-all k (e ∷ es) all =
    let P : Entry → Type 0 = λ e. e.session.value ≡ k in
    let sum = sum_by-cons (λ (x : Entry). cond (is_of k x) 1 0) e es in
    let one = one_of k (cond (is_of k e) 1 0) (ap (λ (j : ℕ). cond (nat_eq j k) 1 0) (All-head P e es all)) in
    let more = made_in-all k es (All-tail P e es all) in
    omega (arith, sum, one, more)

-- the entries of the session's calls are as many more
pub made_in-more : (k : ℕ) (xs es : List Entry) → All (λ e. e.session.value ≡ k) es → made_in k (xs ++ es) ≡ made_in k xs + length es
made_in-more k xs es all = made_in-append k xs es ∙ ap (λ n. made_in k xs + n) (made_in-all k es all)

-- a session that had seen a prefix of the history, and has now seen all of it with the entries of its calls
pub called_all : (nodes : List NodeInfo) (before after : SessionView) (session : SessionNo) (commands : List Command) (first : ℕ) (history later : List Entry)
    → session.value ≡ before.number → IsPrefix before.seen history → AreMadeBehind history session commands later → after.seen ≡ later
    → after.number ≡ before.number → after.made ≡ before.made + length commands → IsLegal nodes after.seen → first ≡ length history + 1
    → AreCalled nodes before commands first after
called_all nodes before after session commands first history later is begins m seen number made legal place = record {
  number = number;
  made = made;
  legal = legal;
  between = begins.0;
  entries = m.added;
  entries_are = (m.made, λ k e low. ap (λ (s : SessionNo). s.value) (m.alone k e low) ∙ is);
  seen = seen ∙ m.behind ∙ ap (λ (h : List Entry). h ++ m.added) (sym begins.1);
  place = λ _. place ∙ ap (λ (h : List Entry). length h + 1) (sym begins.1);
}

-- a history to which no call was added
pub unmade : (before after : List Entry) (session : SessionNo) (commands : List Command) (count : ℕ) → count ≡ 0 → AreMadeBehind before session (take count commands) after
    → after ≡ before
unmade before after session commands count none m =
    let few = length-take count commands in
    let long = sym (length-map m.added (λ (e : Entry). e.command)) ∙ ap length m.made in
    let nothing : m.added ≡ [] = nil_from_length m.added (omega (arith, none, few, long)) in
    m.behind ∙ ap (λ (es : List Entry). before ++ es) nothing ∙ append-nil before

-- a history is longer by the calls of a batch
pub length_behind : (before after : List Entry) (session : SessionNo) (commands : List Command) (count : ℕ) → AreMadeBehind before session (take count commands) after
    → count ≤ length commands → length after ≡ length before + count
length_behind before after session commands count m few =
    let long = sym (length-map m.added (λ (e : Entry). e.command)) ∙ ap length m.made ∙ length-take-le count commands few in
    let all = ap length m.behind ∙ length-append before m.added in
    omega (arith, long, all)

-- a session that had seen all of its calls has with those of a batch
pub made_behind : (made count : ℕ) (seen before after later : List Entry) (session : SessionNo) (commands : List Command)
    → AreMadeBehind before session (take count commands) after → count ≤ length commands → made ≤ made_in session.value seen → IsPrefix seen before → later ≡ after
    → made + count ≤ made_in session.value later
made_behind made count seen before after later session commands m few enough on is =
    let k = session.value in
    let grown = made_in-prefix k seen before on in
    let all = made_in-more k before m.added (λ j e low. ap (λ (s : SessionNo). s.value) (m.alone j e low)) in
    let end : made_in k later ≡ made_in k (before ++ m.added) = ap (made_in k) (is ∙ m.behind) in
    let long = sym (length-map m.added (λ (e : Entry). e.command)) ∙ ap length m.made ∙ length-take-le count commands few in
    omega (arith, enough, grown, all, end, long)

-- a session that made no call
pub called_none : (nodes : List NodeInfo) (session : SessionView) (first : ℕ) → IsLegal nodes session.seen → AreCalled nodes session [] first session
called_none nodes session first legal = record {
  number = refl;
  made = omega arith;
  legal = legal;
  between = [];
  entries = [];
  entries_are = (refl, λ k e low. absurd (omega (arith, low)));
  seen = sym (append-nil (session.seen ++ []) ∙ append-nil session.seen);
  place = λ some. absurd (omega (arith, some));
}

-- there is one entry of one command
one_entry : (command : Command) (es : List Entry) → map (λ e. e.command) es ≡ command ∷ [] → (e : Entry) × (es ≡ e ∷ [])
one_entry command [] is = absurd (cc)
one_entry command (e ∷ []) is = (e, refl)
one_entry command (e ∷ f ∷ es) is = absurd (let long = ap length is in omega (arith, long, length-map es (λ (x : Entry). x.command)))

-- a batch of one call is a call, whose reply the last entry has
pub called_one : (nodes : List NodeInfo) (before after : SessionView) (command : Command) (r : Receipt)
    → AreCalled nodes before (command ∷ []) r.place after → ((d : Entry) → 0 < length after.seen → r.reply ≡ (get_or after.seen (length after.seen - 1) d).reply)
    → IsCalled nodes before command r after
called_one nodes before after command r m reply =
    let (e, one) = one_entry command m.entries m.entries_are.0 in
    let old : List Entry = before.seen ++ m.between in
    let seen : after.seen ≡ old ++ e ∷ [] = m.seen ∙ ap (λ (es : List Entry). old ++ es) one in
    let long = ap length seen ∙ length-append old (e ∷ []) in
    let first = m.place (omega arith) in
    let far = length-append before.seen m.between in
    let last : get_or after.seen (length after.seen - 1) e ≡ e =
    ap (λ (h : List Entry). get_or h (length after.seen - 1) e) seen ∙ get_or_push old e e (length after.seen - 1) (omega (arith, long)) in
    let alone = subst (λ (es : List Entry). All (λ x. x.session.value ≡ before.number) es) one m.entries_are.1 in
    let commands = subst (λ (es : List Entry). map (λ x. x.command) es ≡ command ∷ []) one m.entries_are.0 in
    record {
      number = m.number;
      made = m.made;
      legal = m.legal;
      between = m.between;
      entry = e;
      entry_is = (alone 0 e (omega arith), cc (commands), sym (reply e (omega (arith, long)) ∙ ap (λ (x : Entry). x.reply) last));
      seen = seen;
      place = omega (arith, first, long);
      later = omega (arith, first, far);
    }

-- a session after a fault that came before its first call
pub left_none : (nodes : List NodeInfo) (limit first : ℕ) (before after : SessionView) (f : Fault) → AreCalled nodes before [] first after
    → IsFullIn limit after.seen f → (f ≡ OutOfMemory → after ≡ before) → IsLeft nodes limit before f after
left_none nodes limit first before after OutOfMemory m full same =
    let still = same refl in (still, subst (λ (s : SessionView). length s.seen < limit) still full)
left_none nodes limit first before after HistoryFull m full same =
    (m.number, m.made ∙ (let z : before.made + 0 ≡ before.made = omega arith in z), m.legal, batch_on nodes [] first before after m, full)
