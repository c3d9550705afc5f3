-- The entries of receipts among the entries that a session has seen, as these grow.
use Rattle.std.proofs.Common.{◌≡◌, ℕ, zero, suc, ◌+◌, ◌-◌, ◌<◌, ◌≤◌, inl, inr, All, List, [], ◌∷◌, ◌++◌, length, length-append, map, get_or, Some, slice_get, refl, ap, sym, ◌∙◌, subst, arith, append_assoc, append-nil}
use Rattle.std.proofs.lemmas.List.{get_or_push, get_or_append_left, get_or-map, length-map}
use Rattle.std.proofs.lemmas.List.Elements.{All-head, All-tail}
use Rattle.std.proofs.lemmas.Bool.{cases_lt}
use mathlib.Core.List.{IsPrefix}
use Rattle.lrc_topology.specs.declared.NodeInfo.{NodeInfo}
use Rattle.lrc_rules.specs.declared.command.Command.{Command}
use Rattle.lrc_rules.specs.declared.entry.Entry.{Entry}
use Rattle.lrc_board.specs.declared.batch.Batch.{Batch}
use Rattle.lrc_board.specs.declared.receipt.Receipt.{Receipt}
use Rattle.lrc_sessions.specs.Views.{SessionView}
use Rattle.lrc_sessions.specs.Calls.{IsCalled, AreCalled}
use Rattle.lrc_sessions.specs.Receipts.{entries_at, receipts_from, IsBatchIn}
use Rattle.lrc_sessions.specs.Runs.{StandsAt, AreStanding, HavePassed}
use Rattle.lrc_sessions.proofs.ReceiptLemmas.{entries_at-last}

-- an element of a prefix is in the whole list, at the same index
prefix_get : {A : Type 0} (xs ys : List A) (k : ℕ) (x : A) → IsPrefix xs ys → slice_get xs k ≡ Some x → slice_get ys k ≡ Some x
prefix_get [] ys k x p h = absurd cc
prefix_get (y ∷ xs) [] k x p h = absurd (cc (p.1))
prefix_get (y ∷ xs) (z ∷ ys) zero x p h = cc (p.1, h)
prefix_get (y ∷ xs) (z ∷ ys) (suc k) x p h = prefix_get xs ys k x (p.0, cc (p.1)) h

-- the same for the entry of a call
pub stands_on : (number : ℕ) (command : Command) (r : Receipt) (seen later : List Entry) → IsPrefix seen later → StandsAt number command r seen → StandsAt number command r later
stands_on number command r seen later on at = (at.0, prefix_get seen later (r.place - 1) at.0 on at.1, at.2)

get_last : {A : Type 0} (xs : List A) (x : A) → slice_get (xs ++ x ∷ []) (length xs) ≡ Some x
get_last [] x = refl
get_last (y ∷ xs) x = get_last xs x

pub prefix_long : {A : Type 0} (xs ys : List A) → IsPrefix xs ys → length xs ≤ length ys
prefix_long xs ys p = omega (arith, sym (ap length p.1) ∙ length-append xs p.0)

pub prefix_step : {A : Type 0} (xs ys zs : List A) → IsPrefix xs ys → IsPrefix ys zs → IsPrefix xs zs
prefix_step xs ys zs p q = (p.0 ++ q.0, sym (append_assoc xs p.0 q.0) ∙ (ap (λ w. w ++ q.0) p.1 ∙ q.1))

pub standing_none : (number former : ℕ) (script : List Command) (seen : List Entry) → AreStanding number former script [] seen
standing_none number former script seen = record {
  stand = λ i r c low. absurd (omega arith);
  above = λ i r low. absurd (omega arith);
  rise = λ i j r q up low. absurd (omega arith);
}

pub standing_on : (number former : ℕ) (script : List Command) (rs : List Receipt) (seen later : List Entry) → IsPrefix seen later
    → AreStanding number former script rs seen → AreStanding number former script rs later
standing_on number former script rs seen later on s = record {
  stand = λ i r c low. let at = s.stand i r c low in (at.0, prefix_get seen later ((get_or rs i r).place - 1) at.0 on at.1, at.2);
  above = λ i r low. ((s.above i r low).0, let a = (s.above i r low).1 in let b = prefix_long seen later on in omega arith);
  rise = s.rise;
}

-- a property of each so far and of one more holds for all
each_more : (P : ℕ → Receipt → Type 0) (rs : List Receipt) (r : Receipt) → ((i : ℕ) (d : Receipt) → i < length rs → P i (get_or rs i d))
    → P (length rs) r → (i : ℕ) (d : Receipt) → i < length (rs ++ r ∷ []) → P i (get_or (rs ++ r ∷ []) i d)
each_more P rs r old new i d low = elim (cases_lt i (length rs)) [
  | inl before ↦ subst (P i) (sym (get_or_append_left rs (r ∷ []) d i before)) (old i d before)
  | inr after ↦
      let same : length rs ≡ i = (let l = length-append rs (r ∷ []) in omega arith) in
      subst (P i) (sym (get_or_push rs r d i (omega arith))) (subst (λ j. P j r) same new)
]

pub stands_now : (nodes : List NodeInfo) (number : ℕ) (command wanted : Command) (before after : SessionView) (r : Receipt)
    → IsCalled nodes before command r after → before.number ≡ number → command ≡ wanted → StandsAt number wanted r after.seen
stands_now nodes number command wanted before after r m is same =
    let old : List Entry = before.seen ++ m.between in
    let len : r.place - 1 ≡ length old = omega (arith, m.place, ap length m.seen, length-append old (m.entry ∷ [])) in
    let got : slice_get after.seen (r.place - 1) ≡ Some m.entry =
    ap (λ (l : List Entry). slice_get l (r.place - 1)) m.seen ∙ ap (λ (k : ℕ). slice_get (old ++ m.entry ∷ []) k) len ∙ get_last old m.entry in
    (m.entry, got, (m.entry_is.0 ∙ is, m.entry_is.1 ∙ same, m.entry_is.2))

-- one entry more, which is that of a call
standing_push : (number former : ℕ) (script : List Command) (rs : List Receipt) (seen : List Entry) (e : Entry)
    → AreStanding number former script rs seen → former ≤ length seen → e.session.value ≡ number → ((c : Command) → e.command ≡ get_or script (length rs) c)
    → AreStanding number former script (rs ++ record { place = length seen + 1; reply = e.reply } ∷ []) (seen ++ e ∷ [])
standing_push number former script rs seen e s start is same =
    let r : Receipt = record { place = length seen + 1; reply = e.reply } in
    let later : List Entry = seen ++ e ∷ [] in
    let long = length-append seen (e ∷ []) in
    let up = standing_on number former script rs seen later (e ∷ [], refl) s in
    let index : r.place - 1 ≡ length seen = omega arith in
    let got : slice_get later (r.place - 1) ≡ Some e = ap (slice_get later) index ∙ get_last seen e in
    record {
      stand = λ j q c below. each_more (λ k x. StandsAt number (get_or script k c) x later) rs r (λ k x l. up.stand k x c l) (e, got, (is, same c, refl)) j q below;
      above = λ j q below. each_more (λ k x. (former < x.place) × (x.place ≤ length later)) rs r up.above (omega (arith, start), omega (arith, long)) j q below;
      rise = λ j k q x less below. each_more (λ n y. j < n → (get_or (rs ++ r ∷ []) j q).place < y.place) rs r
          (λ n y l h. let f = get_or_append_left rs (r ∷ []) q j (omega arith) in let up = s.rise j n q y h l in
          let g = ap (λ (z : Receipt). z.place) f in omega arith)
          (λ h. let f = get_or_append_left rs (r ∷ []) q j h in let a = (s.above j q h).1 in
          let g = ap (λ (z : Receipt). z.place) f in omega arith)
          k x below less;
    }

-- the entries of several calls more
standing_entries : (number former : ℕ) (script : List Command) (rs : List Receipt) (seen es : List Entry)
    → AreStanding number former script rs seen → former ≤ length seen → All (λ e. e.session.value ≡ number) es
    → ((i : ℕ) (e : Entry) (c : Command) → i < length es → (get_or es i e).command ≡ get_or script (length rs + i) c)
    → AreStanding number former script (rs ++ receipts_from (length seen + 1) es) (seen ++ es)
standing_entries number former script rs seen [] s start alone same =
    rw (append-nil rs, append-nil seen) s
standing_entries number former script rs seen (e ∷ es) s start alone same =
    let P : Entry → Type 0 = λ x. x.session.value ≡ number in
    let r : Receipt = record { place = length seen + 1; reply = e.reply } in
    let long = length-append seen (e ∷ []) in
    let many = length-append rs (r ∷ []) in
    let first : (c : Command) → e.command ≡ get_or script (length rs) c =
    λ c. subst (λ k. e.command ≡ get_or script k c) (let z : length rs + 0 ≡ length rs = omega arith in z) (same 0 e c (omega arith)) in
    let one = standing_push number former script rs seen e s start (All-head P e es alone) first in
    let rest : (i : ℕ) (x : Entry) (c : Command) → i < length es → (get_or es i x).command ≡ get_or script (length (rs ++ r ∷ []) + i) c =
    λ i x c low. subst (λ k. (get_or es i x).command ≡ get_or script k c) (let z : length rs + suc i ≡ length (rs ++ r ∷ []) + i = omega (arith, many) in z) (same (suc i) x c (omega (arith, low))) in
    let all = standing_entries number former script (rs ++ r ∷ []) (seen ++ e ∷ []) es one (omega (arith, start, long)) (All-tail P e es alone) rest in
    let next : length (seen ++ e ∷ []) + 1 ≡ length seen + 1 + 1 = omega (arith, long) in
    subst (λ (h : List Entry). AreStanding number former script (rs ++ receipts_from (length seen + 1) (e ∷ es)) h) (append_assoc seen (e ∷ []) es)
    (subst (λ (xs : List Receipt). AreStanding number former script xs ((seen ++ e ∷ []) ++ es)) (append_assoc rs (r ∷ []) (receipts_from (length seen + 1 + 1) es))
    (subst (λ k. AreStanding number former script ((rs ++ r ∷ []) ++ receipts_from k es) ((seen ++ e ∷ []) ++ es)) next all))

-- ---- a batch

-- what a session has seen after a batch starts with what it had seen before
pub batch_on : (nodes : List NodeInfo) (commands : List Command) (first : ℕ) (before after : SessionView) → AreCalled nodes before commands first after
    → IsPrefix before.seen after.seen
batch_on nodes commands first before after m = (m.between ++ m.entries, sym (append_assoc before.seen m.between m.entries) ∙ sym m.seen)

-- there is an entry for each command of a batch
pub batch_long : (nodes : List NodeInfo) (commands : List Command) (first : ℕ) (before after : SessionView) (m : AreCalled nodes before commands first after)
    → length m.entries ≡ length commands
batch_long nodes commands first before after m = sym (length-map m.entries (λ (e : Entry). e.command)) ∙ ap length m.entries_are.0

-- the receipts of a batch that was made last
pub batch_receipts : (nodes : List NodeInfo) (commands : List Command) (before after : SessionView) (b : Batch) (m : AreCalled nodes before commands b.first after)
    → b.count ≡ length commands → 0 < b.count → receipts_from b.first (entries_at after.seen b) ≡ receipts_from (length (before.seen ++ m.between) + 1) m.entries
batch_receipts nodes commands before after b m count some =
    let old : List Entry = before.seen ++ m.between in
    let first = m.place (omega (arith, count, some)) in
    let long = batch_long nodes commands b.first before after m in
    let at : entries_at after.seen b ≡ m.entries =
    ap (λ (h : List Entry). entries_at h b) m.seen ∙ entries_at-last old m.entries b first (count ∙ sym long) in
    ap (receipts_from b.first) at ∙ ap (λ k. receipts_from k m.entries) first

-- the commands of a batch are those of the script after the calls so far
abbrev pub AreNext : List Command → ℕ → List Command → Type 0
AreNext script done commands = (i : ℕ) (c d : Command) → i < length commands → get_or commands i d ≡ get_or script (done + i) c

command_at : (es : List Entry) (commands : List Command) (i : ℕ) (e : Entry) → map (λ x. x.command) es ≡ commands → i < length es
    → (get_or es i e).command ≡ get_or commands i e.command
command_at es commands i e is low =
    sym (get_or-map (λ (x : Entry). x.command) es i e e.command low) ∙ ap (λ (cs : List Command). get_or cs i e.command) is

-- the receipts of a batch stand behind those so far
pub standing_batch : (nodes : List NodeInfo) (number former : ℕ) (script commands : List Command) (rs : List Receipt) (before after : SessionView) (b : Batch)
    → AreCalled nodes before commands b.first after → b.count ≡ length commands → 0 < b.count → before.number ≡ number
    → AreStanding number former script rs before.seen → former ≤ length before.seen → AreNext script (length rs) commands
    → AreStanding number former script (rs ++ receipts_from b.first (entries_at after.seen b)) after.seen
standing_batch nodes number former script commands rs before after b m count some is s start next =
    let old : List Entry = before.seen ++ m.between in
    let up = standing_on number former script rs before.seen old (m.between, refl) s in
    let far = length-append before.seen m.between in
    let long = batch_long nodes commands b.first before after m in
    let alone : All (λ e. e.session.value ≡ number) m.entries = λ k e low. m.entries_are.1 k e low ∙ is in
    let same : (i : ℕ) (e : Entry) (c : Command) → i < length m.entries → (get_or m.entries i e).command ≡ get_or script (length rs + i) c =
    λ i e c low. command_at m.entries commands i e m.entries_are.0 low ∙ next i c e.command (omega (arith, low, long)) in
    let all = standing_entries number former script rs old m.entries up (omega (arith, start, far)) alone same in
    subst (λ (xs : List Receipt). AreStanding number former script (rs ++ xs) after.seen) (sym (batch_receipts nodes commands before after b m count some))
    (subst (AreStanding number former script (rs ++ receipts_from (length old + 1) m.entries)) (sym m.seen) all)

-- a batch that a session has just made is among the entries that it has seen
pub batch_in : (nodes : List NodeInfo) (most : ℕ) (commands : List Command) (before after : SessionView) (b : Batch) → AreCalled nodes before commands b.first after
    → b.count ≡ length commands → 0 < b.count → b.count ≤ most → IsBatchIn most after.seen b
batch_in nodes most commands before after b m count some few =
    let old : List Entry = before.seen ++ m.between in
    let first = m.place (omega (arith, count, some)) in
    let long = batch_long nodes commands b.first before after m in
    let all = ap length m.seen ∙ length-append old m.entries in
    record { some = omega (arith, some); few = few; placed = omega (arith, first); within = omega (arith, first, long, all, count) }

-- ---- calls that passed the gate

-- some calls more that passed it
pub passed_more : (passes : ℕ → ℕ → Type 0) (number done more : ℕ) → HavePassed passes number done → ((i : ℕ) → i < more → passes number (done + i + 1))
    → HavePassed passes number (done + more)
passed_more passes number done more old new i low = elim (cases_lt i done) [
  | inl before ↦ old i before
  | inr after ↦
      let same : done + (i - done) + 1 ≡ i + 1 = omega (arith, after) in
      subst (passes number) same (new (i - done) (omega (arith, low, after)))
]
