-- The receipts of batches, as a history grows and as batches are made.
use Rattle.std.proofs.Common.{◌≡◌, ℕ, ◌+◌, ◌-◌, ◌≤◌, All, List, [], ◌∷◌, ◌++◌, length, length-append, length-take, take, drop, append-nil, flat_map, refl, sym, ap, subst, ◌∙◌, arith}
use Rattle.std.proofs.lemmas.List.{take-append-le, drop-append-le, length-drop, take_all, drop_at}
use Rattle.std.proofs.lemmas.List.Elements.{All-head, All-tail, All-weaker}
use Rattle.std.proofs.lemmas.Grind.{flat_map-append}
use mathlib.Core.List.{IsPrefix}
use Rattle.lrc_rules.specs.declared.entry.Entry.{Entry}
use Rattle.lrc_board.specs.declared.batch.Batch.{Batch}
use Rattle.lrc_board.specs.declared.receipt.Receipt.{Receipt}
use Rattle.lrc_sessions.specs.Receipts.{entries_at, receipts_from, receipts_in, IsBatchIn}

-- ---- a batch

pub length-receipts_from : (place : ℕ) (es : List Entry) → length (receipts_from place es) ≡ length es
length-receipts_from place [] = refl
length-receipts_from place (e ∷ es) = let more = length-receipts_from (place + 1) es in omega (arith, more)

-- a history has as many entries of a batch as the batch has calls
pub length-entries_at : (most : ℕ) (history : List Entry) (b : Batch) → IsBatchIn most history b → length (entries_at history b) ≡ b.count
length-entries_at most history b is =
    let t = length-take b.count (drop (b.first - 1) history) in
    let d = length-drop (b.first - 1) history in
    let placed = is.placed in
    let within = is.within in
    omega (arith, t, d, placed, within)

-- the entries of a batch stay the same as the history grows
entries_at-append : (most : ℕ) (history more : List Entry) (b : Batch) → IsBatchIn most history b → entries_at (history ++ more) b ≡ entries_at history b
entries_at-append most history more b is =
    let placed = is.placed in
    let within = is.within in
    let d = length-drop (b.first - 1) history in
    ap (take b.count) (drop-append-le (b.first - 1) history more (omega (arith, placed, within)))
    ∙ take-append-le b.count (drop (b.first - 1) history) more (omega (arith, placed, within, d))

-- the entries of the batch that was made last
pub entries_at-last : (history entries : List Entry) (b : Batch) → b.first ≡ length history + 1 → b.count ≡ length entries → entries_at (history ++ entries) b ≡ entries
entries_at-last history entries b first count =
    let few : length entries ≤ b.count = omega (arith, count) in
    ap (take b.count) (drop_at history entries (b.first - 1) (omega (arith, first))) ∙ take_all b.count entries few

-- ---- batches

-- batches that a session has seen, of entries that stand in a history which starts with them
pub seen_later : (most : ℕ) (seen later : List Entry) (b : Batch) → IsPrefix seen later → IsBatchIn most seen b → IsBatchIn most later b
seen_later most seen later b on is =
    let long = sym (ap length on.1) ∙ length-append seen on.0 in
    let within = is.within in
    record { some = is.some; few = is.few; placed = is.placed; within = omega (arith, long, within) }

pub all_seen_later : (most : ℕ) (seen later : List Entry) (bs : List Batch) → IsPrefix seen later → All (IsBatchIn most seen) bs → All (IsBatchIn most later) bs
all_seen_later most seen later bs on all = All-weaker (IsBatchIn most seen) (IsBatchIn most later) (λ b. seen_later most seen later b on) bs all

in_append : (most : ℕ) (seen more : List Entry) (bs : List Batch) → All (IsBatchIn most seen) bs → receipts_in (seen ++ more) bs ≡ receipts_in seen bs
in_append most seen more [] all = refl
in_append most seen more (b ∷ bs) all =
    let here = ap (receipts_from b.first) (entries_at-append most seen more b (All-head (IsBatchIn most seen) b bs all)) in
    let rest = in_append most seen more bs (All-tail (IsBatchIn most seen) b bs all) in
    λ i. here i ++ rest i

-- a history that starts with what a session has seen has the receipts of its batches
pub receipts_in-later : (most : ℕ) (seen later : List Entry) (bs : List Batch) → IsPrefix seen later → All (IsBatchIn most seen) bs → receipts_in later bs ≡ receipts_in seen bs
receipts_in-later most seen later bs on all = subst (λ (h : List Entry). receipts_in h bs ≡ receipts_in seen bs) on.1 (in_append most seen on.0 bs all)

-- one batch more
pub receipts_in-push : (history : List Entry) (bs : List Batch) (b : Batch) → receipts_in history (bs ++ b ∷ []) ≡ receipts_in history bs ++ receipts_from b.first (entries_at history b)
receipts_in-push history bs b =
    flat_map-append (λ (x : Batch). receipts_from x.first (entries_at history x)) bs (b ∷ [])
    ∙ ap (λ (rs : List Receipt). receipts_in history bs ++ rs) (append-nil (receipts_from b.first (entries_at history b)))
