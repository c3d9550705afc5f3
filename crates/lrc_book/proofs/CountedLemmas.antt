-- The counters of grants, as entries are added.
use Rattle.std.proofs.Common.{[], ◌≡◌, ℕ, ◌+◌, ◌<◌, ◌≤◌, cond, Bool, false, List, ◌∷◌, ◌++◌, length, arith, sym, ap, ◌∙◌}
use Rattle.std.proofs.lemmas.List.Sums.{count_by-le-length, sum_by-append}
use Rattle.lrc_store.specs.declared.cursor.RepairCursor.{RepairCursor}
use Rattle.lrc_code.specs.declared.numbers.StripeNo.{StripeNo}
use Rattle.lrc_code.specs.declared.numbers.Fragment.{Fragment}
use Rattle.lrc_rules.specs.declared.entry.Entry.{Entry}
use Rattle.lrc_store.specs.declared.store.Store.{Store}
use Rattle.lrc_rules.specs.Leases.{is_grant, grants}
use Rattle.lrc_rules.specs.Histories.{World}
use Rattle.lrc_store.specs.Stores.{AreGrantsOf, AreFew}
use Rattle.lrc_book.specs.Kept.{IsKept}
use Rattle.lrc_rules.proofs.LeaseCountLemmas.{grants-push}

-- a fragment was granted at most as often as there are entries
pub grants-low : (past : List Entry) (s : StripeNo) (f : Fragment) → grants past s f ≤ length past
grants-low past s f = count_by-le-length (λ (e : Entry). is_grant s f e.reply) past

-- the grants of two lists, one after the other
pub grants-both : (past history : List Entry) (s : StripeNo) (f : Fragment) → grants (past ++ history) s f ≡ grants past s f + grants history s f
grants-both past history s f = sum_by-append (λ (x : Entry). cond (is_grant s f x.reply) 1 0) past history

pub few-grants : (store : Store) (counts : List ℕ) (cursor : RepairCursor) (limit : ℕ) (base : World) (history : List Entry) → IsKept store counts cursor limit base history
    → length history < limit → AreFew counts
few-grants store counts cursor limit base history kept room = λ s f.
    let low = grants-low history s f in
    let same = kept.counted s f ∙ grants-both base.past history s f in
    let first = kept.based.counts s f in
    omega (arith, low, same, first, room, kept.limited)

grants-same : (past : List Entry) (e : Entry) (s : StripeNo) (f : Fragment) → is_grant s f e.reply ≡ false → grants (past ++ e ∷ []) s f ≡ grants past s f
grants-same past e s f miss = let push = grants-push past e s f ∙ ap (λ (b : Bool). grants past s f + cond b 1 0) miss in omega (arith, push)

-- one more entry that grants none
pub counted-none : (past : List Entry) (e : Entry) (counts : List ℕ) → AreGrantsOf past counts → ((s : StripeNo) (f : Fragment) → is_grant s f e.reply ≡ false)
    → AreGrantsOf (past ++ e ∷ []) counts
counted-none past e counts before none = λ s f. before s f ∙ sym (grants-same past e s f (none s f))
