-- Worlds and legal histories, as entries are added.
use Rattle.std.proofs.Common.{[], ◌≡◌, ℕ, ◌<◌, List, ◌∷◌, ◌++◌, length, sym, ap, subst, ◌∙◌, length-append, append_assoc, arith}
use Rattle.std.proofs.lemmas.List.Sums.{count_by-le-length}
use Rattle.lrc_topology.specs.declared.NodeInfo.{NodeInfo}
use Rattle.lrc_rules.specs.declared.entry.Entry.{Entry}
use Rattle.lrc_rules.specs.States.{State}
use Rattle.lrc_rules.specs.Histories.{World, outcome_in, world_from, state_from, IsLegalFrom}
use Rattle.lrc_store.specs.declared.cursor.RepairCursor.{RepairCursor}
use Rattle.lrc_store.specs.Repairing.{IsRepairCursor}
use Rattle.lrc_images.specs.Bases.{IsBase}
use Rattle.lrc_book.specs.Kept.{IsKept}
use Rattle.lrc_store.specs.declared.store.Store.{Store}
use Rattle.lrc_store.specs.Stores.{IsOf, AreGrantsOf}
use Rattle.lrc_rules.specs.Changes.{changed_by}
use Rattle.lrc_rules.proofs.StepLemmas.{step-changed}
use Rattle.lrc_rules.specs.Leases.{is_tick}
use Rattle.lrc_rules.proofs.ClockLemmas.{worlds-clock}
use Rattle.lrc_rules.proofs.AlikeWorldLemmas.{world_from-append, legal-append}

pub legal_push : (nodes : List NodeInfo) (base : World) (h : List Entry) (e : Entry) → IsLegalFrom nodes base h → (outcome_in nodes (world_from nodes base h) e.session e.command).0 ≡ e.reply → IsLegalFrom nodes base (h ++ e ∷ [])
legal_push nodes base h e legal is = (legal-append nodes base h (e ∷ [])).1 (legal, (is, tt))

-- the state after one more entry is what its command changed
pub state_push : (nodes : List NodeInfo) (base : World) (h : List Entry) (e : Entry) → (outcome_in nodes (world_from nodes base h) e.session e.command).0 ≡ e.reply → state_from nodes base (h ++ e ∷ []) ≡ changed_by (state_from nodes base h) e.command e.reply
state_push nodes base h e is =
    ap (λ (w : World). w.state) (world_from-append nodes base h (e ∷ [])) ∙ step-changed nodes (world_from nodes base h).past (state_from nodes base h) e.session e.command ∙ ap (changed_by (state_from nodes base h) e.command) is

-- a step that is made and recorded keeps what is kept
pub kept_push : (k next : Store) (counts counts_next : List ℕ) (cursor cursor_next : RepairCursor) (limit : ℕ) (base : World) (h : List Entry) (e : Entry)
    → IsKept k counts cursor limit base h → length h < limit → (outcome_in k.topology (world_from k.topology base h) e.session e.command).0 ≡ e.reply
    → next.topology ≡ k.topology → IsOf (changed_by (state_from k.topology base h) e.command e.reply) next → AreGrantsOf ((base.past ++ h) ++ e ∷ []) counts_next
    → IsRepairCursor k.topology (changed_by (state_from k.topology base h) e.command e.reply) cursor_next → IsKept next counts_next cursor_next limit base (h ++ e ∷ [])
kept_push k next counts counts_next cursor cursor_next limit base h e kept room is same now counted ahead = record {
  based = subst (λ ns. IsBase ns base) (sym same) kept.based;
  counted = subst (λ past. AreGrantsOf past counts_next) (append_assoc base.past h (e ∷ [])) counted;
  cursor_is =
      subst (λ ns. IsRepairCursor ns (state_from ns base (h ++ e ∷ [])) cursor_next) (sym same)
      (subst (λ (st : State). IsRepairCursor k.topology st cursor_next) (sym (state_push k.topology base h e is)) ahead);
  store_is = subst (λ ns. IsOf (state_from ns base (h ++ e ∷ [])) next) (sym same) (subst (λ (st : State). IsOf st next) (sym (state_push k.topology base h e is)) now);
  legal = subst (λ ns. IsLegalFrom ns base (h ++ e ∷ [])) (sym same) (legal_push k.topology base h e kept.legal is);
  few = rw (length-append h (e ∷ [])) (omega (arith, room));
  limited = kept.limited;
}

-- the clock of a book with room can still be moved on
pub clock-early : (store : Store) (counts : List ℕ) (cursor : RepairCursor) (limit : ℕ) (base : World) (h : List Entry) → IsKept store counts cursor limit base h
    → length h < limit → store.clock.value < 4294967292
clock-early store counts cursor limit base h kept room =
    omega (arith, kept.store_is.clock_is, worlds-clock store.topology base h, kept.based.ticks, count_by-le-length (λ (e : Entry). is_tick e.command) h, room, kept.limited)
