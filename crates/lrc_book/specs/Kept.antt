-- Internal: no public clause reaches these definitions.
-- What a book keeps of its history.
use Rattle.std.specs.Prelude.{ℕ, ◌≤◌, ◌++◌, length, List}
use Rattle.lrc_store.specs.declared.store.Store.{Store}
use Rattle.lrc_store.specs.Stores.{IsOf, AreGrantsOf}
use Rattle.lrc_rules.specs.declared.entry.Entry.{Entry}
use Rattle.lrc_rules.specs.Histories.{World, state_from, IsLegalFrom}
use Rattle.lrc_images.specs.Bases.{IsBase}
use Rattle.lrc_store.specs.declared.cursor.RepairCursor.{RepairCursor}
use Rattle.lrc_store.specs.Repairing.{IsRepairCursor}

-- What a book keeps is the store of the state after its history, the counts of the grants up to then, and a repair cursor. It began in a base;
-- the history is legal and not longer than the limit.
pub record IsKept (store : Store) (counts : List ℕ) (cursor : RepairCursor) (limit : ℕ) (base : World) (history : List Entry) : Type 0 where
  pub based : IsBase store.topology base
  pub store_is : IsOf (state_from store.topology base history) store
  pub counted : AreGrantsOf (base.past ++ history) counts
  pub cursor_is : IsRepairCursor store.topology (state_from store.topology base history) cursor
  pub legal : IsLegalFrom store.topology base history
  pub few : length history ≤ limit
  pub limited : limit ≤ 1000000
