-- What an admitted change does to the watches, as it is found before anything changes.
use Rattle.std.specs.Prelude.{◌≡◌, ◌≤◌, ℕ, All, [], Some, None, false}
use Rattle.std.specs.List.{AllByRecursion}
use Rattle.reg_heap.specs.Paths.{Path}
use Rattle.reg_model.specs.declared.filters.TheConstants.{EVENTS}
use Rattle.reg_model.specs.declared.call.Change.{Change}
use Rattle.reg_model.specs.Watches.{Watch, Ending, few_ending, watch_of, reason}
use Rattle.reg_model.specs.Calls.{entry_due}
use Rattle.reg_notify.specs.Asked.{ending_by, closing_by}
use Rattle.reg_notify.specs.declared.asked.Event.{Event}
use Rattle.reg_calls.specs.declared.announced.Announced.{Announced}
use Rattle.reg_calls.specs.declared.announced.Announced.TheVariants.{Nothing, Changes, Closes}
use Rattle.reg_calls.specs.declared.store.Store.{Store}
use Rattle.reg_calls.specs.Internal.Stores.{at, world_of}
use Rattle.reg_calls.specs.declared.store.JournalEnd.{JournalEnd}

-- the ending of watches that is announced of an entry of that number
abbrev pub ending_in : Announced → ℕ → Ending
ending_in Nothing by = record { by = by; events = []; removes = λ (q : Path). false; closed = None }
ending_in (Changes events removed) by = ending_by events.items removed by
ending_in (Closes handle) by = closing_by handle by

-- its events are of the four kinds alone
abbrev pub HasKinds : Announced → Type 0
HasKinds Nothing = Unit {0}
HasKinds (Changes events removed) = All (λ (x : Event). x.bits ≤ EVENTS) events.items
HasKinds (Closes handle) = Unit {0}

-- this is announced of an admitted change: it ends each pending watch as the few events of the change do that its watches can tell
-- apart, and for the same reason; and it doesn't end the watch that the change asks for itself
pub record IsAnnounced (end : JournalEnd) (store : Store) (session : ℕ) (change : Change) (announced : Announced) : Type 0 where
  pub kinds : HasKinds announced
  pub ends : (moment : ℕ) → AllByRecursion (λ (v : Watch). reason (ending_in announced end.next) v ≡
      reason (few_ending (world_of store) (entry_due (at end store) session moment change)) v) store.watches.pending
  pub spares : (moment : ℕ) (v : Watch) → watch_of (world_of store) (entry_due (at end store) session moment change) ≡ Some v →
      reason (ending_in announced end.next) v ≡ None
