-- Events that hit no pending watch, as they are remembered.
use Rattle.std.specs.Prelude.{◌≡◌, ◌<◌, ◌≤◌, ℕ, false, List, [], ◌∷◌, get_or, Some, None}
use Rattle.std.specs.List.{AllByRecursion}
use Rattle.reg_heap.specs.Paths.{Path}
use Rattle.reg_model.specs.Worlds.{Handle, At, numbered, path_at}
use Rattle.reg_model.specs.Watches.{Watch, Event, event_at, is_hit, few_ending, watch_of}
use Rattle.reg_model.specs.Calls.{entry_due}
use Rattle.reg_model.specs.declared.call.Change.{Change}
use Rattle.reg_calls.specs.declared.quiet.Quiet.{Quiet}
use Rattle.reg_calls.specs.declared.quiet.Unhit.{Unhit}
use Rattle.reg_calls.specs.declared.quiet.OwnEvent.{OwnEvent}
use Rattle.reg_calls.specs.declared.store.Store.{Store}
use Rattle.reg_calls.specs.Internal.Stores.{at, world_of, IsTarget}
use Rattle.reg_calls.specs.declared.store.JournalEnd.{JournalEnd}

abbrev pub nothing : Unhit
nothing = record { handle = 0; bits = 0; at = 0 }

-- an event of some kind of the key of a handle, at an entry of a number, is remembered
pub record Remembers (q : Quiet) (handle bits number : ℕ) : Type 0 where
  pub kind : 0 < bits
  pub since : q.since ≤ number
  pub place : ℕ
  pub row : get_or q.rows.items place nothing ≡ record { handle = handle; bits = bits; at = number }

-- an event hits none of some watches
abbrev pub HitsNone : Event → List Watch → Type 0
HitsNone x vs = AllByRecursion (λ (v : Watch). is_hit v x ≡ false) vs

-- the handle of a number leads to the key at a path
pub record LeadsTo (hs : List Handle) (number : ℕ) (p : Path) : Type 0 where
  pub handle : Handle
  pub found : numbered number hs ≡ Some handle
  pub destination : handle.destination ≡ At p

-- what is remembered is of an entry and a handle so far, and hits no pending watch wherever the handle leads
pub record IsUnhit (store : Store) (next handle bits number : ℕ) : Type 0 where
  pub past : number < next
  pub opened : handle < next
  pub none : (p : Path) → LeadsTo store.handles.handles handle p → HitsNone (event_at bits p) store.watches.pending

abbrev pub AreUnhit : ℕ → Store → Quiet → Type 0
AreUnhit next store q = (handle bits number : ℕ) → Remembers q handle bits number → IsUnhit store next handle bits number

-- an admitted change is just this event of the key of its handle, and asks for no watch
pub record IsOwnEvent (end : JournalEnd) (store : Store) (session : ℕ) (change : Change) (event : OwnEvent) : Type 0 where
  pub target : IsTarget store session event.handle
  pub ends : (moment : ℕ) → few_ending (world_of store) (entry_due (at end store) session moment change) ≡
      record {
        by = end.next;
        events = event_at event.bits (path_at session event.handle store.handles.handles) ∷ [];
        removes = λ (q : Path). false;
        closed = None;
      }
  pub asks : (moment : ℕ) → watch_of (world_of store) (entry_due (at end store) session moment change) ≡ None
