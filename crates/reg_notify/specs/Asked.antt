-- What is asked of a table of watches, and what comes of it.
use Rattle.std.specs.Prelude.{◌≡◌, ℕ, ◌++◌, ◌∷◌, Bool, false, List, [], filter, map, Some, None}
use Rattle.reg_heap.specs.Paths.{Path}
use Rattle.reg_heap.specs.Edits.{is_within, is_under}
use Rattle.reg_model.specs.Worlds.{same_path}
use Rattle.reg_model.specs.Watches.{Watch, Ending, event_at, stays, notices}
use Rattle.reg_model.specs.Watches.{Event as Happening}
use Rattle.reg_notify.specs.Tables.{Table, told_to}
use Rattle.reg_notify.specs.declared.asked.Event.{Event}
use Rattle.reg_notify.specs.declared.asked.Registration.{Registration}
use Rattle.reg_notify.specs.declared.asked.Removed.{Removed}
use Rattle.reg_notify.specs.declared.asked.Removed.TheVariants.{Nothing, Key, Within, Under}

-- the watch that is asked for
abbrev pub watch_in : Registration → Watch
watch_in r = record { number = r.number; session = r.session; handle = r.handle; path = r.place; filter = r.filter; subtree = r.subtree }

-- events as the model has them
abbrev pub events_in : List Event → List Happening
events_in events = map (λ (x : Event). event_at x.bits x.place) events

-- the removed keys, by their paths
abbrev pub removed_by : Removed → Path → Bool
removed_by Nothing q = false
removed_by (Key p) q = same_path q p
removed_by (Within p) q = is_within p q
removed_by (Under p) q = is_under p q

-- an entry of that number, with its events and the keys that it removes
abbrev pub ending_by : List Event → Removed → ℕ → Ending
ending_by events removed by = record { by = by; events = events_in events; removes = removed_by removed; closed = None }

-- an entry of that number that closes a handle
abbrev pub closing_by : ℕ → ℕ → Ending
closing_by handle by = record { by = by; events = []; removes = λ (q : Path). false; closed = Some handle }

-- the watches that an entry ends are pending no more, and each session was told a notice of each of its own, in the order of their
-- numbers
pub record Fires (x : Ending) (old new : Table) : Type 0 where
  pub pending : new.pending ≡ filter (stays x) old.pending
  pub told : (session : ℕ) → told_to new session ≡ told_to old session ++ notices session x old.pending
  pub taken : new.taken ≡ old.taken

-- one watch more
pub record Adds (v : Watch) (old new : Table) : Type 0 where
  pub pending : new.pending ≡ old.pending ++ v ∷ []
  pub told : new.told ≡ old.told
  pub taken : new.taken ≡ old.taken
