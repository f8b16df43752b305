-- The keys, the open handles on them and the watches, as calls find and leave them.
use Rattle.std.specs.Prelude.{◌≡◌, ℕ, List, ◌++◌, ◌+◌, ◌<◌, ◌≤◌, false, length, Option, Some, None, All, Result, Ok, Err}
use Rattle.reg_heap.specs.Paths.{Path}
use Rattle.reg_model.specs.declared.limits.TheConstants.{JOURNAL_LIMIT}
use Rattle.reg_model.specs.Worlds.{World, Handle, At, IsStanding, look, after}
use Rattle.reg_model.specs.Watches.{Watch, Ending, few_ending, watch_of, pending_past, notices}
use Rattle.reg_model.specs.Causes.{State, by_handle}
use Rattle.reg_model.specs.Replies.{reply_to}
use Rattle.reg_model.specs.Calls.{entry_due, changes_keys}
use Rattle.reg_model.specs.declared.reply.ChangeReply.{ChangeReply}
use Rattle.reg_model.specs.declared.call.Change.{Change}
use Rattle.reg_names.specs.Names.{path_of}
use Rattle.reg_tree.specs.TreeKeys.{IsAt}
use Rattle.reg_tree.specs.declared.node.Node.{Node}
use Rattle.reg_handles.specs.HandleTables.{payload_on, IsFoldedPath}
use Rattle.reg_notify.specs.Tables.{Table as Watches, told_to}
use Rattle.reg_notify.specs.Asked.{Adds}
use Rattle.reg_calls.specs.Shortages.{is_closing, LacksSpace, growth_of}
use Rattle.reg_calls.specs.declared.store.Store.{Store}
use Rattle.reg_calls.specs.declared.store.KeyHandle.{KeyHandle}
use Rattle.reg_calls.specs.declared.lack.Lack.{Lack}
use Rattle.reg_calls.specs.declared.lack.Lack.TheVariants.{Space, Memory}
use Rattle.reg_calls.specs.declared.store.JournalEnd.{JournalEnd}

-- the world of a store
abbrev pub world_of : Store → World
world_of store = record { tree = store.tree.tree; handles = store.handles.handles }

-- where a call finds it, where the journal ends so
abbrev pub at : JournalEnd → Store → State
at end store = record { kept = end.kept; next = end.next; world = world_of store; pending = store.watches.pending }

-- each node that is kept for a path is that of the key there (that one is kept for each path that a handle leads to is a clause of the
-- table's)
abbrev pub KnowsKeys : Store → Type 0
KnowsKeys store = (text : List ℕ) (node : Node) → payload_on store.handles text ≡ Some node → IsAt store.tree (path_of text) node

-- the root is there, and each key that a handle leads to; each node that is kept is that of its key; the numbers of handles and of
-- pending watches are below the next one; and there are not too many handles
pub record IsReady (end : JournalEnd) (store : Store) : Type 0 where
  pub stand : IsStanding store.tree.tree store.handles.handles
  pub known : KnowsKeys store
  pub below : All (λ (h : Handle). h.number < end.next) store.handles.handles
  pub watched : All (λ (v : Watch). v.number < end.next) store.watches.pending
  pub small : end.kept + length store.handles.handles ≤ JOURNAL_LIMIT

-- the session's handle of that number leads to a key
pub record IsTarget (store : Store) (session number : ℕ) : Type 0 where
  pub handle : Handle
  pub path : Path
  pub found : look session number store.handles.handles ≡ Some handle
  pub destination : handle.destination ≡ At path

-- it was found, with its rights, its key's path and its key
pub record IsOpened (store : Store) (session number : ℕ) (key : KeyHandle) : Type 0 where
  pub target : IsTarget store session number
  pub mask : key.mask ≡ target.handle.mask
  pub path : path_of key.path.now ≡ target.path
  pub text : IsFoldedPath key.path.now
  pub node : IsAt store.tree target.path key.node

-- what a look-up tells: the handle, or the refusal of every call by it
abbrev pub IsLooked : Store → ℕ → ℕ → Result KeyHandle ℕ → Type 0
IsLooked store session number (Ok key) = IsOpened store session number key
IsLooked store session number (Err status) = (f : Handle → Option ℕ) → by_handle f (look session number store.handles.handles) ≡ Some status

-- the watches are one more where one is asked for, and else as they were
abbrev pub Asks : Option Watch → Watches → Watches → Type 0
Asks None old new = new ≡ old
Asks (Some v) old new = Adds v old new

-- an entry's ending and the watch that it asks for have gone over the watches: those that it ends are pending no more, and each session
-- was told of its own
pub record GoesOver (x : Ending) (asked : Option Watch) (old new : Watches) : Type 0 where
  pub pending : new.pending ≡ pending_past x asked old.pending
  pub told : (session : ℕ) → told_to new session ≡ told_to old session ++ notices session x old.pending
  pub taken : new.taken ≡ old.taken

-- a change was made on the store, which met the watches so; this is its reply, the keys are as they were unless it may have changed
-- some, the bins are no smaller and grew by no more than it may take, and each node that is kept is that of its key
pub record IsDoneWith (Meets : Option Watch → Watches → Watches → Type 0) (old new : Store) (session moment : ℕ) (end : JournalEnd) (change : Change) (told : ChangeReply) :
    Type 0 where
  pub world : world_of new ≡ after (world_of old) (entry_due (at end old) session moment change)
  pub reply : told ≡ reply_to (at end old) session change
  pub kept_keys : changes_keys change told ≡ false → new.tree ≡ old.tree
  pub kept : length old.tree.bins.bytes ≤ length new.tree.bins.bytes
  pub grows : length new.tree.bins.bytes ≤ length old.tree.bins.bytes + growth_of change
  pub known : KnowsKeys new
  pub watches : Meets (watch_of (world_of old) (entry_due (at end old) session moment change)) old.watches new.watches

-- it was made, though no watch is ended yet
abbrev pub IsDone : Store → Store → ℕ → ℕ → JournalEnd → Change → ChangeReply → Type 0
IsDone = IsDoneWith Asks

-- it was made, and the watches that it ends were told
abbrev pub IsCarriedOut : Store → Store → ℕ → ℕ → JournalEnd → Change → ChangeReply → Type 0
IsCarriedOut old new session moment end change told =
    IsDoneWith (GoesOver (few_ending (world_of old) (entry_due (at end old) session moment change))) old new session moment end change told

-- the keys, the handles and the watches are as they were, and each node that is kept is that of its key
pub record IsUnchanged (old new : Store) : Type 0 where
  pub tree : new.tree ≡ old.tree
  pub handles : new.handles.handles ≡ old.handles.handles
  pub watches : new.watches ≡ old.watches
  pub known : KnowsKeys new

-- a change that nothing refuses was made, or nothing changed, for want of memory or of space
abbrev pub IsMade : Store → Store → ℕ → ℕ → JournalEnd → Change → Result ChangeReply Lack → Type 0
IsMade old new session moment end change (Ok reply) = IsDone old new session moment end change reply
IsMade old new session moment end change (Err Memory) = IsUnchanged old new × (is_closing change ≡ false)
IsMade old new session moment end change (Err Space) = IsUnchanged old new × LacksSpace old.tree old.handles.handles session change

-- the same, and the watches that a change ends were told
abbrev pub IsCarried : Store → Store → ℕ → ℕ → JournalEnd → Change → Result ChangeReply Lack → Type 0
IsCarried old new session moment end change (Ok reply) = IsCarriedOut old new session moment end change reply
IsCarried old new session moment end change (Err lack) = IsMade old new session moment end change (Err lack)
