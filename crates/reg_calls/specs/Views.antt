-- What callers see of a hive, and what is true of every hive.
use Rattle.std.specs.Prelude.{◌≡◌, ◌≢◌, ℕ, ◌+◌, ◌<◌, ◌≤◌, ◌==◌, ◌&&◌, List, [], ◌∷◌, ◌++◌, length, slice_get, slice_index_or, if◌then◌else◌, zero, suc}
use Rattle.std.specs.Prelude.{Option, Some, None, is_some, false, ◌⊎◌, refl}
use Rattle.std.specs.List.{AllByRecursion}
use Rattle.std.specs.Coded.{Coded, code_by, coded×, coded_list, coded_ℕ}
use Rattle.reg_heap.specs.Paths.{Tree, coded_tree}
use Rattle.reg_heap.specs.Trees.{IsTree, IsWithinLimits}
use Rattle.reg_arena.specs.Arena.{IsSound}
use Rattle.reg_model.specs.declared.statuses.TheConstants.{NOT_ENOUGH_MEMORY, NO_SYSTEM_RESOURCES}
use Rattle.reg_model.specs.declared.limits.TheConstants.{JOURNAL_LIMIT, SESSIONS_LIMIT}
use Rattle.reg_model.specs.Worlds.{Handle}
use Rattle.reg_model.specs.Causes.{State, change_cause, query_cause}
use Rattle.reg_model.specs.Callbacks.{Callbacks, change_status, query_status}
use Rattle.reg_model.specs.Replies.{reply_to, refusal, body_of}
use Rattle.reg_model.specs.Calls.{entry_due, changes_keys}
use Rattle.reg_model.specs.Histories.{state_of, IsLegal, replay, pending, fired}
use Rattle.reg_model.specs.contracts.reply.Entry.{the_row}
use Rattle.reg_model.specs.declared.reply.Entry.{Entry}
use Rattle.reg_model.specs.declared.reply.ChangeReply.{ChangeReply}
use Rattle.reg_model.specs.declared.notice.Notice.{Notice}
use Rattle.reg_model.specs.declared.answer.AnswerBody.{AnswerBody}
use Rattle.reg_model.specs.declared.answer.AnswerBody.TheVariants.{Refused, Short, Value, Key, Member, Info, Security}
use Rattle.reg_model.specs.declared.call.Change.{Change}
use Rattle.reg_model.specs.declared.call.Query.{Query}
use Rattle.reg_tree.specs.TreeKeys.{Keys, coded_keys, IsWholeTree}
use Rattle.reg_handles.specs.HandleTables.{coded_handle}
use Rattle.reg_notify.specs.Tables.{Table, coded_notice, coded_table, told_to, taken_by}
use Rattle.reg_calls.specs.declared.store.Store.{Store}
use Rattle.reg_calls.specs.Internal.Stores.{KnowsKeys}
use Rattle.reg_calls.specs.declared.lack.Lack.{Lack}
use Rattle.reg_calls.specs.declared.lack.Lack.TheVariants.{Space, Memory}
use Rattle.reg_calls.specs.Shortages.{is_closing, LacksSpace, growth_of}

-- a hive: the tree that its journal begins with, the number of the journal's first entry, what each session was told before that, the
-- journal, its keys in their bins, its open handles in the order of their numbers, and its watches: those that are pending, and of each
-- session what it was told, with how much of that it took
pub record View : Type 0 where
  pub origin : Tree
  pub base : ℕ
  pub before : List (List Notice)
  pub journal : List Entry
  pub keys : Keys
  pub handles : List Handle
  pub watches : Table

abbrev pub coded_view : Coded View
coded_view =
    code_by (((Tree × ℕ) × (List (List Notice) × List Entry)) × (Keys × (List Handle × Table)))
    (coded× (coded× (coded× coded_tree coded_ℕ) (coded× (coded_list (coded_list coded_notice)) (coded_list the_row.coded)))
    (coded× coded_keys (coded× (coded_list coded_handle) coded_table)))
    (λ v. (((v.origin, v.base), (v.before, v.journal)), (v.keys, (v.handles, v.watches))))
    (λ p. record {
      origin = p.0.0.0;
      base = p.0.0.1;
      before = p.0.1.0;
      journal = p.0.1.1;
      keys = p.1.0;
      handles = p.1.1.0;
      watches = p.1.1.1;
    }) (λ _. refl)

-- how many entries the hive has had, those before its journal among them: the number of the next one
abbrev pub next_of : View → ℕ
next_of v = v.base + length v.journal

-- where a call finds the hive
abbrev pub state : View → State
state v = state_of v.base v.origin v.journal

-- all that a session was told: before the journal began, and by its entries
abbrev pub told_in : View → ℕ → List Notice
told_in v session = slice_index_or v.before session [] ++ fired v.origin v.journal session

-- what is true of every hive: its origin is a tree, its journal is legal, of sessions below 64, and leaves room for the closings;
-- the tree and the handles are those of the replay; the pending watches are the journal's, each session was told just what it was told
-- before and what the journal tells it, and took no more than that; and its bins are sound (cells tile them, and the free lists hold precisely the free
-- ones) and whole: each allocated cell is reached from the root exactly as often as its references say, and they spell the tree
pub record IsHive (v : View) : Type 0 where
  pub origin : IsTree v.origin
  pub limits : IsWithinLimits v.origin
  pub legal : IsLegal v.base v.origin v.journal
  pub sessions : AllByRecursion (λ (e : Entry). e.session < SESSIONS_LIMIT) v.journal
  pub small : length v.journal + length v.handles ≤ JOURNAL_LIMIT
  pub tree : v.keys.tree ≡ (replay v.origin v.journal).tree
  pub handles : v.handles ≡ (replay v.origin v.journal).handles
  pub pending : v.watches.pending ≡ pending v.origin v.journal
  pub told : (s : ℕ) → told_to v.watches s ≡ told_in v s
  pub taken : (s : ℕ) → taken_by v.watches s ≤ length (told_in v s)
  pub sound : IsSound v.keys.bins.bytes v.keys.bins.heads
  pub whole : IsWholeTree v.keys.bins.bytes v.keys.root v.keys.tree

-- what each session was told before a journal: nothing, where that begins with the first entry of all; else what the watches then had
abbrev pub before_of : ℕ → List (List Notice) → List (List Notice)
before_of zero told = []
before_of (suc base) told = told

-- the view of a hive's parts
abbrev pub view_with : Tree → ℕ → List (List Notice) → List Entry → Store → View
view_with origin base told journal store = record {
  origin = origin;
  base = base;
  before = before_of base told;
  journal = journal;
  keys = store.tree;
  handles = store.handles.handles;
  watches = store.watches;
}

-- a hive with its book: of each session that has a seat, how many entries it had before the journal began
pub record Booked : Type 0 where
  pub view : View
  pub noted : List ℕ

abbrev pub coded_booked : Coded Booked
coded_booked =
    code_by (View × List ℕ) (coded× coded_view (coded_list coded_ℕ)) (λ b. (b.view, b.noted)) (λ p. record { view = p.0; noted = p.1 }) (λ _. refl)

-- what is true of a hive's parts: they are a hive; room is kept for the closing of each open handle; and each node that is kept is that of
-- its key
pub record HiveInvariant (origin : Tree) (base : ℕ) (told : List (List Notice)) (journal : List Entry) (store : Store) (room : ℕ) : Type 0 where
  pub hive : IsHive (view_with origin base told journal store)
  pub room_kept : length store.handles.handles ≤ room
  pub known : KnowsKeys store

-- the entry of an accepted change
abbrev pub entry_of : View → ℕ → ℕ → Change → Entry
entry_of v session moment change = entry_due (state v) session moment change

-- the change is accepted: its reply is the one due, the journal grows by its entry, no notice is handed out, the keys are as they were
-- in their bins unless it may have changed some, and the bins are no smaller and grow by no more than it may take
pub record IsAccepted (old new : View) (session moment : ℕ) (change : Change) (reply : ChangeReply) : Type 0 where
  pub says : reply ≡ reply_to (state old) session change
  pub journal : new.journal ≡ old.journal ++ entry_of old session moment change ∷ []
  pub origin : new.origin ≡ old.origin
  pub base : new.base ≡ old.base
  pub before : new.before ≡ old.before
  pub taken : new.watches.taken ≡ old.watches.taken
  pub kept_keys : changes_keys change reply ≡ false → new.keys ≡ old.keys
  pub kept : length old.keys.bins.bytes ≤ length new.keys.bins.bytes
  pub grows : length new.keys.bins.bytes ≤ length old.keys.bins.bytes + growth_of change
  pub hive : IsHive new

-- the status that tells a lack: 1450 for space, 8 for memory
abbrev pub status_of : Lack → ℕ
status_of Space = NO_SYSTEM_RESOURCES
status_of Memory = NOT_ENOUGH_MEMORY

-- an acceptable change isn't made, for want of memory (never a Close) or of space in the bins, and nothing changed
pub record Lacks (old new : View) (session : ℕ) (change : Change) (reply : ChangeReply) : Type 0 where
  pub why : ((reply ≡ refusal NOT_ENOUGH_MEMORY) × (is_closing change ≡ false))
      ⊎ ((reply ≡ refusal NO_SYSTEM_RESOURCES) × LacksSpace old.keys old.handles session change)
  pub same : new ≡ old

-- what a change may be answered, by the cause of its refusal
abbrev pub IsAppliedBy : Option ℕ → View → View → ℕ → ℕ → Change → ChangeReply → Type 0
IsAppliedBy (Some status) old new session moment change reply = (reply ≡ refusal status) × (new ≡ old)
IsAppliedBy None old new session moment change reply = IsAccepted old new session moment change reply ⊎ Lacks old new session change reply

-- what a change may be answered, where these callbacks are asked
abbrev pub IsApplied : Callbacks → View → View → ℕ → ℕ → Change → ChangeReply → Type 0
IsApplied callbacks old new session moment change reply =
    IsAppliedBy (change_cause (state old) session change (change_status callbacks (state old).world session moment change)) old new session moment change reply

-- there are some bytes, if any were asked for
abbrev pub AreSome : Option (List ℕ) → Type 0
AreSome None = ⊥
AreSome (Some bytes) = bytes ≢ []

-- the answer holds a name or bytes: a byte at least
abbrev pub HoldsBytes : AnswerBody → Type 0
HoldsBytes (Refused status) = ⊥
HoldsBytes (Short status kind size) = ⊥
HoldsBytes (Value kind size bytes) = AreSome bytes
HoldsBytes (Key name time) = name ≢ []
HoldsBytes (Member name kind size bytes) = (name ≢ []) ⊎ AreSome bytes
HoldsBytes (Info subkeys longest_key values longest_value largest security time) = ⊥
HoldsBytes (Security bytes) = bytes ≢ []

abbrev pub is_told : Option ℕ → AnswerBody → AnswerBody
is_told (Some status) body = Refused status
is_told None body = body

-- what is told in the place of an answer that is due: that answer, or 8 where it holds a name or bytes
abbrev pub IsTold : AnswerBody → AnswerBody → Type 0
IsTold due body = (body ≡ due) ⊎ ((body ≡ Refused NOT_ENOUGH_MEMORY) × HoldsBytes due)

-- what a question may be answered, where the callbacks' status is c: the refusal, or the answer due, or 8 in its place
abbrev pub IsReadBy : ℕ → State → ℕ → Query → AnswerBody → Type 0
IsReadBy c s session query body = IsTold (is_told (query_cause s session query c) (body_of s session query)) body

-- the same where these callbacks are asked
abbrev pub IsRead : Callbacks → State → ℕ → Query → AnswerBody → Type 0
IsRead callbacks s session query body = IsReadBy (query_status callbacks s.world session query) s session query body

-- a session was handed the next notice of all that it was told, or none where it took them all; one more is then counted as
-- taken, and nothing else changed
pub record IsNoticeTaken (old new : View) (session : ℕ) (notice : Option Notice) : Type 0 where
  pub next : notice ≡ slice_get (told_in old session) (taken_by old.watches session)
  pub taken : (s : ℕ) → taken_by new.watches s ≡ (if s == session && is_some notice then taken_by old.watches s + 1 else taken_by old.watches s)
  pub origin : new.origin ≡ old.origin
  pub base : new.base ≡ old.base
  pub before : new.before ≡ old.before
  pub journal : new.journal ≡ old.journal
  pub keys : new.keys ≡ old.keys
  pub handles : new.handles ≡ old.handles
  pub pending : new.watches.pending ≡ old.watches.pending
  pub told : new.watches.told ≡ old.watches.told
  pub hive : IsHive new
