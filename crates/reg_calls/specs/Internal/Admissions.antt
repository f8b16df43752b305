-- What each change was admitted with: what its commit takes, as admission found it in the store where the journal ended so.
use Rattle.std.specs.Prelude.{◌≡◌, ◌≢◌, ◌<◌, ◌++◌, ℕ, List, [], map, length, Some, None, Result, Ok, Err, false, true, option_copied, vec_len, vec_capacity, MatchOption}
use Rattle.reg_names.specs.Names.{folded, is_path, path_of}
use Rattle.reg_heap.specs.Members.{index_named}
use Rattle.reg_heap.specs.declared.limits.TheConstants.{VALUES_LIMIT}
use Rattle.reg_heap.specs.Paths.{Path}
use Rattle.reg_heap.specs.Edits.{folded_path, values_at, missing, are_too_many, may_not_go}
use Rattle.reg_model.specs.declared.statuses.TheConstants.{NOT_ENOUGH_MEMORY}
use Rattle.reg_model.specs.Worlds.{path_at, path_from}
use Rattle.reg_model.specs.Causes.{change_cause, asked_before}
use Rattle.reg_model.specs.declared.call.Change.{Change}
use Rattle.reg_model.specs.declared.call.Change.TheVariants.{OpenRoot as RootOpened, OpenKey as KeyOpened, CreateKey as KeyCreated, SetValue as ValueSet}
use Rattle.reg_model.specs.declared.call.Change.TheVariants.{DeleteValue as ValueDeleted, DeleteKey as KeyDeleted, DeleteTree as TreeDeleted}
use Rattle.reg_model.specs.declared.call.Change.TheVariants.{SetSecurity as SecuritySet, Notify as Notified, Close as Closed}
use Rattle.reg_tree.specs.TreeKeys.{Keys, IsAt, IsResolved}
use Rattle.reg_tree.specs.Reaching.{IsWalkedTo}
use Rattle.reg_tree.specs.declared.node.Node.{Node}
use Rattle.reg_tree.specs.declared.node.Reached.{Reached}
use Rattle.reg_calls.specs.declared.store.Store.{Store}
use Rattle.reg_calls.specs.declared.open_key.OpenKey.{OpenKey}
use Rattle.reg_calls.specs.declared.create_key.CreateKey.{CreateKey}
use Rattle.reg_calls.specs.declared.set_value.SetValue.{SetValue}
use Rattle.reg_calls.specs.declared.delete_value.DeleteValue.{DeleteValue}
use Rattle.reg_calls.specs.declared.delete_key.DeleteKey.{DeleteKey}
use Rattle.reg_calls.specs.declared.delete_tree.DeleteTree.{DeleteTree}
use Rattle.reg_calls.specs.declared.set_security.SetSecurity.{SetSecurity}
use Rattle.reg_calls.specs.declared.notify.Notify.{Notify}
use Rattle.reg_calls.specs.declared.changes.Admitted.{Admitted}
use Rattle.reg_calls.specs.declared.changes.Admitted.TheVariants.{OpenRoot as RootAdmitted, OpenKey as KeyAdmitted, CreateKey as NewKeyAdmitted}
use Rattle.reg_calls.specs.declared.changes.Admitted.TheVariants.{SetValue as SetAdmitted, DeleteValue as RemovalAdmitted, DeleteKey as DeletionAdmitted}
use Rattle.reg_calls.specs.declared.changes.Admitted.TheVariants.{DeleteTree as TreeAdmitted, SetSecurity as SecurityAdmitted, Notify as WatchAdmitted}
use Rattle.reg_calls.specs.declared.changes.Admitted.TheVariants.{Close as CloseAdmitted}
use Rattle.reg_calls.specs.declared.refusal.Refusal.{Refusal}
use Rattle.reg_calls.specs.declared.refusal.Refusal.TheVariants.{Cause, Memory}
use Rattle.reg_calls.specs.Shortages.{is_closing}
use Rattle.reg_calls.specs.Internal.Stores.{at, IsTarget}
use Rattle.reg_calls.specs.Internal.DeletedTrees.{IsTreeFound}
use Rattle.reg_calls.specs.declared.store.JournalEnd.{JournalEnd}

-- nothing refuses a change, where no callback does
abbrev pub IsClear : JournalEnd → Store → ℕ → Change → Type 0
IsClear end store session change = change_cause (at end store) session change 0 ≡ None

-- a text is the path from the root to the end of a path from a handle's key, in folded names
pub record IsTextOf (store : Store) (session handle : ℕ) (path text : List ℕ) : Type 0 where
  pub names : path_of text ≡ path_from session handle store.handles.handles path
  pub valid : is_path text ≡ true
  pub folded : map folded (path_of text) ≡ path_of text

-- the path from a handle's key leads to that key itself
pub record IsOwnKey (store : Store) (session handle : ℕ) (path : List ℕ) : Type 0 where
  pub target : IsTarget store session handle
  pub empty : path ≡ []

-- the key at the end of a path from a key
abbrev pub IsKeyFound : Keys → Node → List ℕ → Node → Type 0
IsKeyFound keys from path node = (p : Path) → IsAt keys p from → IsResolved keys (p ++ folded_path path) (Some node)

-- how far a path from a key leads, which names are missing and where they belong; these aren't too many
pub record IsReachFound (keys : Keys) (from : Node) (path : List ℕ) (reached : Reached) : Type 0 where
  pub walked : IsWalkedTo keys from path reached
  pub missing : (p : Path) → IsAt keys p from → path_of reached.missing.now ≡ missing keys.tree p (path_of path)
  pub few : (start : Node) → (text : List ℕ) → IsWalkedTo keys start text reached → (p : Path) → IsAt keys p start → are_too_many keys.tree p (path_of text) ≡ false
  pub there : (p : Path) → IsAt keys p from → reached.missing.now ≡ [] → IsAt keys (p ++ folded_path path) reached.node

-- the key at the end of a path that has names, with where it stands below its parent; nothing keeps it
pub record IsDeletionFound (keys : Keys) (from : Node) (path : List ℕ) (reached : Reached) : Type 0 where
  pub walked : IsWalkedTo keys from path reached
  pub below : path_of path ≢ []
  pub there : reached.missing.now ≡ []
  pub goes : (p : Path) → IsAt keys p reached.node → may_not_go keys.tree p ≡ false
  pub node : IsKeyFound keys from path reached.node

-- a handle to the key at a path from a handle's key: the path's text, or none where it is that handle's own key; and the key
pub record AdmitsOpenKey (end : JournalEnd) (store : Store) (session handle : ℕ) (path : List ℕ) (found : OpenKey) : Type 0 where
  pub clear : IsClear end store session (KeyOpened handle path found.mask)
  pub by : found.by ≡ handle
  pub text : MatchOption found.text (IsOwnKey store session handle path) (λ text. IsTextOf store session handle path text.items)
  pub node : IsAt store.tree (path_from session handle store.handles.handles path) found.node

-- keys made on a path from a handle's key: the path's text, how far it leads, which names are missing and where they belong; these
-- aren't too many
pub record AdmitsCreateKey (end : JournalEnd) (store : Store) (session handle : ℕ) (path : List ℕ) (found : CreateKey) : Type 0 where
  pub clear : IsClear end store session (KeyCreated handle path found.mask (option_copied found.descriptor))
  pub text : IsTextOf store session handle path found.text.items
  pub from : Node
  pub at : IsAt store.tree (path_at session handle store.handles.handles) from
  pub reached : IsWalkedTo store.tree from path found.reached
  pub missing : path_of found.reached.missing.now ≡ missing store.tree.tree (path_at session handle store.handles.handles) (path_of path)
  pub few : (start : Node) → (text : List ℕ) → IsWalkedTo store.tree start text found.reached → (p : Path) → IsAt store.tree p start →
      are_too_many store.tree.tree p (path_of text) ≡ false
  pub there : found.reached.missing.now ≡ [] → IsAt store.tree (path_from session handle store.handles.handles path) found.reached.node

-- a value set in a handle's key: the handle, the key, and where it has a value of that name, or that it has room for one more
pub record AdmitsSetValue (end : JournalEnd) (store : Store) (session handle : ℕ) (found : SetValue) : Type 0 where
  pub clear : IsClear end store session (ValueSet handle found.name.now found.kind found.bytes.now)
  pub by : found.handle ≡ handle
  pub node : IsAt store.tree (path_at session handle store.handles.handles) found.node
  pub place : (p : Path) → IsAt store.tree p found.node → found.place ≡ index_named found.name.now (values_at store.tree.tree p)
  pub room : (p : Path) → IsAt store.tree p found.node → found.place ≡ None → length (values_at store.tree.tree p) < VALUES_LIMIT

-- a value removed from a handle's key: the handle, the key, and where it has the value of that name
pub record AdmitsDeleteValue (end : JournalEnd) (store : Store) (session handle : ℕ) (name : List ℕ) (found : DeleteValue) : Type 0 where
  pub clear : IsClear end store session (ValueDeleted handle name)
  pub by : found.handle ≡ handle
  pub node : IsAt store.tree (path_at session handle store.handles.handles) found.node
  pub place : index_named name (values_at store.tree.tree (path_at session handle store.handles.handles)) ≡ Some found.index

-- the key at a path from a handle's key deleted: the path's text, and the key with where it stands below its parent; nothing keeps it
pub record AdmitsDeleteKey (end : JournalEnd) (store : Store) (session handle : ℕ) (path : List ℕ) (found : DeleteKey) : Type 0 where
  pub clear : IsClear end store session (KeyDeleted handle path)
  pub text : IsTextOf store session handle path found.text.items
  pub from : Node
  pub at : IsAt store.tree (path_at session handle store.handles.handles) from
  pub reached : IsWalkedTo store.tree from path found.reached
  pub below : path_of path ≢ []
  pub there : found.reached.missing.now ≡ []
  pub goes : (p : Path) → IsAt store.tree p found.reached.node → may_not_go store.tree.tree p ≡ false
  pub node : IsAt store.tree (path_from session handle store.handles.handles path) found.reached.node

-- a whole tree deleted, by a path from a handle's key: the path's text, with room for a byte more, and what goes
pub record AdmitsDeleteTree (end : JournalEnd) (store : Store) (session handle : ℕ) (path : List ℕ) (found : DeleteTree) : Type 0 where
  pub clear : IsClear end store session (TreeDeleted handle path)
  pub text : IsTextOf store session handle path found.text.items
  pub room : vec_len found.text < vec_capacity found.text
  pub from : Node
  pub at : IsAt store.tree (path_at session handle store.handles.handles) from
  pub target : IsTreeFound store.tree from path found.target

-- the descriptor of a handle's key set: the handle and the key
pub record AdmitsSetSecurity (end : JournalEnd) (store : Store) (session handle : ℕ) (found : SetSecurity) : Type 0 where
  pub clear : IsClear end store session (SecuritySet handle found.descriptor.now)
  pub by : found.handle ≡ handle
  pub node : IsAt store.tree (path_at session handle store.handles.handles) found.node

-- a watch of a handle's key
abbrev pub AdmitsNotify : JournalEnd → Store → ℕ → Notify → Type 0
AdmitsNotify end store session found = IsClear end store session (Notified found.handle found.filter found.subtree)

-- a change was admitted with this
abbrev pub Admits : JournalEnd → Store → ℕ → Change → Admitted → Type 0
Admits end store session change (RootAdmitted found) = (change ≡ RootOpened found.mask) × IsClear end store session (RootOpened found.mask)
Admits end store session change (KeyAdmitted found) =
    (handle : ℕ) × (path : List ℕ) × (change ≡ KeyOpened handle path found.mask) × AdmitsOpenKey end store session handle path found
Admits end store session change (NewKeyAdmitted found) =
    (handle : ℕ) × (path : List ℕ) × (change ≡ KeyCreated handle path found.mask (option_copied found.descriptor))
    × AdmitsCreateKey end store session handle path found
Admits end store session change (SetAdmitted found) =
    (handle : ℕ) × (change ≡ ValueSet handle found.name.now found.kind found.bytes.now) × AdmitsSetValue end store session handle found
Admits end store session change (RemovalAdmitted found) =
    (handle : ℕ) × (name : List ℕ) × (change ≡ ValueDeleted handle name) × AdmitsDeleteValue end store session handle name found
Admits end store session change (DeletionAdmitted found) =
    (handle : ℕ) × (path : List ℕ) × (change ≡ KeyDeleted handle path) × AdmitsDeleteKey end store session handle path found
Admits end store session change (TreeAdmitted found) =
    (handle : ℕ) × (path : List ℕ) × (change ≡ TreeDeleted handle path) × AdmitsDeleteTree end store session handle path found
Admits end store session change (SecurityAdmitted found) =
    (handle : ℕ) × (change ≡ SecuritySet handle found.descriptor.now) × AdmitsSetSecurity end store session handle found
Admits end store session change (WatchAdmitted found) =
    (change ≡ Notified found.handle found.filter found.subtree) × AdmitsNotify end store session found
Admits end store session change (CloseAdmitted found) = (change ≡ Closed found.handle) × IsClear end store session (Closed found.handle)

-- a change of which the callbacks' status is c isn't admitted: by its cause; or nothing refuses it, and memory is wanting for it, as it
-- never is for a Close
abbrev pub IsNotAdmitted : ℕ → JournalEnd → Store → ℕ → Change → Refusal → Type 0
IsNotAdmitted c end store session change (Cause status) = change_cause (at end store) session change c ≡ Some status
IsNotAdmitted c end store session change Memory = IsClear end store session change × (is_closing change ≡ false) × (asked_before change c ≡ None)

-- what a caller is told of it
abbrev pub status_told : Refusal → ℕ
status_told (Cause status) = status
status_told Memory = NOT_ENOUGH_MEMORY

-- what an admission answers, where the callbacks' status is c
abbrev pub IsAdmission : ℕ → JournalEnd → Store → ℕ → Change → Result Admitted Refusal → Type 0
IsAdmission c end store session change (Ok admitted) = Admits end store session change admitted × (asked_before change c ≡ None)
IsAdmission c end store session change (Err refusal) = IsNotAdmitted c end store session change refusal
