-- What changes are events of, and the watches that they end (Win32 registry reference, `RegNotifyChangeKeyValue`).
use Rattle.std.specs.Prelude.{◌≡◌, ℕ, ◌==◌, ◌&&◌, ◌||◌, not, nat_lt, Bool, false, List, [], ◌∷◌, ◌++◌, map, filter, length, if◌then◌else◌}
use Rattle.std.specs.Prelude.{bit_and, Option, Some, None, is_some, option_to_list}
use Rattle.std.specs.List.{list_any, filter_map}
use Rattle.std.specs.FinMap.{keys}
use Rattle.reg_names.specs.Names.{path_of}
use Rattle.reg_heap.specs.Paths.{Path, Tree}
use Rattle.reg_heap.specs.Edits.{values_at, above, child_path, last_there, missing, is_within, is_under}
use Rattle.reg_model.specs.declared.filters.TheConstants.{NAME, LAST_SET, SECURITY}
use Rattle.reg_model.specs.Worlds.{World, Handle, At, numbered, path_at, path_from, same_path}
use Rattle.reg_model.specs.declared.call.Change.{Change}
use Rattle.reg_model.specs.declared.call.Change.TheVariants.{CreateKey, SetValue, DeleteValue, DeleteKey, DeleteTree, SetSecurity, Notify, Close}
use Rattle.reg_model.specs.declared.notice.Notice.{Notice}
use Rattle.reg_model.specs.declared.notice.Reason.{Reason}
use Rattle.reg_model.specs.declared.notice.Reason.TheVariants.{Matched, Gone, Closed}
use Rattle.reg_model.specs.declared.reply.Entry.{Entry}

-- what happened to a key: the bits of its kinds, and the key's path
pub record Event : Type 0 where
  pub bits : ℕ
  pub path : Path

-- a notification that was asked for: the number of its entry, the session and handle that asked, the path that the handle led to,
-- the filter, and whether the keys below are watched too
pub record Watch : Type 0 where
  pub number : ℕ
  pub session : ℕ
  pub handle : ℕ
  pub path : Path
  pub filter : ℕ
  pub subtree : Bool

-- a watch's handle is open, its session's, and leads to the watch's key
pub record IsWatching (hs : List Handle) (v : Watch) : Type 0 where
  pub handle : Handle
  pub found : numbered v.handle hs ≡ Some handle
  pub session : handle.session ≡ v.session
  pub destination : handle.destination ≡ At v.path

-- an event hits a watch where they share a bit, and it is at the watch's key, or below it where the keys below are watched
abbrev pub is_hit : Watch → Event → Bool
is_hit v x =
    not (bit_and v.filter x.bits == 0) && (same_path v.path x.path || v.subtree && is_within v.path x.path)

-- ---- what an entry does

abbrev pub event_at : ℕ → Path → Event
event_at bits p = record { bits = bits; path = p }

-- of keys named one below the other, the path above each
abbrev pub above_each : Path → List (List ℕ) → List Path
above_each p [] = []
above_each p (name ∷ names) = p ∷ above_each (child_path p name) names

-- making each key that a path misses is an event at the key above it
abbrev pub makings : Tree → Path → List (List ℕ) → List Event
makings t p names = map (event_at NAME) (above_each (last_there t p names) (missing t p names))

-- and so is removing each key that passes a test
abbrev pub removals : Tree → (Path → Bool) → List Event
removals t gone = map (λ (q : Path). event_at NAME (above q)) (filter gone (keys t))

-- removing the values of a key is one, where it has any
abbrev pub cleared : Tree → Path → List Event
cleared t p = if nat_lt 0 (length (values_at t p)) then event_at LAST_SET p ∷ [] else []

-- the events of an accepted change, in the world that it met: one line for each change that has any
unfoldable pub events : World → Entry → List Event
events w e = by e.change
  where
    by : Change → List Event
    by (CreateKey h path mask given) = makings w.tree (path_at e.session h w.handles) (path_of path)
    by (SetValue h name kind bytes) = event_at LAST_SET (path_at e.session h w.handles) ∷ []
    by (DeleteValue h name) = event_at LAST_SET (path_at e.session h w.handles) ∷ []
    by (DeleteKey h path) = event_at NAME (above (path_from e.session h w.handles path)) ∷ []
    by (DeleteTree h path) =
        if length path == 0 then
        removals w.tree (is_under (path_at e.session h w.handles)) ++ cleared w.tree (path_at e.session h w.handles)
        else
        (removals w.tree (is_within (path_from e.session h w.handles path)))
    by (SetSecurity h descriptor) = event_at SECURITY (path_at e.session h w.handles) ∷ []
    by change = []

-- whether an accepted change removes the key at a path
unfoldable pub removes : World → Entry → Path → Bool
removes w e q = by e.change
  where
    by : Change → Bool
    by (DeleteKey h path) = same_path q (path_from e.session h w.handles path)
    by (DeleteTree h path) =
        if length path == 0 then is_under (path_at e.session h w.handles) q else is_within (path_from e.session h w.handles path) q
    by change = false

-- the handle that it closes
unfoldable pub closing : Entry → Option ℕ
closing e = by e.change
  where
    by : Change → Option ℕ
    by (Close h) = Some h
    by change = None

-- the watch that it asks for
unfoldable pub watch_of : World → Entry → Option Watch
watch_of w e = by e.change
  where
    by : Change → Option Watch
    by (Notify h filter subtree) =
        Some (record { number = e.number; session = e.session; handle = h; path = path_at e.session h w.handles; filter = filter; subtree = subtree })
    by change = None

-- ---- what ends watches

-- an entry's number, its events, the keys that it removes and the handle that it closes
pub record Ending : Type 0 where
  pub by : ℕ
  pub events : List Event
  pub removes : Path → Bool
  pub closed : Option ℕ

unfoldable pub ending : World → Entry → Ending
ending w e = record { by = e.number; events = events w e; removes = removes w e; closed = closing e }

abbrev pub is_closed : Option ℕ → ℕ → Bool
is_closed None handle = false
is_closed (Some closed) handle = closed == handle

-- why a watch ends, if it does: its key is removed, or else its handle is closed, or else an event hits it
unfoldable pub reason : Ending → Watch → Option Reason
reason x v =
    if x.removes v.path then Some Gone else
    (if is_closed x.closed v.handle then Some Closed else
    (if list_any (is_hit v) x.events then Some Matched else None))

abbrev pub stays : Ending → Watch → Bool
stays x v = not (is_some (reason x v))

-- the watches that are pending after an ending: those that stay, and a new one, which its own entry doesn't end
abbrev pub pending_past : Ending → Option Watch → List Watch → List Watch
pending_past x new vs = filter (stays x) vs ++ option_to_list new

-- a notice, where there is a reason
abbrev pub notice_for : ℕ → ℕ → Option Reason → Option Notice
notice_for watch by None = None
notice_for watch by (Some r) = Some (record { watch = watch; by = by; reason = r })

-- what an ending tells a session of a watch
abbrev pub notice_to : ℕ → Ending → Watch → Option Notice
notice_to session x v = if v.session == session then notice_for v.number x.by (reason x v) else None

-- what an ending tells a session of some watches
abbrev pub notices : ℕ → Ending → List Watch → List Notice
notices session x vs = filter_map (notice_to session x) vs

-- ---- the same events, seen by few

-- one event where keys are made: at the key above the first
abbrev pub few_makings : List (List ℕ) → Path → List Event
few_makings [] p = []
few_makings (name ∷ names) p = event_at NAME p ∷ []

-- one where keys below a key are removed, at that key
abbrev pub few_removals : Tree → Path → List Event
few_removals t p = if list_any (is_under p) (keys t) then event_at NAME p ∷ [] else []

-- the events of an accepted change that its watches, those of removed keys left out, can tell apart: of keys made or removed one, and
-- all others
unfoldable pub few_events : World → Entry → List Event
few_events w e = by e.change
  where
    by : Change → List Event
    by (CreateKey h path mask given) =
        few_makings (missing w.tree (path_at e.session h w.handles) (path_of path)) (last_there w.tree (path_at e.session h w.handles) (path_of path))
    by (SetValue h name kind bytes) = event_at LAST_SET (path_at e.session h w.handles) ∷ []
    by (DeleteValue h name) = event_at LAST_SET (path_at e.session h w.handles) ∷ []
    by (DeleteKey h path) = event_at NAME (above (path_from e.session h w.handles path)) ∷ []
    by (DeleteTree h path) =
        if length path == 0 then
        few_removals w.tree (path_at e.session h w.handles) ++ cleared w.tree (path_at e.session h w.handles)
        else
        (event_at NAME (above (path_from e.session h w.handles path)) ∷ [])
    by (SetSecurity h descriptor) = event_at SECURITY (path_at e.session h w.handles) ∷ []
    by change = []

-- an ending by few events
unfoldable pub few_ending : World → Entry → Ending
few_ending w e = record { by = e.number; events = few_events w e; removes = removes w e; closed = closing e }
