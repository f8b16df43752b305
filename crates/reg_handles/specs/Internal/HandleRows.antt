-- What the rows and keys of a table stand for.
use Rattle.std.specs.Prelude.{◌≡◌, ℕ, ◌<◌, ◌==◌, List, map, count_by, All, Option, Some, None, slice_index}
use Rattle.reg_model.specs.declared.limits.TheConstants.{SESSIONS_LIMIT}
use Rattle.slab.specs.Slab.{Slab, get}
use Rattle.reg_model.specs.Worlds.{Handle}
use Rattle.reg_model.specs.Causes.{handles_of as count_of}
use Rattle.reg_handles.specs.HandleTables.{IsFoldedPath}
use Rattle.reg_handles.specs.Internal.OpenKeySlab.{destination_of, IsOpenAt}
use Rattle.reg_handles.specs.declared.keys.OpenKey.{OpenKey}
use Rattle.reg_handles.specs.declared.rows.Row.{Row}

abbrev pub handle_of : {K : Type 0} → Slab (OpenKey K) → ℕ × Row → Handle
handle_of s e = record { number = e.0; session = e.1.session; mask = e.1.mask; destination = destination_of (get s e.1.key) }

abbrev pub handles_of : {K : Type 0} → Slab (OpenKey K) → List (ℕ × Row) → List Handle
handles_of s es = map (handle_of s) es

-- how many rows have the key
abbrev pub times : ℕ → List (ℕ × Row) → ℕ
times key es = count_by (λ (e : ℕ × Row). e.1.key == key) es

-- how many handles each of the 64 sessions has
abbrev pub AreCounts : List ℕ → List Handle → Type 0
AreCounts counts handles = (session : ℕ) → session < SESSIONS_LIMIT → slice_index counts session ≡ count_of session handles

-- a key stands there exactly where it has rows; it says how many, and its path is a folded one
abbrev pub IsUsed : {K : Type 0} → Option (OpenKey K) → ℕ → Type 0
IsUsed None rows = rows ≡ 0
IsUsed (Some k) rows = (k.rows ≡ rows) × (0 < rows) × IsFoldedPath k.path.items

-- the counts and the keys are those of the rows, the map has the paths of the keys that were not deleted, and each row is of one
-- of the 64 sessions
pub record IsTable {K : Type 0} (s : Slab (OpenKey K)) (paths : List ℕ → Option ℕ) (es : List (ℕ × Row)) (by_session : List ℕ) : Type 0 where
  pub counts : AreCounts by_session (handles_of s es)
  pub keys : (key : ℕ) → IsUsed (get s key) (times key es)
  pub found : (text : List ℕ) (key : ℕ) → paths text ≡ Some key → IsOpenAt (get s key) text
  pub listed : (text : List ℕ) (key : ℕ) → IsOpenAt (get s key) text → paths text ≡ Some key
  pub fit : All (λ (e : ℕ × Row). e.1.session < SESSIONS_LIMIT) es
