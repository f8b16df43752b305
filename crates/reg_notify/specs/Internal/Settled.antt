-- What callers see of a table, and what holds of it between their calls.
use Rattle.std.specs.Prelude.{◌≡◌, ℕ, ◌+◌, ◌<◌, ◌≤◌, All, List, [], map, Vec, vec_len, vec_capacity}
use Rattle.reg_model.specs.declared.limits.TheConstants.{SESSIONS_LIMIT}
use Rattle.reg_model.specs.declared.notice.Notice.{Notice}
use Rattle.reg_notify.specs.Tables.{Table as Shown}
use Rattle.reg_notify.specs.declared.asked.Registration.{Registration}
use Rattle.reg_notify.specs.declared.queues.Queue.{Queue}
use Rattle.reg_notify.specs.declared.queues.Sent.{Sent}
use Rattle.reg_notify.specs.declared.table.Row.{Row}
use Rattle.reg_notify.specs.declared.table.Table.{Table}
use Rattle.reg_notify.specs.Internal.Firing.{sent_to}
use Rattle.reg_notify.specs.Internal.Queues.{pending_at, HaveRoom}
use Rattle.reg_notify.specs.Internal.Rows.{watches_at, rows_of}
use Rattle.reg_notify.specs.Internal.States.{IsReady}

abbrev pub told_of : Queue → List Notice
told_of q = q.told.items

abbrev pub taken_of : Queue → ℕ
taken_of q = q.taken

abbrev pub shown : Table → Shown
shown t = record { pending = watches_at t.rows.entries; told = map told_of t.queues.items; taken = map taken_of t.queues.items }

-- nothing is noted that wasn't handed out, and each session has a queue, which counts its rows and has room for their notices
pub record IsSettled (t : Table) : Type 0 where
  pub ready : IsReady t
  pub silent : t.sent.items ≡ []
  pub long : vec_len t.queues ≡ SESSIONS_LIMIT
  pub rooms : HaveRoom t.queues.items
  pub counts : (session : ℕ) → pending_at t.queues.items session ≡ rows_of session t.rows.entries

-- notices are noted beside the rows, and each session's queue counts both: it has room for all of them
pub record IsHanding (t : Table) : Type 0 where
  pub sessions : All (λ (x : Sent). x.session < SESSIONS_LIMIT) t.sent.items
  pub long : vec_len t.queues ≡ SESSIONS_LIMIT
  pub rooms : HaveRoom t.queues.items
  pub counts : (session : ℕ) → pending_at t.queues.items session ≡ rows_of session t.rows.entries + sent_to session t.sent.items

-- and there is room for the text of a handle
pub record IsKept {Y : Type 0} (t : Table) (start : Vec ℕ Y) : Type 0 where
  pub settled : IsSettled t
  pub room : 8 ≤ vec_capacity start

-- the row that a registration asks for
pub record IsRowOf (asked : Registration) (row : Row) : Type 0 where
  pub session : row.session ≡ asked.session
  pub handle : row.handle ≡ asked.handle
  pub place : row.place ≡ asked.place
  pub filter : row.filter ≡ asked.filter
  pub subtree : row.subtree ≡ asked.subtree
