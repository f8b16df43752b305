-- What a step of a firing does to the table.
use Rattle.std.specs.Prelude.{◌≡◌, ℕ, ◌+◌, ◌≤◌, [], ◌∷◌, ◌++◌, length, vec_len, vec_capacity}
use Rattle.std.specs.Ordering.{nat_cmp}
use Rattle.std.specs.BTreeMap.{is_at}
use Rattle.std.specs.Map.{remove_entry}
use Rattle.reg_model.specs.declared.notice.Reason.{Reason}
use Rattle.reg_notify.specs.declared.table.Row.{Row}
use Rattle.reg_notify.specs.declared.table.Table.{Table}
use Rattle.reg_model.specs.Internal.TextNumbers.{number_at}
use Rattle.reg_notify.specs.Internal.Marks.{AreMarked}
use Rattle.reg_notify.specs.Internal.Rows.{IsTable}
use Rattle.reg_notify.specs.Internal.Firing.{Why, AreEnded}

-- the rows and their texts agree, each row's key is marked, and each row has room for its notice
pub record IsReady (t : Table) : Type 0 where
  pub table : IsTable t.rows.entries (number_at t.places.by_text.entries) (number_at t.handles.by_text.entries)
  pub marks : AreMarked t.marks.slots.items t.rows.entries
  pub room : vec_len t.sent + length t.rows.entries ≤ vec_capacity t.sent

-- a row went, and its notice was noted
pub record IsGone (t t' : Table) (n : ℕ) (r : Row) (by : ℕ) (reason : Reason) : Type 0 where
  pub rows : t'.rows.entries ≡ remove_entry (is_at (nat_cmp n)) t.rows.entries
  pub noted : t'.sent.items ≡ t.sent.items ++ record { session = r.session; notice = record { watch = n; by = by; reason = reason } } ∷ []

-- the rows with a reason went, and their notices were noted
pub record Ends (by : ℕ) (why : Why) (t t' : Table) : Type 0 where
  pub ready : IsReady t'
  pub ended : AreEnded by why t.rows.entries t.sent.items t'.rows.entries t'.sent.items
  pub queues : t'.queues ≡ t.queues
