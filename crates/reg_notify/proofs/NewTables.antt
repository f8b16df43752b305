-- A table with no watches.
use Rattle.std.proofs.Common.{◌≡◌, ℕ, ◌+◌, ◌≤◌, List, [], length, Option, None, sym, ap, ◌∙◌, subst, arith}
use Rattle.std.specs.Prelude.{vec_len}
use Rattle.std.specs.List.Sorted.{IsStrictlySortedBy}
use Rattle.reg_model.specs.declared.limits.TheConstants.{SESSIONS_LIMIT}
use Rattle.reg_notify.specs.declared.table.Row.{Row}
use Rattle.reg_notify.specs.declared.table.Table.{Table}
use Rattle.reg_model.specs.Internal.TextNumbers.{number_at}
use Rattle.reg_notify.specs.Internal.Marks.{AreMarked}
use Rattle.reg_notify.specs.Internal.Queues.{told_at, room_at, pending_at}
use Rattle.reg_notify.specs.Internal.Rows.{rows_of, IsIndex, IsTable}
use Rattle.reg_notify.specs.Internal.Settled.{IsSettled}

no-index : (text_of : ℕ → Row → List ℕ) (index : List ℕ → Option ℕ) → ((text : List ℕ) → index text ≡ None) → IsIndex text_of [] index
no-index text_of index none = record { placed = λ n r found. absurd (cc); listed = λ text n is. absurd (let e = none text in cc) }

no-rows : (places handles : List ℕ → Option ℕ) → ((text : List ℕ) → places text ≡ None) → ((text : List ℕ) → handles text ≡ None) → IsTable [] places handles
unfolding IsStrictlySortedBy
no-rows places handles np nh = record { rising = tt; fits = λ n r found. absurd (cc); by_place = no-index _ places np; by_handle = no-index _ handles nh }

pub new-settled : (t : Table) → t.rows.entries ≡ [] → ((text : List ℕ) → number_at t.places.by_text.entries text ≡ None) →
    ((text : List ℕ) → number_at t.handles.by_text.entries text ≡ None) →
    t.sent.items ≡ [] → vec_len t.sent ≡ 0 → vec_len t.queues ≡ SESSIONS_LIMIT → ((s : ℕ) → told_at t.queues.items s ≡ []) →
    ((s : ℕ) → pending_at t.queues.items s ≡ 0) → IsSettled t
new-settled t rows places handles sent short long told pending = record {
  ready = record {
    table = subst (λ (l : List (ℕ × Row)). IsTable l (number_at t.places.by_text.entries) (number_at t.handles.by_text.entries)) (sym rows)
        (no-rows _ _ places handles);
    marks = subst (AreMarked t.marks.slots.items) (sym rows) tt;
    room = let n = ap length rows in omega (arith, n, short);
  };
  silent = sent;
  long = long;
  rooms = λ s. have s;
  counts = λ s. pending s ∙ sym (ap (rows_of s) rows);
}
  where
    have : (s : ℕ) → length (told_at t.queues.items s) + pending_at t.queues.items s ≤ room_at t.queues.items s
    have s = let l = ap length (told s) in let p = pending s in omega (arith, l, p)
