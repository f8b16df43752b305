-- The steps by which a watch comes into the table: room is made, its row is put, and both of its texts.
use Rattle.std.proofs.Common.{◌≡◌, ℕ, ◌+◌, ◌≤◌, cond, eqb, List, [], ◌∷◌, ◌++◌, length, Some, None, refl, sym, ap, ◌∙◌, subst, arith, true}
use Rattle.std.specs.Prelude.{vec_len, vec_capacity, Result, Ok, Err, OnErr}
use Rattle.std.specs.Ordering.{nat_cmp}
use Rattle.std.specs.BTreeMap.{is_at, insert_entry}
use Rattle.std.specs.Map.{remove_entry}
use Rattle.reg_notify.specs.Asked.{watch_in, Adds}
use Rattle.reg_notify.specs.declared.asked.Registration.{Registration}
use Rattle.reg_notify.specs.declared.table.Row.{Row}
use Rattle.reg_notify.specs.declared.table.Table.{Table}
use Rattle.reg_notify.specs.Internal.Indexes.{UpdatesText}
use Rattle.reg_model.specs.Internal.TextNumbers.{number_at}
use Rattle.reg_notify.specs.Internal.Keys.{handle_text, key_text, class_of, lead_of}
use Rattle.reg_notify.specs.Internal.Marks.{is_marked}
use Rattle.reg_notify.specs.Internal.Queues.{told_at, taken_at, room_at, pending_at}
use Rattle.reg_notify.specs.Internal.Rows.{IsRow, place_of, holder_of}
use Rattle.reg_notify.specs.Internal.Settled.{shown, IsSettled, IsRowOf}
use Rattle.reg_notify.proofs.AddedRows.{AreBelow, insert-last, remove-last, none-held}
use Rattle.reg_notify.proofs.Added.{added-settled, added-shown, as-before, same-shown}

-- room was made, and the row put
module _ (old t : Table) (asked : Registration) (r : Row) (settled : IsSettled t) (same : shown t ≡ shown old) (below : AreBelow asked.number t.rows.entries)
    (fit : IsRow asked.number r)
    (of : IsRowOf asked r) where
  -- no text of a handle has its number yet
  pub none-yet : (holder : List ℕ) → holder ≡ handle_text asked.handle asked.number → number_at t.handles.by_text.entries holder ≡ None
  none-yet holder is =
      let ready = settled.ready in
      subst (λ (l : List ℕ). number_at t.handles.by_text.entries l ≡ None) (sym is)
      (none-held asked.number asked.handle t.rows.entries (number_at t.places.by_text.entries)
      (number_at t.handles.by_text.entries) below fit.small ready.table _ refl)

  -- both texts were put
  module _ (t' : Table) (key holder : List ℕ) (rows : t'.rows.entries ≡ insert_entry nat_cmp t.rows.entries asked.number r) (is_key : key ≡ key_text asked.place
      (class_of asked.filter asked.subtree) asked.number)
      (is_holder : holder ≡ handle_text asked.handle asked.number)
      (places : UpdatesText (number_at t.places.by_text.entries) key (Some asked.number) (number_at t'.places.by_text.entries))
      (handles : UpdatesText (number_at t.handles.by_text.entries) holder (Some asked.number) (number_at t'.handles.by_text.entries))
      (marks : t'.marks ≡ t.marks) (marked : is_marked t.marks.slots.items (lead_of r.place) ≡ true) (sent : t'.sent ≡ t.sent)
      (capacity : vec_len t.sent + (length t.rows.entries + 1) ≤ vec_capacity t.sent)
      (pending : (s : ℕ) → pending_at t'.queues.items s ≡ cond (eqb s asked.session) (pending_at t.queues.items s + 1) (pending_at t.queues.items s))
      (rooms : (s : ℕ) → room_at t'.queues.items s ≡ room_at t.queues.items s) (told : (s : ℕ) → told_at t'.queues.items s ≡ told_at t.queues.items s)
      (taken : (s : ℕ) → taken_at t'.queues.items s ≡ taken_at t.queues.items s) (long : vec_len t'.queues ≡ vec_len t.queues)
      (queue : length (told_at t.queues.items asked.session) + (pending_at t.queues.items asked.session + 1) ≤ room_at t.queues.items asked.session) where
    entries : t'.rows.entries ≡ t.rows.entries ++ (asked.number, r) ∷ []
    entries = rows ∙ insert-last asked.number r t.rows.entries below

    at-place : UpdatesText (number_at t.places.by_text.entries) (place_of asked.number r) (Some asked.number) (number_at t'.places.by_text.entries)
    at-place = subst (λ (l : List ℕ). UpdatesText (number_at t.places.by_text.entries) l (Some asked.number)
        (number_at t'.places.by_text.entries)) (is_key ∙ sym placed) places
      where
        placed : place_of asked.number r ≡ key_text asked.place (class_of asked.filter asked.subtree) asked.number
        placed =
            let place = of.place in
            let filter = of.filter in
            let subtree = of.subtree in
            rw (place, filter, subtree) refl

    at-handle : UpdatesText (number_at t.handles.by_text.entries) (holder_of asked.number r) (Some asked.number) (number_at t'.handles.by_text.entries)
    at-handle =
        subst (λ (l : List ℕ). UpdatesText (number_at t.handles.by_text.entries) l (Some asked.number) (number_at t'.handles.by_text.entries))
        (is_holder ∙ ap (λ (h : ℕ). handle_text h asked.number) (sym of.handle)) handles

    pub put-settled : IsSettled t'
    put-settled = added-settled t t' asked r settled below fit of entries at-place at-handle marks marked sent capacity pending rooms told taken long queue

    pub put-shown : Adds (watch_in asked) (shown old) (shown t')
    put-shown =
        subst (λ s. Adds (watch_in asked) s (shown t')) same
        (added-shown t t' asked r settled below fit of entries at-place at-handle marks marked sent capacity pending rooms told taken long queue)

  -- none of them was, and the row was taken out again
  module _ (t' : Table) (between : List (ℕ × Row)) (put : between ≡ insert_entry nat_cmp t.rows.entries asked.number r)
      (rows : t'.rows.entries ≡ remove_entry (is_at (nat_cmp asked.number)) between)
      (places : t'.places.by_text.entries ≡ t.places.by_text.entries)
      (handles : (text : List ℕ) → number_at t'.handles.by_text.entries text ≡ number_at t.handles.by_text.entries text)
      (marks : t'.marks ≡ t.marks) (sent : t'.sent ≡ t.sent) (queues : t'.queues ≡ t.queues) where
    entries-back : t'.rows.entries ≡ t.rows.entries
    entries-back =
        rows ∙ ap (remove_entry (is_at (nat_cmp asked.number))) (put ∙ insert-last asked.number r t.rows.entries below) ∙
        remove-last asked.number r t.rows.entries below

    pub back-settled : IsSettled t'
    back-settled =
        as-before t t' settled entries-back (λ text. ap (λ es. number_at es text) places) handles
        (λ other is. subst (λ m. is_marked m.slots.items other ≡ true) (sym marks) is) (ap (λ v. v.items) sent) (ap vec_len sent)
        (room (ap vec_capacity sent))
        (λ s. ap (λ q. told_at q.items s) queues) (λ s. ap (λ q. pending_at q.items s) queues) (λ s. room (ap (λ q. room_at q.items s) queues))
        (ap vec_len queues)
      where
        room : {a b : ℕ} → a ≡ b → b ≤ a
        room e = omega (arith, e)

    pub back-shown : shown t' ≡ shown old
    back-shown =
        same-shown t t' entries-back (λ s. ap (λ q. told_at q.items s) queues) (λ s. ap (λ q. taken_at q.items s) queues) (ap vec_len queues) ∙ same

-- the row itself wasn't put
pub unput-settled : (t t' : Table) → IsSettled t → t'.rows.entries ≡ t.rows.entries → t'.places ≡ t.places → t'.handles ≡ t.handles → t'.marks ≡ t.marks →
    t'.sent ≡ t.sent → t'.queues ≡ t.queues → IsSettled t'
unput-settled t t' settled rows places handles marks sent queues =
    as-before t t' settled rows (λ text. ap (λ p. number_at p.by_text.entries text) places) (λ text. ap (λ p. number_at p.by_text.entries text) handles)
    (λ other is. subst (λ m. is_marked m.slots.items other ≡ true) (sym marks) is) (ap (λ v. v.items) sent) (ap vec_len sent)
    (room (ap vec_capacity sent)) (λ s. ap (λ q. told_at q.items s) queues) (λ s. ap (λ q. pending_at q.items s) queues)
    (λ s. room (ap (λ q. room_at q.items s) queues)) (ap vec_len queues)
  where
    room : {a b : ℕ} → a ≡ b → b ≤ a
    room e = omega (arith, e)

pub unput-shown : (old t t' : Table) → shown t ≡ shown old → t'.rows.entries ≡ t.rows.entries → t'.queues ≡ t.queues → shown t' ≡ shown old
unput-shown old t t' same rows queues = same-shown t t' rows (λ s. ap (λ q. told_at q.items s) queues) (λ s. ap (λ q. taken_at q.items s) queues)
    (ap vec_len queues) ∙ same

-- what holds in any case holds where there is an error
pub on-err : {A E : Type 0} (result : Result A E) (P : Type 0) → P → OnErr result P
on-err (Ok x) P p = tt
on-err (Err e) P p = p
