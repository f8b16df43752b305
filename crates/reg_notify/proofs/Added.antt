-- A table with a watch more, or with none.
use Rattle.std.proofs.Common.{◌≡◌, ℕ, ◌+◌, ◌<◌, ◌≤◌, Bool, true, false, cond, eqb, List, [], ◌∷◌, ◌++◌, length, Some, refl, sym, ap, ◌∙◌, subst, arith}
use Rattle.std.proofs.Common.{length-append}
use Rattle.std.specs.Prelude.{All, vec_len, vec_capacity}
use Rattle.std.specs.List.{AllByRecursion}
use Rattle.std.proofs.lemmas.Bool.{eqb-true}
use Rattle.std.proofs.lemmas.List.{map_push}
use Rattle.std.proofs.lemmas.List.Elements.{recursion_from_All}
use Rattle.std.proofs.lemmas.List.Sums.{sum_by-cons}
use Rattle.reg_model.specs.Causes.{watches_of}
use Rattle.reg_model.specs.Watches.{Watch}
use Rattle.reg_model.specs.declared.limits.TheConstants.{SESSIONS_LIMIT, WATCHES_LIMIT}
use Rattle.reg_notify.specs.Asked.{watch_in, Adds}
use Rattle.reg_notify.specs.declared.asked.Registration.{Registration}
use Rattle.reg_notify.specs.declared.table.Row.{Row}
use Rattle.reg_notify.specs.declared.table.Table.{Table}
use Rattle.reg_notify.specs.Internal.Indexes.{UpdatesText}
use Rattle.reg_model.specs.Internal.TextNumbers.{number_at}
use Rattle.reg_notify.specs.Internal.Keys.{lead_of}
use Rattle.reg_notify.specs.Internal.Marks.{is_marked, AreMarked}
use Rattle.reg_notify.proofs.MarkedRows.{marks-more, marks-kept}
use Rattle.reg_notify.specs.Internal.Queues.{told_at, taken_at, room_at, pending_at}
use Rattle.reg_notify.specs.Internal.Rows.{watch_at, watches_at, rows_of, IsRow, IsTable, place_of, holder_of}
use Rattle.reg_notify.specs.Internal.Settled.{shown, IsSettled, IsRowOf}
use Rattle.reg_notify.proofs.AddedRows.{AreBelow, table-more, table-same, rows-push}
use Rattle.reg_notify.proofs.QueueSteps.{same-length-of, told-same, taken-same}

-- ---- the rows and their watches

below-rows : (n : ℕ) (es : List (ℕ × Row)) → AllByRecursion (λ (v : Watch). v.number < n) (watches_at es) → AreBelow n es
below-rows n [] all = tt
below-rows n (e ∷ es) all = (all.0, below-rows n es all.1)

pub are-below : (n : ℕ) (es : List (ℕ × Row)) → All (λ (v : Watch). v.number < n) (watches_at es) → AreBelow n es
are-below n es all = below-rows n es (recursion_from_All _ (watches_at es) all)

pub rows-counted : (s : ℕ) (es : List (ℕ × Row)) → rows_of s es ≡ watches_of s (watches_at es)
rows-counted s [] = refl
rows-counted s (e ∷ es) =
    ap (λ (n : ℕ). cond (eqb e.1.session s) 1 0 + n) (rows-counted s es)
    ∙ sym (sum_by-cons (λ (v : Watch). cond (eqb v.session s) 1 0) (watch_at e) (watches_at es))

-- each session has a queue, and it counts its watches
pub has-queue : (t : Table) → IsSettled t → (s : ℕ) → s < SESSIONS_LIMIT → s < vec_len t.queues
has-queue t settled s small = subst (λ (n : ℕ). s < n) (sym settled.long) small

pub counted : (t : Table) → IsSettled t → (s : ℕ) → pending_at t.queues.items s ≡ watches_of s (watches_at t.rows.entries)
counted t settled s = settled.counts s ∙ rows-counted s t.rows.entries

pub few-pending : (t : Table) → IsSettled t → (s : ℕ) → watches_of s (watches_at t.rows.entries) < WATCHES_LIMIT → pending_at t.queues.items s < WATCHES_LIMIT
few-pending t settled s few = subst (λ (n : ℕ). n < WATCHES_LIMIT) (sym (counted t settled s)) few

-- the row shows the watch that was asked for
row-shown : (asked : Registration) (r : Row) → IsRowOf asked r → watch_at (asked.number, r) ≡ watch_in asked
row-shown asked r is =
    let session = is.session in
    let handle = is.handle in
    let place = is.place in
    let filter = is.filter in
    let subtree = is.subtree in
    rw (session, handle, place, filter, subtree) refl

-- ---- one watch more

module _ (t t' : Table) (asked : Registration) (r : Row) (settled : IsSettled t) (below : AreBelow asked.number t.rows.entries) (fit : IsRow asked.number r)
    (of : IsRowOf asked r)
    (rows : t'.rows.entries ≡ t.rows.entries ++ (asked.number, r) ∷ [])
    (places : UpdatesText (number_at t.places.by_text.entries) (place_of asked.number r) (Some asked.number) (number_at t'.places.by_text.entries))
    (handles : UpdatesText (number_at t.handles.by_text.entries) (holder_of asked.number r) (Some asked.number) (number_at t'.handles.by_text.entries))
    (marks : t'.marks ≡ t.marks) (marked : is_marked t.marks.slots.items (lead_of r.place) ≡ true)
    (sent : t'.sent ≡ t.sent) (capacity : vec_len t.sent + (length t.rows.entries + 1) ≤ vec_capacity t.sent)
    (pending : (s : ℕ) → pending_at t'.queues.items s ≡ cond (eqb s asked.session) (pending_at t.queues.items s + 1) (pending_at t.queues.items s))
    (rooms : (s : ℕ) → room_at t'.queues.items s ≡ room_at t.queues.items s) (told : (s : ℕ) → told_at t'.queues.items s ≡ told_at t.queues.items s)
    (taken : (s : ℕ) → taken_at t'.queues.items s ≡ taken_at t.queues.items s) (long : vec_len t'.queues ≡ vec_len t.queues)
    (queue : length (told_at t.queues.items asked.session) + (pending_at t.queues.items asked.session + 1) ≤ room_at t.queues.items asked.session) where
  room : vec_len t'.sent + length t'.rows.entries ≤ vec_capacity t'.sent
  room =
      let n = ap length rows ∙ length-append t.rows.entries ((asked.number, r) ∷ []) in
      let l = ap vec_len sent in
      let c = ap vec_capacity sent in
      omega (arith, n, l, c, capacity)

  have : (s : ℕ) (b : Bool) → eqb s asked.session ≡ b → pending_at t'.queues.items s ≡ cond b (pending_at t.queues.items s + 1) (pending_at t.queues.items s) →
      length (told_at t'.queues.items s) + pending_at t'.queues.items s ≤ room_at t'.queues.items s
  have s false e p =
      let l = ap length (told s) in
      let r = rooms s in
      let h = settled.rooms s in
      omega (arith, p, l, r, h)
  have s true e p =
      let l = ap length (told s) in
      let r = rooms s in
      let h = subst (λ (k : ℕ). length (told_at t.queues.items k) + (pending_at t.queues.items k + 1) ≤ room_at t.queues.items k) (sym (eqb-true s asked.session e)) queue in
      omega (arith, p, l, r, h)

  flip : (a b : ℕ) → eqb a b ≡ eqb b a
  flip a b = grind arith

  count : (s : ℕ) → pending_at t'.queues.items s ≡ rows_of s t'.rows.entries
  count s =
      pending s ∙ by (eqb s asked.session)
      ∙ ap (λ (n : ℕ). n + cond (eqb s asked.session) 1 0) (settled.counts s)
      ∙ ap (λ (b : Bool). rows_of s t.rows.entries + cond b 1 0) (flip s asked.session ∙ ap (λ (k : ℕ). eqb k s) (sym of.session))
      ∙ sym (rows-push s asked.number r t.rows.entries) ∙ sym (ap (rows_of s) rows)
    where
      by : (b : Bool) → cond b (pending_at t.queues.items s + 1) (pending_at t.queues.items s) ≡ pending_at t.queues.items s + cond b 1 0
      by true = refl
      by false = omega arith

  pub added-settled : IsSettled t'
  added-settled = record {
    ready = record {
      table = let ready = settled.ready in subst (λ (l : List (ℕ × Row)). IsTable l (number_at t'.places.by_text.entries)
          (number_at t'.handles.by_text.entries)) (sym rows)
          (table-more asked.number r t.rows.entries below (number_at t.places.by_text.entries) (number_at t.handles.by_text.entries)
          (number_at t'.places.by_text.entries)
          (number_at t'.handles.by_text.entries) ready.table fit places handles);
      marks =
          let ready = settled.ready in
          subst (AreMarked t'.marks.slots.items) (sym rows) (subst (λ m. AreMarked m.slots.items (t.rows.entries ++ (asked.number, r) ∷ [])) (sym marks)
          (marks-more t.marks.slots.items asked.number r t.rows.entries ready.marks marked));
      room = room;
    };
    silent = ap (λ v. v.items) sent ∙ settled.silent;
    long = long ∙ settled.long;
    rooms = λ s. have s (eqb s asked.session) refl (pending s);
    counts = count;
  }

  same-length : length t'.queues.items ≡ length t.queues.items
  same-length = same-length-of t.queues t'.queues long

  pub added-shown : Adds (watch_in asked) (shown t) (shown t')
  added-shown = record {
    pending = ap watches_at rows ∙ map_push watch_at t.rows.entries (asked.number, r) ∙ ap (λ (v : Watch). watches_at t.rows.entries ++ v ∷ [])
        (row-shown asked r of);
    told = told-same t.queues.items t'.queues.items same-length told;
    taken = taken-same t.queues.items t'.queues.items same-length taken;
  }

-- ---- none more

-- a table with the same rows, texts and notices, and with queues that tell the same
pub as-before : (t t' : Table) → IsSettled t → t'.rows.entries ≡ t.rows.entries →
    ((text : List ℕ) → number_at t'.places.by_text.entries text ≡ number_at t.places.by_text.entries text) →
    ((text : List ℕ) → number_at t'.handles.by_text.entries text ≡ number_at t.handles.by_text.entries text) →
    ((other : List ℕ) → is_marked t.marks.slots.items other ≡ true → is_marked t'.marks.slots.items other ≡ true) → t'.sent.items ≡ t.sent.items →
    vec_len t'.sent ≡ vec_len t.sent →
    vec_capacity t.sent ≤ vec_capacity t'.sent → ((s : ℕ) → told_at t'.queues.items s ≡ told_at t.queues.items s) →
    ((s : ℕ) → pending_at t'.queues.items s ≡ pending_at t.queues.items s) →
    ((s : ℕ) → room_at t.queues.items s ≤ room_at t'.queues.items s) → vec_len t'.queues ≡ vec_len t.queues → IsSettled t'
as-before t t' settled rows places handles kept sent short capacity told pending rooms long = record {
  ready = record {
    table = let ready = settled.ready in subst (λ (l : List (ℕ × Row)). IsTable l (number_at t'.places.by_text.entries) (number_at t'.handles.by_text.entries))
        (sym rows)
        (table-same t.rows.entries (number_at t.places.by_text.entries) (number_at t.handles.by_text.entries) (number_at t'.places.by_text.entries)
        (number_at t'.handles.by_text.entries) ready.table places handles);
    marks = let ready = settled.ready in subst (AreMarked t'.marks.slots.items) (sym rows)
        (marks-kept t.marks.slots.items t'.marks.slots.items kept t.rows.entries ready.marks);
    room = let ready = settled.ready in let r = ready.room in let n = ap length rows in omega (arith, r, n, short, capacity);
  };
  silent = sent ∙ settled.silent;
  long = long ∙ settled.long;
  rooms = λ s. have s;
  counts = λ s. pending s ∙ settled.counts s ∙ sym (ap (rows_of s) rows);
}
  where
    have : (s : ℕ) → length (told_at t'.queues.items s) + pending_at t'.queues.items s ≤ room_at t'.queues.items s
    have s =
        let l = ap length (told s) in
        let p = pending s in
        let r = rooms s in
        let h = settled.rooms s in
        omega (arith, l, p, r, h)

-- what it shows
pub same-shown : (t t' : Table) → t'.rows.entries ≡ t.rows.entries → ((s : ℕ) → told_at t'.queues.items s ≡ told_at t.queues.items s) →
    ((s : ℕ) → taken_at t'.queues.items s ≡ taken_at t.queues.items s) → vec_len t'.queues ≡ vec_len t.queues → shown t' ≡ shown t
same-shown t t' rows told taken long =
    let pending_same = ap watches_at rows in
    let told_same = told-same t.queues.items t'.queues.items same-length told in
    let taken_same = taken-same t.queues.items t'.queues.items same-length taken in
    rw (pending_same, told_same, taken_same) refl
  where
    same-length : length t'.queues.items ≡ length t.queues.items
    same-length = same-length-of t.queues t'.queues long
