-- A table whose notices were handed out.
use Rattle.std.proofs.Common.{◌≡◌, ℕ, ◌+◌, ◌<◌, ◌≤◌, List, [], ◌++◌, length, sym, ap, ◌∙◌, subst, arith, length-append}
use Rattle.std.specs.Prelude.{All, IsPermutation, vec_len, vec_capacity}
use Rattle.std.specs.List.Sorted.{IsNonDecreasingBy}
use Rattle.std.proofs.lemmas.List.Elements.{All-weaker}
use Rattle.std.proofs.lemmas.List.Sorted.{IsPermutation-trans, All-permutation}
use Rattle.reg_model.specs.declared.limits.TheConstants.{SESSIONS_LIMIT}
use Rattle.reg_notify.specs.declared.queues.Queue.{Queue}
use Rattle.reg_notify.specs.declared.queues.Sent.{Sent}
use Rattle.reg_notify.specs.declared.table.Table.{Table}
use Rattle.reg_notify.specs.Internal.Firing.{sent_to, notices_to, AreInOrder}
use Rattle.reg_model.specs.Internal.TextNumbers.{number_at}
use Rattle.reg_notify.specs.Internal.Marks.{AreMarked}
use Rattle.reg_notify.specs.Internal.Queues.{told_at, room_at, pending_at}
use Rattle.reg_notify.specs.Internal.Rows.{IsTable, rows_of}
use Rattle.reg_notify.specs.Internal.Settled.{IsSettled, IsHanding}
use Rattle.reg_notify.specs.Internal.States.{IsReady}
use Rattle.reg_notify.proofs.HandedOut.{sent_to-moved, told-length}
use Rattle.reg_notify.proofs.SortedNotices.{sorted-is}

module _ (t : Table) (ready : IsReady t) (handing : IsHanding t) (sorted : List Sent) (moved : IsPermutation t.sent.items sorted) where
  -- the sorted notices may be pushed
  pub may-sessions : All (λ (x : Sent). x.session < vec_len t.queues) sorted
  may-sessions =
      All-weaker (λ (x : Sent). x.session < SESSIONS_LIMIT) (λ (x : Sent). x.session < vec_len t.queues)
      (λ x l. subst (λ (n : ℕ). x.session < n) (sym handing.long) l) sorted
      (All-permutation (λ (x : Sent). x.session < SESSIONS_LIMIT) t.sent.items sorted moved handing.sessions)

  noted : (s : ℕ) → sent_to s sorted ≡ sent_to s t.sent.items
  noted s = sent_to-moved s t.sent.items sorted moved

  pub may-pending : (s : ℕ) → sent_to s sorted ≤ pending_at t.queues.items s
  may-pending s = let n = noted s in let c = handing.counts s in omega (arith, n, c)

  -- and then nothing is noted any more
  pub settled-again : (t' : Table) → t'.rows ≡ t.rows → t'.places ≡ t.places → t'.handles ≡ t.handles → t'.marks ≡ t.marks → vec_len t'.sent ≡ 0 →
      t'.sent.items ≡ [] → vec_capacity t'.sent ≡ vec_capacity t.sent →
      ((s : ℕ) → told_at t'.queues.items s ≡ told_at t.queues.items s ++ notices_to s sorted) →
      ((s : ℕ) → pending_at t'.queues.items s + sent_to s sorted ≡ pending_at t.queues.items s) →
      ((s : ℕ) → room_at t.queues.items s ≤ room_at t'.queues.items s) → vec_len t'.queues ≡ vec_len t.queues → IsSettled t'
  settled-again t' rows places handles marks short none capacity told pending rooms long = record {
    ready = record {
      table = table;
      marks = subst (λ r. AreMarked t'.marks.slots.items r.entries) (sym rows) (subst (λ m. AreMarked m.slots.items t.rows.entries) (sym marks) ready.marks);
      room = room;
    };
    silent = none;
    long = long ∙ handing.long;
    rooms = λ s. have s;
    counts = λ s. count s;
  }
    where
      table : IsTable t'.rows.entries (number_at t'.places.by_text.entries) (number_at t'.handles.by_text.entries)
      table =
          subst (λ r. IsTable r.entries (number_at t'.places.by_text.entries) (number_at t'.handles.by_text.entries)) (sym rows)
          (subst (λ p. IsTable t.rows.entries (number_at p.by_text.entries) (number_at t'.handles.by_text.entries)) (sym places)
          (subst (λ h. IsTable t.rows.entries (number_at t.places.by_text.entries) (number_at h.by_text.entries)) (sym handles) ready.table))

      room : vec_len t'.sent + length t'.rows.entries ≤ vec_capacity t'.sent
      room = let r = ready.room in let same = ap (λ m. length m.entries) rows in omega (arith, r, same, short, capacity)

      have : (s : ℕ) → length (told_at t'.queues.items s) + pending_at t'.queues.items s ≤ room_at t'.queues.items s
      have s =
          let a = ap length (told s) ∙ length-append (told_at t.queues.items s) (notices_to s sorted) in
          let b = told-length s sorted in
          let p = pending s in
          let r = rooms s in
          let h = handing.rooms s in
          omega (arith, a, b, p, r, h)

      count : (s : ℕ) → pending_at t'.queues.items s ≡ rows_of s t'.rows.entries
      count s =
          let p = pending s in
          let c = handing.counts s in
          let n = noted s in
          let same = ap (λ m. rows_of s m.entries) rows in
          omega (arith, p, c, n, same)

-- what was told is what is told of any list of them in order
pub told-in-order : (before after : List Queue) (noted sorted : List Sent) → IsPermutation noted sorted → IsNonDecreasingBy
    (λ (x : Sent). x.notice.watch) sorted →
    ((s : ℕ) → told_at after s ≡ told_at before s ++ notices_to s sorted) → (sent : List Sent) → AreInOrder sent → IsPermutation sent noted →
    (s : ℕ) → told_at after s ≡ told_at before s ++ notices_to s sent
told-in-order before after noted sorted moved rises told sent up same s =
    told s ∙ ap (λ (l : List Sent). told_at before s ++ notices_to s l) (sorted-is sent sorted up (IsPermutation-trans sent noted sorted same moved) rises)
