use Rattle.std.proofs.Common.{◌≡◌, ◌≤◌, ◌+◌, ◌++◌, ℕ, take}
use Rattle.std.specs.Prelude.{vec_len}
use Rattle.reg_notify.specs.Internal.Firing.{sent_to, notices_to}
use Rattle.reg_notify.specs.Internal.Queues.{told_at, taken_at, room_at, pending_at}
use Rattle.reg_notify.proofs.queues.push_all.Given as goal

abbrev pub invariant-loop-one : goal.invariant-loop-one
invariant-loop-one l = record {
  told : (s : ℕ) → told_at l.queues.items s ≡ told_at l.fn.queues.items s ++ notices_to s (take l.one-index l.sent);
  pending : (s : ℕ) → pending_at l.queues.items s + sent_to s (take l.one-index l.sent) ≡ pending_at l.fn.queues.items s;
  rooms : (s : ℕ) → room_at l.fn.queues.items s ≤ room_at l.queues.items s;
  taken : (s : ℕ) → taken_at l.queues.items s ≡ taken_at l.fn.queues.items s;
  len : vec_len l.queues ≡ vec_len l.fn.queues;
}
