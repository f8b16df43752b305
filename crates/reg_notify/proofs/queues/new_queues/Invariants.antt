use Rattle.std.proofs.Common.{◌≡◌, ℕ, []}
use Rattle.std.specs.Prelude.{vec_len}
use Rattle.reg_notify.specs.Internal.Queues.{told_at, taken_at, pending_at}
use Rattle.reg_notify.proofs.queues.new_queues.Given as goal

abbrev pub invariant-loop-session : goal.invariant-loop-session
invariant-loop-session l = record {
  pending : (s : ℕ) → pending_at l.queues.items s ≡ 0;
  len : vec_len l.queues ≡ l._session;
  told : (s : ℕ) → told_at l.queues.items s ≡ [];
  taken : (s : ℕ) → taken_at l.queues.items s ≡ 0;
}
