use Rattle.std.proofs.Common.{◌≡◌, ◌+◌, ◌<◌, ◌≤◌, ◌++◌, ℕ, List, refl, sym, subst, ◌∙◌, rules}
use Rattle.std.specs.Prelude.{All, vec_len, vec_capacity}
use Rattle.std.proofs.lemmas.List.Sorted.{IsNonDecreasingBy-from_sort_by_key}
use Rattle.reg_notify.specs.declared.queues.Sent.{Sent}
use Rattle.reg_notify.specs.Internal.Firing.{sent_to, notices_to}
use Rattle.reg_notify.specs.Internal.Queues.{told_at, pending_at}
use Rattle.reg_notify.proofs.SettledAgain.{may-sessions, may-pending, settled-again, told-in-order}
use Rattle.reg_notify.proofs.table.Table.hand_out.Goals as goal

pub push_all-requires-clause-sessions : goal.push_all-requires-clause-sessions
push_all-requires-clause-sessions c =
    subst (λ (l : List Sent). All (λ (x : Sent). x.session < vec_len c.args.self.now.queues) l) (sym c.as_slice.ensures.value)
    (may-sessions c.args.self.now c.requires.ready c.requires.few c.sort_unstable_by_key.new.self.items c.sort_unstable_by_key.ensures.permutation)

pub push_all-requires-clause-pending : goal.push_all-requires-clause-pending
push_all-requires-clause-pending c =
    subst (λ (l : List Sent). (s : ℕ) → sent_to s l ≤ pending_at c.args.self.now.queues.items s) (sym c.as_slice.ensures.value)
    (may-pending c.args.self.now c.requires.ready c.requires.few c.sort_unstable_by_key.new.self.items c.sort_unstable_by_key.ensures.permutation)

pub push_all-requires-clause-rooms : goal.push_all-requires-clause-rooms
push_all-requires-clause-rooms c = let few = c.requires.few in few.rooms

pub returns-clause-told : goal.returns-clause-told
returns-clause-told c =
    told-in-order c.args.self.now.queues.items c.push_all.new.queues.items c.args.self.now.sent.items c.sort_unstable_by_key.new.self.items c.sort_unstable_by_key.ensures.permutation
    (IsNonDecreasingBy-from_sort_by_key (λ x. x.notice.watch) _ c.sort_unstable_by_key.ensures.sorted (λ a r q k. search rules))
    (subst (λ (l : List Sent). (s : ℕ) →
    told_at c.push_all.new.queues.items s ≡ told_at c.args.self.now.queues.items s ++ notices_to s l) c.as_slice.ensures.value c.push_all.ensures.told)

pub returns-clause-settled : goal.returns-clause-settled
returns-clause-settled c =
    let t = c.args.self.now in
    let sorted = c.sort_unstable_by_key.new.self.items in
    let pushed = c.push_all.ensures in
    let e = c.as_slice.ensures.value in
    let capacity : vec_capacity c.clear.new.self ≡ vec_capacity t.sent = c.clear.ensures.capacity ∙ c.sort_unstable_by_key.ensures.capacity in
    settled-again t c.requires.ready c.requires.few sorted c.sort_unstable_by_key.ensures.permutation
    (record t { sent = c.clear.new.self; queues = c.push_all.new.queues }) refl refl refl refl
    c.clear.ensures.len c.clear.ensures.items capacity
    (subst (λ (l : List Sent). (s : ℕ) → told_at c.push_all.new.queues.items s ≡ told_at t.queues.items s ++ notices_to s l) e pushed.told)
    (subst (λ (l : List Sent). (s : ℕ) →
    pending_at c.push_all.new.queues.items s + sent_to s l ≡ pending_at t.queues.items s) e pushed.pending) pushed.rooms pushed.len
