use Rattle.std.proofs.Common.{◌≡◌, ◌≤◌, sym, ap, refl, arith}
use Rattle.reg_notify.specs.Internal.Queues.{taken_in, room_in}
use Rattle.reg_notify.proofs.QueueSteps.{set-kept, queue-at}
use Rattle.reg_notify.proofs.queues.push_to.Goals as goal

pub returns-clause-taken : goal.returns-clause-taken
returns-clause-taken c = λ s.
    sym (set-kept (λ x y. taken_in x ≡ taken_in y) c.args.queues.now.items c.args.session _ (λ o. refl)
    (ap taken_in (queue-at c.args.queues.now.items c.args.session c.index_mut-queue.result.now (omega arith) c.index_mut-queue.ensures.value)) (omega arith) s)

pub returns-clause-rooms : goal.returns-clause-rooms
returns-clause-rooms c = λ s.
    set-kept (λ x y. room_in x ≤ room_in y) c.args.queues.now.items c.args.session _ (λ o. omega arith)
    (rw (queue-at c.args.queues.now.items c.args.session c.index_mut-queue.result.now (omega arith) c.index_mut-queue.ensures.value) c.push.ensures.capacity)
    (omega arith) s
