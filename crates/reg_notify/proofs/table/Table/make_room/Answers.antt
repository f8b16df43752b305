use Rattle.std.proofs.Common.{refl, arith}
use Rattle.reg_notify.proofs.Added.{has-queue, few-pending, as-before, same-shown}
use Rattle.reg_notify.proofs.table.Table.make_room.Goals as goal

pub reserve_in-requires-clause-session : goal.reserve_in-requires-clause-session
reserve_in-requires-clause-session c = has-queue c.args.self.now c.requires.settled c.args.session c.requires.session

pub reserve_in-requires-clause-few : goal.reserve_in-requires-clause-few
reserve_in-requires-clause-few c = few-pending c.args.self.now c.requires.settled c.args.session c.requires.room

pub returns-in_err-reserve_in-clause-settled : goal.returns-in_err-reserve_in-clause-settled
returns-in_err-reserve_in-clause-settled c =
    let q = c.reserve_in.ensures in
    as-before c.args.self.now (record c.args.self.now { queues = c.reserve_in.new.queues }) c.requires.settled refl (λ text. refl) (λ text. refl)
    (λ other is. is) refl refl (omega arith)
    q.told q.pending q.rooms q.len

pub returns-in_err-reserve_in-clause-shown : goal.returns-in_err-reserve_in-clause-shown
returns-in_err-reserve_in-clause-shown c =
    let q = c.reserve_in.ensures in
    same-shown c.args.self.now (record c.args.self.now { queues = c.reserve_in.new.queues }) refl q.told q.taken q.len

pub returns-in_err-set-clause-settled : goal.returns-in_err-set-clause-settled
returns-in_err-set-clause-settled c =
    let q = c.reserve_in.ensures in
    as-before c.args.self.now (record c.args.self.now { marks = c.set.new.self; queues = c.reserve_in.new.queues }) c.requires.settled refl (λ text. refl)
    (λ text. refl) c.set.ensures.kept
    refl refl (omega arith) q.told q.pending q.rooms q.len

pub returns-in_err-set-clause-shown : goal.returns-in_err-set-clause-shown
returns-in_err-set-clause-shown c =
    let q = c.reserve_in.ensures in
    same-shown c.args.self.now (record c.args.self.now { marks = c.set.new.self; queues = c.reserve_in.new.queues }) refl q.told q.taken q.len

pub returns-clause-settled : goal.returns-clause-settled
returns-clause-settled c =
    let q = c.reserve_in.ensures in
    as-before c.args.self.now (record c.args.self.now {
      marks = c.set.new.self;
      sent = c.reserve.new.self;
      queues = c.reserve_in.new.queues;
    }) c.requires.settled refl (λ text. refl)
    (λ text. refl) c.set.ensures.kept c.reserve.ensures.items c.reserve.ensures.len c.reserve.ensures.capacity q.told q.pending q.rooms q.len

pub returns-clause-shown : goal.returns-clause-shown
returns-clause-shown c =
    let q = c.reserve_in.ensures in
    same-shown c.args.self.now (record c.args.self.now {
      marks = c.set.new.self;
      sent = c.reserve.new.self;
      queues = c.reserve_in.new.queues;
    }) refl q.told q.taken q.len
