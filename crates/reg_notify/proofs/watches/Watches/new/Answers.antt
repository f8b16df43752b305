use Rattle.std.proofs.Common.{ap, ◌∙◌, arith}
use Rattle.reg_notify.specs.Internal.Rows.{watches_at}
use Rattle.reg_notify.proofs.QueueSteps.{told-is, taken-is}
use Rattle.reg_notify.proofs.watches.Watches.new.Goals as goal

pub invariant_of-result : goal.invariant_of-result
invariant_of-result c = let room = c.in_ok-reserve.ensures.ok in record { settled = c.in_ok-table.ensures.settled; room = omega (arith, room) }

pub returns-clause-pending : goal.returns-clause-pending
returns-clause-pending c = ap watches_at c.in_ok-table.ensures.rows

pub returns-clause-told : goal.returns-clause-told
returns-clause-told c = λ s. told-is c.in_ok-table.table.queues.items s ∙ c.in_ok-table.ensures.told s

pub returns-clause-taken : goal.returns-clause-taken
returns-clause-taken c = λ s. taken-is c.in_ok-table.table.queues.items s ∙ c.in_ok-table.ensures.taken s
