use Rattle.std.proofs.Common.{sym, ◌∙◌, arith}
use Rattle.reg_names.proofs.NameOrders.{ended}
use Rattle.reg_index.proofs.order.order_by_bytes.Goals as goal

pub returns : goal.returns
returns c = c.cmp.ensures ∙ (sym (ended c.args.a.now c.args.b.now _ (omega arith)) ∙ sym c.loop-index.invariant)
