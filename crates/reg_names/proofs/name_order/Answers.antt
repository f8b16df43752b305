use Rattle.std.proofs.Common.{sym, ◌∙◌, arith}
use Rattle.reg_names.proofs.NameOrders.{after_front, ended}
use Rattle.reg_names.proofs.name_order.Goals as goal

pub returns : goal.returns
returns c = c.cmp.ensures ∙ (sym (ended c.args.a.now c.args.b.now _ (omega arith)) ∙ sym c.loop-index.invariant)

pub loop-index-init : goal.loop-index-init
loop-index-init c = after_front c.common_front-index.result c.args.a.now c.args.b.now c.common_front-index.ensures.within.0
    c.common_front-index.ensures.within.1 c.common_front-index.ensures.alike
