use Rattle.std.proofs.Common.{sym, refl}
use Rattle.reg_names.proofs.NameOrders.{same_from_Equal, differ}
use Rattle.reg_names.proofs.same_name.Goals as goal

pub returns-in-Equal : goal.returns-in-Equal
returns-in-Equal c = (λ _. same_from_Equal _ _ (sym c.in-Equal.ensures), λ _. refl)

pub returns-in-Less : goal.returns-in-Less
returns-in-Less c = differ _ _ c.name_order.result c.name_order.ensures c.in-Less.is
