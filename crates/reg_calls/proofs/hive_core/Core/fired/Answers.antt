use Rattle.std.proofs.Common.{ap}
use Rattle.reg_calls.specs.Views.{Booked}
use Rattle.reg_calls.proofs.ToldNotices.{all_told}
use Rattle.reg_calls.proofs.hive_core.Core.fired.Goals as goal

pub returns : goal.returns
returns c = all_told c.self.invariant.2 c.args.self.now.view (ap (λ (b : Booked). b.view) c.self.view_is) c.args.session c.told.result.now c.told.ensures
