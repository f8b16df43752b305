use Rattle.std.proofs.Common.{ap}
use Rattle.reg_calls.specs.Views.{Booked}
use Rattle.reg_calls.proofs.ToldNotices.{kept_back}
use Rattle.reg_calls.proofs.hive_core.Core.kept.Goals as goal

pub returns : goal.returns
returns c = kept_back c.self.invariant.2 c.args.self.now.view (ap (λ (b : Booked). b.view) c.self.view_is) c.args.session c.kept.result c.kept.ensures
