use Rattle.std.proofs.Common.{ap}
use Rattle.reg_calls.specs.Views.{Booked}
use Rattle.reg_calls.proofs.ToldNotices.{first_kept}
use Rattle.reg_calls.proofs.hive_core.Core.first_notice.Goals as goal

pub returns : goal.returns
returns c = first_kept c.self.invariant.2 c.args.self.now.view (ap (λ (b : Booked). b.view) c.self.view_is) c.args.session c.first.result c.first.ensures
