use Rattle.std.proofs.Common.{None}
use Rattle.reg_notify.proofs.TextKeys.{updated}
use Rattle.reg_notify.proofs.index.Index.remove.Goals as goal

pub returns : goal.returns
returns c = updated c.args.text.now c.args.self.now.by_text c.remove.new.self None c.remove.ensures.updates
