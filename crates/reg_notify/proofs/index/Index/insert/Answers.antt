use Rattle.std.proofs.Common.{Some}
use Rattle.reg_notify.proofs.TextKeys.{updated}
use Rattle.reg_notify.proofs.index.Index.insert.Goals as goal

pub returns-clause-ok : goal.returns-clause-ok
returns-clause-ok c = updated c.args.text.items c.args.self.now.by_text c.insert.new.self (Some c.args.number) c.in_ok-insert.ensures.updates
