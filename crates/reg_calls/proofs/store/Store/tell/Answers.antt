use Rattle.reg_calls.proofs.ToldWatches.{nothing-fires}
use Rattle.reg_calls.proofs.store.Store.tell.Goals as goal

pub returns-in-Nothing-clause-watches : goal.returns-in-Nothing-clause-watches
returns-in-Nothing-clause-watches c = nothing-fires c.args.announced c.args.by c.args.self.now.watches c.in-Nothing.is
