use Rattle.std.proofs.Common.{sym}
use Rattle.reg_calls.proofs.RefusalTests.{close-found, close-missing}
use Rattle.reg_calls.proofs.close.Close.admit.Goals as goal

pub returns-in-Some-clause-clear : goal.returns-in-Some-clause-clear
returns-in-Some-clause-clear c = λ end. sym (close-found end c.args.store.now c.args.session c.args.handle 0 _ c.in-Some.ensures.handle)

pub returns-in-None-clause-refused : goal.returns-in-None-clause-refused
returns-in-None-clause-refused c = λ end k. sym (close-missing end c.args.store.now c.args.session c.args.handle k c.in-None.ensures.handle)
