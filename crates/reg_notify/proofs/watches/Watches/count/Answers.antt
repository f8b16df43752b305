use Rattle.std.proofs.Common.{ap, ◌∙◌}
use Rattle.reg_model.specs.Causes.{watches_of}
use Rattle.reg_notify.specs.Tables.{Table}
use Rattle.reg_notify.proofs.watches.Watches.count.Goals as goal

pub count-requires-clause-settled : goal.count-requires-clause-settled
count-requires-clause-settled c = c.self.invariant.settled

pub returns : goal.returns
returns c = c.count.ensures ∙ ap (λ (t : Table). watches_of c.args.session t.pending) c.self.view_is
