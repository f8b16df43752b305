use Rattle.std.proofs.Common.{ap}
use Rattle.reg_calls.specs.Views.{Booked}
use Rattle.reg_calls.proofs.HiveInvariantLemmas.{began-at}
use Rattle.reg_calls.proofs.hive_core.Core.len.Goals as goal

pub returns-clause-began : goal.returns-clause-began
returns-clause-began c =
    let fields = c.self.inside in
    began-at fields.origin.value.tree fields.journal.base fields.told.value.told fields.journal.entries fields.store c.args.self.now.view
    (ap (λ (b : Booked). b.view) c.self.view_is)
