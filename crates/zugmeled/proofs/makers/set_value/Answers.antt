use Rattle.zugmeled.proofs.Lacks.{long-name, long-bytes, on-err}
use Rattle.zugmeled.proofs.makers.set_value.Goals as goal

pub returns-in_err-name-clause-lack : goal.returns-in_err-name-clause-lack
returns-in_err-name-clause-lack c =
    on-err c.from_residual.result (long-name c.args.handle c.args.name.now c.args.kind c.args.bytes.now c.in_err-name.ensures.many)

pub returns-in_err-bytes-clause-lack : goal.returns-in_err-bytes-clause-lack
returns-in_err-bytes-clause-lack c =
    on-err c.from_residual-in_err-bytes.result (long-bytes c.args.handle c.args.name.now c.args.kind c.args.bytes.now c.in_err-bytes.ensures.many)
