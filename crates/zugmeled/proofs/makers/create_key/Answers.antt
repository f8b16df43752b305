use Rattle.zugmeled.proofs.Lacks.{long-path, long-descriptor, on-err}
use Rattle.zugmeled.specs.Makers.{given_of}
use Rattle.zugmeled.proofs.makers.create_key.Goals as goal

pub returns-in_err-path-clause-lack : goal.returns-in_err-path-clause-lack
returns-in_err-path-clause-lack c =
    on-err c.from_residual.result (long-path c.args.handle c.args.path.now c.args.mask (given_of c.args.descriptor.now) c.in_err-path.ensures.many)

pub returns-in_err-descriptor-clause-lack : goal.returns-in_err-descriptor-clause-lack
returns-in_err-descriptor-clause-lack c =
    on-err c.from_residual-in_err-descriptor.result
    (long-descriptor c.args.handle c.args.path.now c.args.mask c.args.descriptor.now c.in_err-descriptor.ensures.lack)
