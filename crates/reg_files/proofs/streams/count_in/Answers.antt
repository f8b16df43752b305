use Rattle.std.proofs.Common.{arith, inr}
use Rattle.reg_files.specs.Internal.Cuts.{is_cut}
use Rattle.reg_files.proofs.Outcomes.{behind, unnamed}
use Rattle.reg_files.proofs.streams.count_in.Goals as goal

pub returns-in-Ok-clause-counted : goal.returns-in-Ok-clause-counted
returns-in-Ok-clause-counted g c =
    λ e. behind c.args.is_named c.args.hive.file.now _ _ _ _ _ _ _ c.in-Ok.ensures.written (c.check_in.ensures.answers e)

pub returns-in-Ok-clause-stops : goal.returns-in-Ok-clause-stops
returns-in-Ok-clause-stops g c = λ e. let stops = c.check_in.ensures.stops e in inr (_, c.in-Ok.ensures.written, stops.0, stops.1, stops.2)

pub returns-in-Err-clause-counted : goal.returns-in-Err-clause-counted
returns-in-Err-clause-counted g c = λ nil. let one = c.settle_output.ensures.0 in absurd (omega (arith, one, nil))

pub returns-in-Err-clause-stops : goal.returns-in-Err-clause-stops
returns-in-Err-clause-stops g c =
    λ _. unnamed c.args.hive.is_dirty c.args.is_verbose c.args.is_named c.args.hive.file.now _ (is_cut c.in-Err.fault) _ _ _ _ _ _ _ _ c.in-Err.ensures.written c.settle_output.ensures.1
