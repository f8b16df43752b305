use Rattle.std.proofs.Common.{refl}
use Rattle.std.proofs.lemmas.Result.{err_from_is_err_and}
use Rattle.reg_dotreg_reader.specs.EntryLines.{lines_of}
use Rattle.reg_dotreg_reader.proofs.EntrySteps.{read_refused}
use Rattle.reg_dotreg_reader.proofs.reading.entries_behind.Goals as goal

pub returns-in_err-is_open-clause-err : goal.returns-in_err-is_open-clause-err
returns-in_err-is_open-clause-err c =
    let p = err_from_is_err_and c.from_residual.result c.from_residual.ensures.1 in
    rw (p.1, p.2) (read_refused _ c.args.root.now c.args.is_narrow c.loop-line.entries.items c.loop-line.is_open c.loop-line.taken _
    c.in-Some.line.now c.in-Ok.said.entry _ (lines_of c.in-Some.behind.now) c.loop-line.invariant.so_far
    c.in-Some.ensures.0 refl c.in-Ok.ensures.said _ c.in_err-is_open.ensures.err)
