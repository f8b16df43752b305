use Rattle.reg_dotreg_reader.specs.EntryLines.{cut}
use Rattle.reg_dotreg_reader.proofs.ValueRows.{IsCutSoFar}
use Rattle.reg_dotreg_reader.proofs.rows.cut.Given as goal

abbrev pub invariant-loop-end : goal.invariant-loop-end
invariant-loop-end l = IsCutSoFar (cut l.fn.place l.row) l.row l.at l.end
