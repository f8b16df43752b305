use Rattle.std.proofs.Common.{◌≡◌, length}
use Rattle.reg_dotreg_reader.specs.EntryLines.{lines_of}
use Rattle.reg_dotreg_reader.specs.LineStops.{lacks_quote}
use Rattle.reg_dotreg_reader.proofs.quote_stops.lacks_quote.Given as goal

abbrev pub invariant-loop-line : goal.invariant-loop-line
invariant-loop-line l = lacks_quote (lines_of l.text) ≡ lacks_quote (lines_of l.rest)

abbrev pub decreases-loop-line : goal.decreases-loop-line
decreases-loop-line l = length l.rest
