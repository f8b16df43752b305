use Rattle.std.proofs.Common.{sym, ◌∙◌}
use Rattle.reg_dotreg_reader.specs.EntryLines.{lines_of}
use Rattle.reg_dotreg_reader.proofs.StopSteps.{lack_here}
use Rattle.reg_dotreg_reader.proofs.quote_stops.lacks_quote.Goals as goal

pub returns-then-has_quote : goal.returns-then-has_quote
returns-then-has_quote c =
    c.is_value_line.ensures
    ∙ lack_here _ (lines_of c.loop-line.rest.now) (lines_of c.in-Some.others.now) c.in-Some.line.now c.loop-line.invariant c.in-Some.ensures.0
    (sym c.has_quote.ensures ∙ c.if-has_quote.true)
