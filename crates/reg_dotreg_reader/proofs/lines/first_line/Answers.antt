use Rattle.std.proofs.Common.{sym, refl}
use Rattle.reg_dotreg_reader.specs.EntryLines.{is_feed}
use Rattle.reg_dotreg_reader.proofs.DigitLists.{behind_shorter}
use Rattle.reg_dotreg_reader.proofs.TextLines.{line_first}
use Rattle.reg_dotreg_reader.proofs.lines.first_line.Goals as goal

pub returns-in-Some : goal.returns-in-Some
returns-in-Some c = (
  line_first c.args.text.now _ _ c.in-Some.end (sym c.in-Some.ensures) refl refl,
  behind_shorter is_feed c.args.text.now c.in-Some.end (sym c.in-Some.ensures),
)
