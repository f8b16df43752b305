use Rattle.std.proofs.Common.{◌≡◌, length}
use Rattle.reg_dotreg_reader.specs.EntryWords.{quoted}
use Rattle.reg_dotreg_reader.proofs.QuotedUnits.{with_units}
use Rattle.reg_dotreg_reader.proofs.quotes.quoted.Given as goal

abbrev pub invariant-loop-unit : goal.invariant-loop-unit
invariant-loop-unit l = quoted l.text ≡ with_units l.units.items (quoted l.rest)

abbrev pub decreases-loop-unit : goal.decreases-loop-unit
decreases-loop-unit l = length l.rest
