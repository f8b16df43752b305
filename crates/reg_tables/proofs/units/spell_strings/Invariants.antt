use Rattle.std.proofs.Common.{length}
use Rattle.reg_tables.proofs.UnitParts.{AreTexts}
use Rattle.reg_tables.proofs.units.spell_strings.Given as goal

abbrev pub invariant-loop-part : goal.invariant-loop-part
invariant-loop-part l = AreTexts l.units l.rest l.texts.items

abbrev pub decreases-loop-part : goal.decreases-loop-part
decreases-loop-part l = length l.rest
