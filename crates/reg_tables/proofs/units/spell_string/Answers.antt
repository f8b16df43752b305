use Rattle.std.proofs.Common.{arith}
use Rattle.std.proofs.lemmas.Bool.Decides.{nat_tests}
use Rattle.reg_tables.proofs.UnitParts.{string-more}
use Rattle.reg_tables.proofs.units.spell_string.Goals as goal

pub returns-then-not-is_empty : goal.returns-then-not-is_empty
returns-then-not-is_empty c =
    string-more c.args.units.now _ c.in-Some.behind.now c.in-Some.ensures.parts (grind (arith, nat_tests, c.if-not-is_empty.ensures))
