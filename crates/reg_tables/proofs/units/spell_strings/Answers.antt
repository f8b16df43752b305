use Rattle.std.proofs.Common.{arith, refl}
use Rattle.std.proofs.lemmas.Bool.Decides.{nat_tests}
use Rattle.reg_tables.proofs.UnitParts.{texts_start, texts-ended}
use Rattle.reg_tables.proofs.units.spell_strings.Goals as goal

pub loop-part-init : goal.loop-part-init
loop-part-init c = texts_start c.args.units.now _ c.new-texts.ensures.items

pub returns-then-is_empty : goal.returns-then-is_empty
returns-then-is_empty c =
    texts-ended c.args.units.now c.loop-part.rest.now c.in-Some.part.now c.in-Some.behind.now c.loop-part.texts.items c.loop-part.invariant c.in-Some.ensures.parts
    c.loop-part.texts refl (grind (arith, nat_tests, c.if-is_empty.ensures)) c.ended.result c.ended.ensures
