use Rattle.reg_tables.proofs.UnitParts.{one_part, more_parts}
use Rattle.reg_tables.proofs.units.first_part.Goals as goal

pub returns-then-place-units-clause-parts : goal.returns-then-place-units-clause-parts
returns-then-place-units-clause-parts c = one_part c.args.units.now _ c.zero_place-place.ensures.place c.if-place-units.true

pub returns-clause-parts : goal.returns-clause-parts
returns-clause-parts c = more_parts c.args.units.now _ c.zero_place-place.ensures.place c.zero_place-place.ensures.within c.if-place-units.false
