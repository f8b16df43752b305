use Rattle.reg_dotreg_writer.proofs.EntryUnits.{all_formed}
use Rattle.reg_dotreg_writer.proofs.units.is_well_formed.Goals as goal

pub returns : goal.returns
returns c = all_formed c.loop-first.rest.now c.args.units.now c.loop-first.invariant c.in_default.ensures.cases
