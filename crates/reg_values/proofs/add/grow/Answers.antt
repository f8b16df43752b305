use Rattle.reg_arena.specs.Arena.{heap_of}
use Rattle.reg_values.proofs.ValueData.FilledCells.{fills-cell}
use Rattle.reg_values.proofs.ValueChanges.ValueListGrown.{grown}
use Rattle.reg_values.proofs.ValueChanges.KeptSizes.{fills-keeps}
use Rattle.reg_values.proofs.add.grow.Goals as goal

pub returns-clause-list : goal.returns-clause-list
returns-clause-list c = λ row met e.
    grown (heap_of c.args.arena.now) (heap_of c.put_offset.new.arena) c.args.list.count c.args.list.offset c.args.cell
    (fills-cell _ _ c.args.list.offset _ c.put_offset.ensures.written) c.requires.room c.put_offset.ensures.here c.put_offset.ensures.others row met
    c.requires.some e

pub returns-clause-sizes : goal.returns-clause-sizes
returns-clause-sizes c = fills-keeps _ _ _ (fills-cell _ _ c.args.list.offset _ c.put_offset.ensures.written)
