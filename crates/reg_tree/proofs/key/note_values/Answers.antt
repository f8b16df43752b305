use Rattle.reg_tree.proofs.Invariant.CellReadings.{key-exists}
use Rattle.reg_tree.proofs.InsertKey.MadeCells.{four_written}
use Rattle.reg_tree.proofs.key.note_values.Goals as goal

pub returns-clause-sizes : goal.returns-clause-sizes
returns-clause-sizes c =
    four_written _ _ _ _ _ c.args.key _ _ _ _ (key-exists _ c.args.key c.requires.exists) c.set_values.ensures.written c.set_time.ensures.written
    c.set_largest_value_name.ensures.written c.set_largest_value_data.ensures.written
