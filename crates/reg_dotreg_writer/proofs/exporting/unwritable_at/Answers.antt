use Rattle.reg_heap.specs.Edits.{folded_path}
use Rattle.reg_dotreg_writer.specs.Entries.{keys_from}
use Rattle.reg_dotreg_writer.proofs.exporting.unwritable_at.Goals as goal

pub find_unwritable-requires : goal.find_unwritable-requires
find_unwritable-requires c = (keys_from c.args.root.now c.args.tree.now.tree (folded_path c.args.path.now), c.in_ok-walk.ensures)

pub returns : goal.returns
returns c = c.find_unwritable.ensures (keys_from c.args.root.now c.args.tree.now.tree (folded_path c.args.path.now)) c.in_ok-walk.ensures
