use Rattle.std.specs.FinMap.{get}
use Rattle.reg_dotreg_writer.proofs.WritableNames.{writable_same}
use Rattle.reg_dotreg_writer.proofs.writable.can_write.Goals as goal

pub returns : goal.returns
returns c =
    λ p at told here names.
    writable_same c.args.path.now told (get c.args.tree.now.tree p) _ _ c.is_line_name.ensures (c.are_line_names.ensures p at) here names
