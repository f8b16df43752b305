use Rattle.reg_dotreg_writer.proofs.ToldChanges.{IsLooking}
use Rattle.reg_dotreg_writer.proofs.unwritable.find_in_side.Given as goal

abbrev pub invariant-loop-key : goal.invariant-loop-key
invariant-loop-key l = IsLooking l.tree l.walk l.root l.side l.other.tree
