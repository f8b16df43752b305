use Rattle.std.proofs.Common.{length}
use Rattle.reg_dotreg_writer.proofs.NamesOnWay.{IsOnWay}
use Rattle.reg_dotreg_writer.proofs.start.names_text.Given as goal

abbrev pub invariant-loop-name : goal.invariant-loop-name
invariant-loop-name l = IsOnWay l.tree l.root l.path l.node l.text.items l.rest

abbrev pub decreases-loop-name : goal.decreases-loop-name
decreases-loop-name l = length l.rest
