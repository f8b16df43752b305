use Rattle.std.proofs.Common.{List}
use Rattle.reg_tree_text.specs.DumpTexts.{Told}
use Rattle.reg_tree_text.specs.Internal.Walking.{Goes}
use Rattle.reg_dotreg_writer.proofs.WritableNames.{IsSearching}
use Rattle.reg_dotreg_writer.proofs.writable.find_unwritable.Given as goal

abbrev pub invariant-loop-key : goal.invariant-loop-key
invariant-loop-key l = (all : List Told) → Goes l.tree l.initial.walk all → IsSearching l.tree l.walk all
