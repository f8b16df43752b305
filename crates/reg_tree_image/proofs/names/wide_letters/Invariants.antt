use Rattle.std.proofs.Common.{false}
use Rattle.reg_shape.specs.Nodes.{letters}
use Rattle.reg_tree_image.specs.Internal.NameReadings.{is_allowed_in}
use Rattle.reg_tree_image.proofs.Readers.LetterReadings.{AreRead}
use Rattle.reg_tree_image.proofs.names.wide_letters.Given as goal

abbrev pub invariant-loop-index : goal.invariant-loop-index
invariant-loop-index l = AreRead (letters false l.name) (is_allowed_in l.key) l.index l.read.items
