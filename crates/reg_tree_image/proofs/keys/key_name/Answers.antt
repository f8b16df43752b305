use Rattle.std.proofs.Common.{length}
use Rattle.reg_tree_image.proofs.Readers.LetterReadings.{some-name}
use Rattle.reg_tree_image.proofs.Readers.ReaderSteps.{check-gives}
use Rattle.reg_tree_image.proofs.keys.key_name.Goals as goal

pub returns : goal.returns
returns c = check-gives _ _ _ _ _ (some-name (length c.args.node.name.now) c.if-node-eq0.false) c.name_from.ensures
