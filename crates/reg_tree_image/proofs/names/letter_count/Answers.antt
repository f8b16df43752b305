use Rattle.reg_tree_image.proofs.Readers.LetterReadings.{letter-count}
use Rattle.reg_tree_image.proofs.names.letter_count.Goals as goal

pub returns-else-single : goal.returns-else-single
returns-else-single c = letter-count c.args.single c.args.name.now c.if-single.false c.requires
