use Rattle.reg_tree_image.proofs.NamedCells.CellMarks.{one-mark, no-mark, is-free, is-taken}
use Rattle.reg_tree_image.proofs.scan.note_cell.Goals as goal

pub returns-then-word_at-lt2147483648-clause-marks : goal.returns-then-word_at-lt2147483648-clause-marks
returns-then-word_at-lt2147483648-clause-marks c = no-mark c.args.bins.now c.args.at _ (is-free _ _ c.word_at.ensures c.if-word_at-lt2147483648.true)

pub returns-clause-marks : goal.returns-clause-marks
returns-clause-marks c = one-mark c.args.bins.now c.args.at _ _ (is-taken _ _ c.word_at.ensures c.if-word_at-lt2147483648.false) c.allocate.ensures.puts
