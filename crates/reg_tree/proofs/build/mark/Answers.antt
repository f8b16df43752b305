use Rattle.reg_tree.proofs.BuildKey.MarkedShape.{is-marked, lengths-now, key-mid, name-mid}
use Rattle.reg_tree.proofs.build.mark.Goals as goal

pub note_marks-requires-clause-here : goal.note_marks-requires-clause-here
note_marks-requires-clause-here c = key-mid _ _ _ _ _ _ _ c.requires.here.1 c.put_class.ensures.puts

pub note_marks-requires-clause-name : goal.note_marks-requires-clause-name
note_marks-requires-clause-name c = name-mid _ _ _ _ _ _ _ c.requires.here.1 c.put_class.ensures.puts

pub returns-clause-marked : goal.returns-clause-marked
returns-clause-marked c = λ left m. is-marked _ _ _ _ _ _ _ _ m c.args.marks c.requires.marks c.put_class.ensures.puts c.note_marks.ensures.notes c.ranges.marks.fits

pub returns-clause-lengths : goal.returns-clause-lengths
returns-clause-lengths c = λ left m. lengths-now _ _ _ _ _ _ _ _ m c.args.marks c.requires.marks c.put_class.ensures.puts c.note_marks.ensures.notes
