use Rattle.reg_tree.proofs.BuildKey.KeyMarks.{node-room, its-profile}
use Rattle.reg_tree.proofs.build.note_marks.Goals as goal

pub put_nk-requires-clause-room : goal.put_nk-requires-clause-room
put_nk-requires-clause-room c = node-room _ c.args.key c.args.name.now c.requires.here c.requires.name

pub put_nk-requires-clause-profile : goal.put_nk-requires-clause-profile
put_nk-requires-clause-profile c = its-profile _ c.args.key c.args.marks c.fields-old.result c.requires.marks c.requires.here c.fields-old.ensures
