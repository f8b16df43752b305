use Rattle.reg_tree.proofs.BuildKey.ClassNoted.{still-stand, lengths-noted, roomy}
use Rattle.reg_tree.proofs.InsertKey.SpareCellTaken.{growing_there}
use Rattle.reg_tree.proofs.build.raise_class.Goals as goal

pub note_class-requires : goal.note_class-requires
note_class-requires c = growing_there _ _ c.requires.0 c.requires.1

pub returns-clause-stands : goal.returns-clause-stands
returns-clause-stands c = λ spare g. still-stand _ _ g.root g.keys g.ring spare g.shape g.path c.args.key g.at c.args.size c.note_class.ensures.notes

pub returns-clause-lengths : goal.returns-clause-lengths
returns-clause-lengths c = λ spare g. lengths-noted _ _ g.root g.keys g.ring spare g.shape g.path c.args.key g.at c.args.size c.note_class.ensures.notes

pub returns-clause-roomy : goal.returns-clause-roomy
returns-clause-roomy c =
    let g = c.requires.1 in roomy _ _ g.root g.keys g.ring c.requires.0 g.shape g.path c.args.key g.at c.args.size c.note_class.ensures.notes
