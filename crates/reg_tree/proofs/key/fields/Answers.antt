use Rattle.reg_tree.proofs.Invariant.CellReadings.{key-exists, key-read, key-reads}
use Rattle.reg_tree.proofs.key.fields.Goals as goal

pub content-requires : goal.content-requires
content-requires c = key-exists _ _ c.requires

pub nk_fields-requires : goal.nk_fields-requires
nk_fields-requires c = key-reads _ _ _ c.requires c.content.ensures

pub returns : goal.returns
returns c = λ key e. c.nk_fields.ensures key (key-read _ _ _ key e c.content.ensures)
