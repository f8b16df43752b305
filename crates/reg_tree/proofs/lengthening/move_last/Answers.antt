use Rattle.reg_tree.proofs.LengthenList.ListCarved.{key-still}
use Rattle.reg_tree.proofs.lengthening.move_last.Goals as goal

pub note_list-requires : goal.note_list-requires
note_list-requires c = key-still _ _ _ _ _ _ _ c.requires c.subkeys_list-list.ensures c.lengthen-longer.ensures.moves
