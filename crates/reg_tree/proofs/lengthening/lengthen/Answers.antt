use Rattle.reg_tree.proofs.LengthenList.SubkeyRoom.{eights, has-room, positive, small}
use Rattle.reg_tree.proofs.LengthenList.ListCarved.{lengthenable}
use Rattle.reg_tree.proofs.LengthenList.KeyLengthened.{has-now, is-changed, is-unchanged, lengths-stay, makes, stay}
use Rattle.reg_tree.proofs.lengthening.lengthen.Goals as goal

pub carve_for-requires-clause-eights : goal.carve_for-requires-clause-eights
carve_for-requires-clause-eights c = eights _ _ _ c.requires _ c.in-Some.ensures

pub carve_for-requires-clause-some : goal.carve_for-requires-clause-some
carve_for-requires-clause-some c = positive _ _ _ c.requires _ c.in-Some.ensures

pub carve_for-requires-clause-small : goal.carve_for-requires-clause-small
carve_for-requires-clause-small c = small _ _ _ c.requires _ c.in-Some.ensures

pub move_last-requires : goal.move_last-requires
move_last-requires c = lengthenable _ _ _ _ _ c.requires c.in-Ok.ensures.ok _ c.in-Some.ensures

pub returns-in_default-clause-ok : goal.returns-in_default-clause-ok
returns-in_default-clause-ok c = λ t. is-unchanged _ _ t

pub returns-in_default-clause-room : goal.returns-in_default-clause-room
returns-in_default-clause-room c = has-room _ _ _ c.requires c.in_default.ensures

pub returns-clause-ok : goal.returns-clause-ok
returns-clause-ok c = λ t.
    is-changed _ c.carve_for.new.arena.bytes _ _ c.in-Ok.cell c.in-Some.size t c.in-Ok.ensures.ok
    (c.move_last.ensures.lengthened (lengthenable _ _ _ _ _ t c.in-Ok.ensures.ok _ c.in-Some.ensures))

pub returns-clause-lengths : goal.returns-clause-lengths
returns-clause-lengths c = λ t.
    lengths-stay _ c.carve_for.new.arena.bytes _ _ c.in-Ok.cell c.in-Some.size t c.in-Ok.ensures.ok
    (c.move_last.ensures.lengthened (lengthenable _ _ _ _ _ t c.in-Ok.ensures.ok _ c.in-Some.ensures))

pub returns-clause-room : goal.returns-clause-room
returns-clause-room c =
    has-now _ c.carve_for.new.arena.bytes _ _ c.in-Ok.cell c.in-Some.size c.requires c.in-Ok.ensures.ok
    (c.move_last.ensures.lengthened (lengthenable _ _ _ _ _ c.requires c.in-Ok.ensures.ok _ c.in-Some.ensures)) _ c.in-Some.ensures

pub returns-clause-cells : goal.returns-clause-cells
returns-clause-cells c =
    makes _ c.carve_for.new.arena.bytes _ _ c.in-Ok.cell c.in-Some.size c.requires c.in-Ok.ensures.ok
    (c.move_last.ensures.lengthened (lengthenable _ _ _ _ _ c.requires c.in-Ok.ensures.ok _ c.in-Some.ensures)) _ c.in-Some.ensures

pub returns-clause-stay : goal.returns-clause-stay
returns-clause-stay c =
    stay _ c.carve_for.new.arena.bytes _ _ c.in-Ok.cell c.in-Some.size c.requires c.in-Ok.ensures.ok
    (c.move_last.ensures.lengthened (lengthenable _ _ _ _ _ c.requires c.in-Ok.ensures.ok _ c.in-Some.ensures))
