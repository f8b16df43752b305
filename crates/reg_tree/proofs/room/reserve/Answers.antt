use Rattle.std.proofs.Common.{◌≡◌, ◌-◌, Some, replicate, subst, arith}
use Rattle.reg_arena.specs.Cells.{cell_at}
use Rattle.reg_tree.proofs.Invariant.RoomMade.{first-offset, freed-fits}
use Rattle.reg_tree.proofs.room.reserve.Goals as goal

pub returns-in-Ok-clause-fits : goal.returns-in-Ok-clause-fits
returns-in-Ok-clause-fits c =
    let carved = c.in-Ok.ensures.ok (omega arith) in
    freed-fits _ _ _ c.args.size c.requires.some c.requires.eights
    (subst (λ at. cell_at c.carve.new.self.bytes at ≡ Some (replicate (c.args.size - 4) 0))
    (first-offset _ _ carved.0 _ _ c.new-cells.ensures.items carved.1 carved.3.offsets_are c.index.ensures) (carved.3.are_new.zeros 0 (omega arith)))
    c.free.ensures.frees
