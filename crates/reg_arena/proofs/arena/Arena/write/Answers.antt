use Rattle.std.proofs.Common.{length}
use Rattle.reg_arena.proofs.Contents.CellWrites.{wrote}
use Rattle.reg_arena.proofs.Tiling.BinPlaces.{split-kept}
use Rattle.reg_arena.proofs.Tiling.BinParts.{content-part}
use Rattle.reg_arena.proofs.Tiling.ArenaInvariant.{apart, closed, opened}
use Rattle.reg_arena.proofs.arena.Arena.write.Goals as goal

pub write-requires : goal.write-requires
write-requires c = content-part _ _ c.args.cell c.args.at (length c.args.bytes.now) (opened _ _ c.self.invariant.0).arena (apart _ _ c.self.invariant.0)
    (rw (← c.self.view_is) at c.requires.exists) (rw (← c.self.view_is) at c.requires.fits)

pub invariant_of-self : goal.invariant_of-self
invariant_of-self c =
    let w = wrote _ _ c.args.cell c.args.at c.args.bytes.now (opened _ _ c.self.invariant.0) (rw (← c.self.view_is) at c.requires.exists) (rw (← c.self.view_is) at c.requires.fits) in
    (closed _ _ (rw c.write.ensures.items w.indexed) (split-kept _ _ _ _ (rw c.write.ensures.items w.bins) c.write.ensures.parts (apart _ _ c.self.invariant.0)), c.self.invariant.1)

pub returns-clause-written : goal.returns-clause-written
returns-clause-written c = rw (c.write.ensures.items, ← c.self.view_is) (wrote _ _ c.args.cell c.args.at c.args.bytes.now (opened _ _ c.self.invariant.0)
    (rw (← c.self.view_is) at c.requires.exists) (rw (← c.self.view_is) at c.requires.fits)).contents

pub returns-clause-cells : goal.returns-clause-cells
returns-clause-cells c = rw (c.write.ensures.items, ← c.self.view_is) (wrote _ _ c.args.cell c.args.at c.args.bytes.now (opened _ _ c.self.invariant.0)
    (rw (← c.self.view_is) at c.requires.exists) (rw (← c.self.view_is) at c.requires.fits)).cells

pub returns-clause-writes : goal.returns-clause-writes
returns-clause-writes c = rw (c.write.ensures.items, ← c.self.view_is) (wrote _ _ c.args.cell c.args.at c.args.bytes.now (opened _ _ c.self.invariant.0)
    (rw (← c.self.view_is) at c.requires.exists) (rw (← c.self.view_is) at c.requires.fits)).writes

pub returns-clause-long : goal.returns-clause-long
returns-clause-long c = rw (c.write.ensures.items, ← c.self.view_is) (wrote _ _ c.args.cell c.args.at c.args.bytes.now (opened _ _ c.self.invariant.0)
    (rw (← c.self.view_is) at c.requires.exists) (rw (← c.self.view_is) at c.requires.fits)).long
