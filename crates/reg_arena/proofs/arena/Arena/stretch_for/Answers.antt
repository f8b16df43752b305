use Rattle.std.proofs.Common.{arith}
use Rattle.reg_arena.proofs.Contents.CellWrites.{found}
use Rattle.reg_arena.proofs.Tiling.ArenaInvariant.{apart, opened}
use Rattle.reg_arena.proofs.Tiling.BinStretches.{page-has, rest-stretch}
use Rattle.reg_arena.proofs.arena.Arena.stretch_for.Goals as goal

pub rest-requires : goal.rest-requires
rest-requires c =
    let f = found _ c.args.cell (opened _ _ c.self.invariant.0).arena (rw (← c.self.view_is) at c.requires.cell) in
    omega (arith, f.eight, f.within)

pub returns-clause-to : goal.returns-clause-to
returns-clause-to c =
    let f = found _ c.args.cell (opened _ _ c.self.invariant.0).arena (rw (← c.self.view_is) at c.requires.cell) in
    page-has _ _ _ c.args.cell (opened _ _ c.self.invariant.0).arena (apart _ _ c.self.invariant.0) (omega (arith, f.eight, f.within)) c.rest.ensures.end c.rest.ensures.bytes

pub returns-clause-stretch : goal.returns-clause-stretch
returns-clause-stretch c = rw (c.rest.ensures.bytes, ← c.self.view_is)
    (rest-stretch _ _ _ (opened _ _ c.self.invariant.0).arena (apart _ _ c.self.invariant.0) c.rest.ensures.end)
