use Rattle.std.proofs.Common.{arith}
use Rattle.reg_arena.proofs.Contents.CellWrites.{found}
use Rattle.reg_arena.proofs.Tiling.ArenaInvariant.{apart, opened}
use Rattle.reg_arena.proofs.Tiling.BinParts.{rest-cell}
use Rattle.reg_arena.proofs.arena.Arena.content.Goals as goal

pub rest-requires : goal.rest-requires
rest-requires c =
    let f = found _ c.args.cell (opened _ _ c.self.invariant.0).arena (rw (← c.self.view_is) at c.requires) in
    omega (arith, f.eight, f.within)

pub content_of-requires-clause-eight : goal.content_of-requires-clause-eight
content_of-requires-clause-eight c =
    rw c.rest.ensures.bytes (rest-cell _ _ c.args.cell (opened _ _ c.self.invariant.0).arena (apart _ _ c.self.invariant.0) (rw (← c.self.view_is) at c.requires) c.rest.ensures.end).eight

pub content_of-requires-clause-within : goal.content_of-requires-clause-within
content_of-requires-clause-within c =
    rw c.rest.ensures.bytes (rest-cell _ _ c.args.cell (opened _ _ c.self.invariant.0).arena (apart _ _ c.self.invariant.0) (rw (← c.self.view_is) at c.requires) c.rest.ensures.end).within

pub returns : goal.returns
returns c = rw (c.content_of.ensures, c.rest.ensures.bytes, ← c.self.view_is)
    (rest-cell _ _ c.args.cell (opened _ _ c.self.invariant.0).arena (apart _ _ c.self.invariant.0) (rw (← c.self.view_is) at c.requires) c.rest.ensures.end).content
