use Rattle.std.proofs.Common.{take, replicate}
use Rattle.reg_heap.specs.declared.limits.TheConstants.{NONE}
use Rattle.reg_arena.specs.Internal.Spares.{ArePages, AreSpare}
use Rattle.reg_arena.proofs.each.make_spares.Given as goal

abbrev pub invariant-loop-size : goal.invariant-loop-size
invariant-loop-size l =
    AreSpare NONE (take l.size-index l.sizes) (replicate l.size-index NONE) l.spares.items × (ArePages l.fn.kept.items → ArePages l.kept.items)
