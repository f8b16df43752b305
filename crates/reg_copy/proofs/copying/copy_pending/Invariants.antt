use Rattle.std.specs.Prelude.{reverse}
use Rattle.reg_heap.specs.Paths.{Path, Tree}
use Rattle.reg_tree.specs.TreeKeys.{KeepsNodes}
use Rattle.reg_copy.specs.Internal.Copying.{IsAmid}
use Rattle.reg_copy.proofs.copying.copy_pending.Given as goal

abbrev pub invariant-loop-key : goal.invariant-loop-key
invariant-loop-key l =
    KeepsNodes l.initial.target l.target
    × ((from to : Path) → (old : Tree) → IsAmid l.source l.initial.target from to old (reverse l.initial.pending.items) →
    IsAmid l.source l.target from to old (reverse l.pending.items))
