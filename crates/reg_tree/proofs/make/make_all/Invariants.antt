use Rattle.std.proofs.Common.{◌≡◌, ℕ, List, length}
use Rattle.reg_names.specs.Names.{path_of}
use Rattle.reg_arena.specs.Arena.{heap_of}
use Rattle.reg_tree.specs.CellSizes.{planned}
use Rattle.reg_tree.specs.Internal.ReachedPlaces.{BelongsFirst}
use Rattle.reg_tree.specs.Internal.SpareCells.{MayGrowAll}
use Rattle.reg_tree.proofs.InsertKey.PathGrowth.{Midway}
use Rattle.reg_tree.proofs.make.make_all.Given as goal

abbrev pub invariant-loop-name : goal.invariant-loop-name
invariant-loop-name l = record {
  mid : (last : List ℕ) → (m : MayGrowAll l.fn.arena.bytes l.fn.from (path_of l.fn.path) l.fn.place last l.fn.spare) →
      Midway l.fn.arena.bytes l.fn.from (path_of l.fn.path) l.fn.place last l.fn.spare m l.fn.moment l.arena.bytes l.node l.rest l.place l.spare;
  place : BelongsFirst (heap_of l.arena) l.node.offset (path_of l.rest) l.place;
  plan : l.plan ≡ planned (heap_of l.arena) l.node.offset l.place;
  long : length l.arena.bytes ≡ length l.fn.arena.bytes;
}

abbrev pub decreases-loop-name : goal.decreases-loop-name
decreases-loop-name l = length l.rest
