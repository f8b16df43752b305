use Rattle.std.proofs.Common.{ℕ, List}
use Rattle.std.specs.BTreeMap.{btree_map_len}
use Rattle.reg_arena.specs.Cells.{cell_at}
use Rattle.reg_written.specs.Internal.RingWalks.{IsWay}
use Rattle.reg_written.specs.Internal.WalkStates.{way_of}
use Rattle.reg_written.proofs.walk.RingWalk.go_round.Given as goal

abbrev pub invariant-loop-count : goal.invariant-loop-count
invariant-loop-count l =
    (used : List ℕ) → IsWay (cell_at l.bins) used l.first l.last (way_of l.fn.self) → IsWay (cell_at l.bins) used l.first l.last (way_of l.self)

abbrev pub decreases-loop-count : goal.decreases-loop-count
decreases-loop-count l = btree_map_len l.self.left
