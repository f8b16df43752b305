use Rattle.std.proofs.Common.{◌≡◌, ◌+◌, ◌<◌, ◌≤◌, List, length}
use Rattle.reg_arena.specs.Arena.{heap_of}
use Rattle.reg_shape.specs.Nodes.{KeyList}
use Rattle.reg_index.specs.Internal.IndexLists.{HasLists}
use Rattle.reg_index.specs.Subkeys.{entries_in, flat_among}
use Rattle.reg_index.proofs.finding.place_of.Given as goal

abbrev pub invariant-loop-place : goal.invariant-loop-place
invariant-loop-place l =
    ((lists : List KeyList) → HasLists (heap_of l.arena) l.offset lists → l.index < length (entries_in lists) → flat_among lists l.place ≡ l.index)
    × (l.place.list + l.place.index ≤ l.index)

abbrev pub decreases-loop-place : goal.decreases-loop-place
decreases-loop-place l = l.place.index
