use Rattle.std.proofs.Common.{◌≡◌, ℕ, ◌<◌, ◌-◌, Some, List, length}
use Rattle.reg_names.specs.Names.{folded}
use Rattle.reg_arena.specs.Arena.{heap_of}
use Rattle.reg_shape.specs.Nodes.{KeyList}
use Rattle.reg_index.specs.Internal.IndexLists.{AreKeys, HasLists}
use Rattle.reg_index.specs.Subkeys.{entries_in}
use Rattle.reg_index.proofs.NameSearch.{BetweenLists}
use Rattle.reg_index.proofs.finding.list_for.Given as goal

abbrev pub invariant-loop-low : goal.invariant-loop-low
invariant-loop-low l =
    (offset : ℕ) → (lists : List KeyList) → HasLists (heap_of l.arena) offset lists → heap_of l.arena offset ≡ Some l.root → 0 < length lists → AreKeys (heap_of l.arena) (entries_in lists) →
    BetweenLists (heap_of l.arena) lists (folded l.name) l.low l.high

abbrev pub decreases-loop-low : goal.decreases-loop-low
decreases-loop-low l = l.high - l.low
