use Rattle.std.proofs.Common.{◌≡◌, ℕ, List, Some, drop}
use Rattle.std.specs.List.{fold}
use Rattle.reg_arena.specs.Arena.{heap_of}
use Rattle.reg_records.specs.SubkeyLists.{Entry}
use Rattle.reg_index.specs.Internal.HashLeaves.{IsLeaf}
use Rattle.reg_index.proofs.LongestNames.{longer}
use Rattle.reg_index.proofs.finding.longest_in.Given as goal

abbrev pub invariant-loop-index : goal.invariant-loop-index
invariant-loop-index l =
    (offset : ℕ) → (entries : List Entry) → IsLeaf (heap_of l.arena) offset entries → heap_of l.arena offset ≡ Some l.leaf →
    fold (longer (heap_of l.arena)) l.longest (drop l.index entries) ≡ fold (longer (heap_of l.arena)) l.least entries
