use Rattle.std.proofs.Common.{◌≡◌, ℕ, Some, List}
use Rattle.reg_names.specs.Names.{folded}
use Rattle.reg_arena.specs.Arena.{heap_of}
use Rattle.reg_records.specs.SubkeyLists.{Entry}
use Rattle.reg_index.specs.Internal.HashLeaves.{IsLeaf}
use Rattle.reg_index.specs.Internal.IndexLists.{AreKeys}
use Rattle.reg_index.specs.Internal.NameSearches.{Between}
use Rattle.reg_index.specs.Subkeys.{names_in}
use Rattle.reg_index.proofs.KeysByHash.{IsPassed}
use Rattle.reg_index.proofs.finding.find_between.Given as goal

abbrev pub invariant-loop-index : goal.invariant-loop-index
invariant-loop-index l =
    (offset : ℕ) → (entries : List Entry) → IsLeaf (heap_of l.arena) offset entries → heap_of l.arena offset ≡ Some l.leaf → AreKeys (heap_of l.arena) entries →
    Between (names_in (heap_of l.arena) entries) (folded l.name) l.low l.high → IsPassed (heap_of l.arena) entries l.name l.low l.index
