use Rattle.std.proofs.Common.{◌≡◌, List, drop}
use Rattle.std.specs.List.{fold}
use Rattle.reg_arena.specs.Arena.{heap_of}
use Rattle.reg_records.specs.SubkeyLists.{Entry}
use Rattle.reg_shape.specs.Nodes.{lists_of}
use Rattle.reg_index.specs.Subkeys.{AreSubkeys, entries_in}
use Rattle.reg_index.proofs.LongestNames.{longer}
use Rattle.reg_index.proofs.finding.longest_name.Given as goal

abbrev pub invariant-loop-number : goal.invariant-loop-number
invariant-loop-number l =
    (entries : List Entry) → (s : AreSubkeys (heap_of l.arena) l.fn.list.count l.fn.list.offset entries) →
    fold (longer (heap_of l.arena)) l.longest (entries_in (drop l.number (lists_of s.index))) ≡ fold (longer (heap_of l.arena)) 0 entries
