use Rattle.std.proofs.Common.{◌≡◌, List, Some, drop}
use Rattle.reg_heap.specs.Paths.{Member}
use Rattle.reg_heap.specs.Kinds.{Found}
use Rattle.reg_heap.specs.Members.{index_named}
use Rattle.reg_arena.specs.Arena.{heap_of}
use Rattle.reg_shape.specs.Nodes.{members_at}
use Rattle.reg_values.proofs.ValueListing.FoundValues.{add-to}
use Rattle.reg_values.proofs.finding.find.Given as goal

abbrev pub invariant-loop-index : goal.invariant-loop-index
invariant-loop-index l =
    (members : List Member) → (met : List Found) → members_at l.fn.list.count l.fn.list.offset (heap_of l.arena) ≡ Some (members, met) →
    add-to l.index (index_named l.name (drop l.index members)) ≡ index_named l.name members
