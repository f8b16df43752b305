use Rattle.std.proofs.Common.{◌≡◌, List, Some, max, length, drop}
use Rattle.std.specs.List.{fold}
use Rattle.reg_heap.specs.Paths.{Member}
use Rattle.reg_heap.specs.Kinds.{Found}
use Rattle.reg_arena.specs.Arena.{heap_of}
use Rattle.reg_arena.specs.Stretches.{IsStretch}
use Rattle.reg_shape.specs.Nodes.{members_at}
use Rattle.reg_values.proofs.finding.largest.Given as goal

abbrev pub invariant-loop-index : goal.invariant-loop-index
invariant-loop-index l =
    IsStretch (heap_of l.arena) l.stretch.0 l.stretch.1.0.now
    × ((members : List Member) → (met : List Found) → members_at l.fn.list.count l.fn.list.offset (heap_of l.arena) ≡ Some (members, met) →
    (fold (λ a (m : Member). max a (length m.name)) l.largest.name (drop l.index members) ≡ fold (λ a (m : Member). max a (length m.name)) 0 members)
    × (fold (λ a (m : Member). max a (length m.bytes)) l.largest.size (drop l.index members) ≡ fold (λ a (m : Member). max a (length m.bytes)) 0 members))
