use Rattle.std.proofs.Common.{◌≡◌, ◌*◌, take}
use Rattle.reg_arena.specs.Arena.{heap_of}
use Rattle.reg_records.specs.RecordCells.{held}
use Rattle.reg_records.specs.declared.db.TheConstants.{SEGMENT_SIZE}
use Rattle.reg_values.specs.Internal.ValueListParts.{segments_at}
use Rattle.reg_values.specs.ValueLists.{OfRead}
use Rattle.reg_values.proofs.big.joined.Given as goal

abbrev pub invariant-loop-index : goal.invariant-loop-index
invariant-loop-index l = OfRead (segments_at l.size (held (heap_of l.arena) l.list)) (heap_of l.arena) (λ all met. l.bytes.items ≡ take (SEGMENT_SIZE * l.index) all)
