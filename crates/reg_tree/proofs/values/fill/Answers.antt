use Rattle.std.proofs.Common.{arith, ◌≡◌, ◌≤◌, ◌++◌, List, Some, slice_get, [], length, drop}
use Rattle.reg_heap.specs.Paths.{Member}
use Rattle.reg_tree.proofs.Invariant.KeyOfTree.{key_there, list_values, list_length}
use Rattle.reg_tree.proofs.KeyAnswers.RefinementOfValues.{of_members, to_members}
use Rattle.reg_tree.proofs.values.fill.Goals as goal

pub values_list-requires : goal.values_list-requires
values_list-requires c = key_there _ _ c.requires.value.0

pub fill_bytes-requires-clause-values : goal.fill_bytes-requires-clause-values
fill_bytes-requires-clause-values c = list_values _ _ c.requires.value.0 _ _ c.values_list.ensures

pub fill_bytes-requires-clause-index : goal.fill_bytes-requires-clause-index
fill_bytes-requires-clause-index c = omega (arith, c.requires.value.1, list_length _ _ c.requires.value.0 _ _ c.values_list.ensures)

pub fill_bytes-requires-clause-room : goal.fill_bytes-requires-clause-room
fill_bytes-requires-clause-room c =
    to_members _ _ c.requires.room.0 _ _ c.values_list.ensures []
    (λ (ms : List Member). (member : Member) → slice_get ms c.args.index ≡ Some member → length member.bytes ≤ length c.args.room.now) c.requires.room.1

pub returns : goal.returns
returns c = λ t.
    of_members _ _ t _ _ c.values_list.ensures []
    (λ (ms : List Member). (member : Member) × (slice_get ms c.args.index ≡ Some member) × (c.fill_bytes.new.room ≡ member.bytes ++ drop (length member.bytes) c.args.room.now))
    c.fill_bytes.ensures
