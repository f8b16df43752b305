use Rattle.std.proofs.Common.{arith, ◌≡◌, ◌≢◌, List, Some, slice_get, []}
use Rattle.reg_heap.specs.Paths.{Member}
use Rattle.reg_values.proofs.ValueListing.FoundValues.{is-ok, on-err}
use Rattle.reg_tree.proofs.Invariant.KeyOfTree.{key_there, list_values, list_length}
use Rattle.reg_tree.proofs.KeyAnswers.RefinementOfValues.{of_members}
use Rattle.reg_tree.proofs.values.bytes.Goals as goal

pub values_list-requires : goal.values_list-requires
values_list-requires c = key_there _ _ c.requires.0

pub bytes_of-requires-clause-values : goal.bytes_of-requires-clause-values
bytes_of-requires-clause-values c = list_values _ _ c.requires.0 _ _ c.values_list.ensures

pub bytes_of-requires-clause-index : goal.bytes_of-requires-clause-index
bytes_of-requires-clause-index c = omega (arith, c.requires.1, list_length _ _ c.requires.0 _ _ c.values_list.ensures)

pub returns-clause-told : goal.returns-clause-told
returns-clause-told c =
    λ t. is-ok _ _ c.bytes_of.result
    (λ bytes h. of_members _ _ t _ _ c.values_list.ensures [] (λ (ms : List Member). (member : Member) × (slice_get ms c.args.index ≡ Some member) × (bytes.items ≡ member.bytes)) h)
    c.bytes_of.ensures.told

pub returns-clause-empty : goal.returns-clause-empty
returns-clause-empty c =
    λ t. on-err _ _ c.bytes_of.result
    (λ h. of_members _ _ t _ _ c.values_list.ensures [] (λ (ms : List Member). (member : Member) → slice_get ms c.args.index ≡ Some member → member.bytes ≢ []) h)
    c.bytes_of.ensures.empty
