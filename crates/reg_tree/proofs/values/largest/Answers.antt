use Rattle.std.proofs.Common.{◌≡◌, List, [], max, length}
use Rattle.std.specs.List.{fold}
use Rattle.reg_heap.specs.Paths.{Member}
use Rattle.reg_tree.proofs.Invariant.KeyOfTree.{key_there, list_values}
use Rattle.reg_tree.proofs.KeyAnswers.RefinementOfValues.{of_members}
use Rattle.reg_tree.proofs.values.largest.Goals as goal

pub values_list-requires : goal.values_list-requires
values_list-requires c = key_there _ _ c.requires

pub largest-requires : goal.largest-requires
largest-requires c = list_values _ _ c.requires _ _ c.values_list.ensures

pub returns-clause-name : goal.returns-clause-name
returns-clause-name c = λ t.
    of_members _ _ t _ _ c.values_list.ensures []
    (λ (ms : List Member). c.largest.result.name ≡ fold (λ a (m : Member). max a (length m.name)) 0 ms) c.largest.ensures.name

pub returns-clause-size : goal.returns-clause-size
returns-clause-size c = λ t.
    of_members _ _ t _ _ c.values_list.ensures []
    (λ (ms : List Member). c.largest.result.size ≡ fold (λ a (m : Member). max a (length m.bytes)) 0 ms) c.largest.ensures.size
