use Rattle.std.proofs.Common.{◌≡◌}
use Rattle.reg_heap.specs.Members.{index_named}
use Rattle.reg_tree.proofs.Invariant.KeyOfTree.{key_there, list_values}
use Rattle.reg_tree.proofs.KeyAnswers.RefinementOfValues.{of_members}
use Rattle.reg_tree.proofs.values.index.Goals as goal

pub values_list-requires : goal.values_list-requires
values_list-requires c = key_there _ _ c.requires

pub find-requires : goal.find-requires
find-requires c = list_values _ _ c.requires _ _ c.values_list.ensures

pub returns : goal.returns
returns c = λ t. of_members _ _ t _ _ c.values_list.ensures c.args.name.now (λ ms. c.find.result ≡ index_named c.args.name.now ms) c.find.ensures
