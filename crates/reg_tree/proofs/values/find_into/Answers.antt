use Rattle.reg_tree.proofs.Invariant.KeyOfTree.{key_there, list_values}
use Rattle.reg_tree.proofs.KeyAnswers.RefinementOfValues.{none_told, some_within, some_told, none_fitted, some_fitted}
use Rattle.reg_tree.proofs.values.find_into.Goals as goal

pub values_list-list-requires : goal.values_list-list-requires
values_list-list-requires c = key_there _ _ c.requires

pub find-requires : goal.find-requires
find-requires c = list_values _ _ c.requires _ _ c.values_list-list.ensures

pub returns-in_default-clause-found : goal.returns-in_default-clause-found
returns-in_default-clause-found c = λ t. none_told _ _ t _ _ c.values_list-list.ensures c.args.name.now c.find.result c.find.ensures c.in_default.is

pub returns-in_default-clause-room : goal.returns-in_default-clause-room
returns-in_default-clause-room c = λ t. none_fitted _ _ t _ _ c.values_list-list.ensures c.args.name.now c.find.result c.find.ensures c.in_default.is c.args.room.now

pub at_into-value-requires-clause-values : goal.at_into-value-requires-clause-values
at_into-value-requires-clause-values c = list_values _ _ c.requires _ _ c.values_list-list.ensures

pub at_into-value-requires-clause-index : goal.at_into-value-requires-clause-index
at_into-value-requires-clause-index c = some_within _ _ c.requires _ _ c.values_list-list.ensures c.args.name.now c.in-Some.index c.in-Some.ensures

pub returns-clause-found : goal.returns-clause-found
returns-clause-found c =
    λ t. some_told _ _ t _ _ c.values_list-list.ensures c.args.name.now c.in-Some.index c.at_into-value.result.name.now c.at_into-value.result.kind c.at_into-value.result.size c.in-Some.ensures
    (λ ms met e. let m = c.at_into-value.ensures ms met e in (m.0, m.1, m.2))

pub returns-clause-room : goal.returns-clause-room
returns-clause-room c =
    λ t. some_fitted _ _ t _ _ c.values_list-list.ensures c.args.name.now c.in-Some.index c.in-Some.ensures c.args.room.now c.at_into-value.new.room
    (λ ms met e. let m = c.at_into-value.ensures ms met e in (m.0, m.1, m.3))
