use Rattle.std.proofs.Common.{[]}
use Rattle.reg_tree.proofs.Invariant.KeyOfTree.{key_there, list_values}
use Rattle.reg_tree.proofs.KeyAnswers.RefinementOfValues.{value_at_told, past_end}
use Rattle.reg_tree.proofs.KeyAnswers.AnswerBounds.{value-bound}
use Rattle.reg_tree.proofs.values.at.Goals as goal

pub values_list-list-requires : goal.values_list-list-requires
values_list-list-requires c = key_there _ _ c.requires

pub at-requires-clause-values : goal.at-requires-clause-values
at-requires-clause-values c = list_values _ _ c.requires _ _ c.values_list-list.ensures

pub returns-then-index-list-clause-told : goal.returns-then-index-list-clause-told
returns-then-index-list-clause-told c = λ t. past_end _ _ t _ _ c.values_list-list.ensures [] c.args.index c.if-index-list.true

pub returns-clause-told : goal.returns-clause-told
returns-clause-told c = λ t. value_at_told _ _ t _ _ c.values_list-list.ensures [] c.args.index _ _ _ c.at.ensures

pub returns-clause-short : goal.returns-clause-short
returns-clause-short c = value-bound _ _ c.requires _ _ c.values_list-list.ensures c.args.index _ _ _ c.at.ensures
