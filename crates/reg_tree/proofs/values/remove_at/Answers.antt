use Rattle.reg_tree.proofs.Invariant.KeyOfTree.{key_there, list_values, list_reads}
use Rattle.reg_tree.proofs.ValueChange.TreeAfterValueChange.{key_mid, remove_changed, remove_lengths}
use Rattle.reg_tree.proofs.KeyAnswers.RefinementOfValues.{within_list}
use Rattle.std.proofs.Common.{[]}
use Rattle.reg_tree.proofs.values.remove_at.Goals as goal

pub values_list-old-requires : goal.values_list-old-requires
values_list-old-requires c = key_there _ _ c.requires.0

pub remove_at-list-requires-clause-values : goal.remove_at-list-requires-clause-values
remove_at-list-requires-clause-values c = list_values _ _ c.requires.0 _ _ c.values_list-old.ensures

pub remove_at-list-requires-clause-index : goal.remove_at-list-requires-clause-index
remove_at-list-requires-clause-index c = within_list _ _ c.requires.0 _ _ c.values_list-old.ensures [] c.args.index c.requires.1

pub note_values-requires-clause-exists : goal.note_values-requires-clause-exists
note_values-requires-clause-exists c =
    key_mid _ _ _ c.requires.0 _ _ _ (c.remove_at-list.ensures.list _ _ (list_reads _ _ c.requires.0 _ _ c.values_list-old.ensures))

pub returns-clause-changed : goal.returns-clause-changed
returns-clause-changed c =
    λ t. remove_changed _ _ _ _ _ _ c.args.index c.args.moment c.remove_at-list.result.count c.remove_at-list.result.offset t c.values_list-old.ensures
    c.remove_at-list.ensures.list c.note_values.ensures.notes

pub returns-clause-lengths : goal.returns-clause-lengths
returns-clause-lengths c =
    λ t. remove_lengths _ _ _ _ _ _ c.args.index c.args.moment c.remove_at-list.result.count c.remove_at-list.result.offset t c.values_list-old.ensures
    c.remove_at-list.ensures.list c.note_values.ensures.notes
