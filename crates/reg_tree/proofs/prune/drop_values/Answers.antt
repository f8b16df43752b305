use Rattle.reg_tree.proofs.Invariant.KeyOfTree.{key_there, list_values}
use Rattle.reg_tree.proofs.PruneTree.DroppedValues.{none_dropped, key_stays, values_dropped, dropped_lengths}
use Rattle.reg_tree.proofs.prune.drop_values.Goals as goal

pub values_list-values-requires : goal.values_list-values-requires
values_list-values-requires c = key_there _ _ c.requires

pub returns-then-values-eq0-clause-changed : goal.returns-then-values-eq0-clause-changed
returns-then-values-eq0-clause-changed c = λ t. none_dropped _ _ t _ _ c.values_list-values.ensures c.args.moment c.if-values-eq0.true

pub clear-requires : goal.clear-requires
clear-requires c = list_values _ _ c.requires _ _ c.values_list-values.ensures

pub note_values-requires-clause-exists : goal.note_values-requires-clause-exists
note_values-requires-clause-exists c = key_stays _ _ c.requires _ _ c.values_list-values.ensures c.args.moment _ c.clear.new.arena.bytes c.clear.ensures.gone

pub returns-clause-changed : goal.returns-clause-changed
returns-clause-changed c = λ t.
    values_dropped _ _ t _ _ c.values_list-values.ensures c.args.moment _ _ c.clear.ensures.gone c.if-values-eq0.false c.note_values.ensures.notes

pub returns-clause-lengths : goal.returns-clause-lengths
returns-clause-lengths c = λ t.
    dropped_lengths _ _ t _ _ c.values_list-values.ensures c.args.moment _ _ c.clear.ensures.gone c.if-values-eq0.false c.note_values.ensures.notes
