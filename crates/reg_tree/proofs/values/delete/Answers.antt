use Rattle.std.proofs.Common.{sym, ◌∙◌}
use Rattle.reg_heap.specs.Edits.{values_at}
use Rattle.reg_tree.specs.TreeKeys.{tree_in}
use Rattle.reg_tree.specs.declared.fault.TreeFault.TheVariants.{NotFound}
use Rattle.reg_tree.proofs.KeyAnswers.RefinementOfValues.{just_fault, no_fault}
use Rattle.reg_tree.proofs.ValueChange.ValueAtPlace.{index_within, unnamed, is_named, removed_by_name}
use Rattle.reg_tree.proofs.values.delete.Goals as goal

pub returns-in_default-clause-absent : goal.returns-in_default-clause-absent
returns-in_default-clause-absent c = λ t. just_fault NotFound (unnamed c.args.name.now (values_at (tree_in c.args.arena.now.bytes t.root) t.path) (sym (c.index.ensures t) ∙ c.in_default.is))

pub remove_at-requires : goal.remove_at-requires
remove_at-requires c = (c.requires, index_within c.args.name.now _ c.in-Some.place (sym (c.in-Some.ensures c.requires)))

pub returns-clause-ok : goal.returns-clause-ok
returns-clause-ok c = λ t. removed_by_name _ _ _ _ c.args.name.now c.in-Some.place c.args.moment (sym (c.in-Some.ensures t)) (c.remove_at.ensures.changed t)

pub returns-clause-absent : goal.returns-clause-absent
returns-clause-absent c = λ t. no_fault NotFound (is_named c.args.name.now _ c.in-Some.place (sym (c.in-Some.ensures t)))
