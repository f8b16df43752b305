use Rattle.reg_shape.proofs.Wholeness.WholeAfterExchange.{exchanged}
use Rattle.reg_shape.proofs.Refinement.RefinementAfterEdit.{tree-exchanged}
use Rattle.reg_shape.proofs.laws.one_keys_cells_are_exchanged.Goals as goal

pub returns-clause-whole : goal.returns-clause-whole
returns-clause-whole c = exchanged

pub returns-clause-tree : goal.returns-clause-tree
returns-clause-tree c = λ old new same offset before after alike path keys found. tree-exchanged old new same offset before after alike path keys found
