use Rattle.reg_tree.proofs.DeleteKey.DeleteKeyFaults.{root-kept, mark-kept}
use Rattle.reg_tree.proofs.Invariant.KeyOfTree.{key_there}
use Rattle.reg_tree.proofs.unmake.is_kept.Goals as goal

pub fields-flags-requires : goal.fields-flags-requires
fields-flags-requires c = key_there _ _ c.requires

pub returns-then-flags-ne0 : goal.returns-then-flags-ne0
returns-then-flags-ne0 c = λ t. root-kept _ _ t c.fields-flags.result c.fields-flags.ensures c.if-flags-ne0.true

pub returns-else-flags-ne0 : goal.returns-else-flags-ne0
returns-else-flags-ne0 c = λ t. mark-kept _ _ t c.fields-flags.result c.fields-flags.ensures c.if-flags-ne0.false
