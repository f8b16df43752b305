use Rattle.std.proofs.Common.{length, ap, ◌∙◌}
use Rattle.reg_tree.specs.TreeKeys.{Keys}
use Rattle.reg_calls.proofs.NewHives.{least-is}
use Rattle.reg_calls.proofs.hive.Hive.new.Goals as goal

pub returns-in-Ok-from_tree-clause-bin : goal.returns-in-Ok-from_tree-clause-bin
returns-in-Ok-from_tree-clause-bin g c = ap (λ (k : Keys). length k.bins.bytes) c.in-Ok-from_tree.ensures.keys ∙ least-is _ _ _ c.in-Ok.ensures.bin
