use Rattle.std.proofs.Common.{take}
use Rattle.reg_tree_image.specs.Internal.NamedRecords.{members_in}
use Rattle.reg_tree_image.specs.Internal.NamesMet.{AreMet}
use Rattle.reg_tree_image.proofs.met_names.MetNames.gather.Given as goal

abbrev pub invariant-loop-value : goal.invariant-loop-value
invariant-loop-value l = AreMet (members_in (take l.value-index l.before)) l.self.folded.keys
