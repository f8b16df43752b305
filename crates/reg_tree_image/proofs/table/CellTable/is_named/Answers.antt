use Rattle.std.proofs.Common.{◌∙◌}
use Rattle.reg_tree_image.proofs.WalkedBack.TakenBins.{settled-iff, settled-as}
use Rattle.reg_tree_image.proofs.table.CellTable.is_named.Goals as goal

pub returns : goal.returns
returns c = settled-iff c.args.self.now.states.items c.are_settled.result (c.are_settled.ensures ∙ settled-as _ _ c.as_slice.ensures.value)
