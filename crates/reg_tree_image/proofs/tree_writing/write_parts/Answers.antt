use Rattle.reg_tree_image.proofs.Devices.WrittenBins.{parts-appended}
use Rattle.reg_tree_image.proofs.tree_writing.write_parts.Goals as goal

pub returns-clause-bytes : goal.returns-clause-bytes
returns-clause-bytes g c =
    parts-appended c.args.block.now _ c.told-block _ _ _ c.write_counted-taken.result c.write_bins.result c.write_counted-taken.ensures.count
    c.if-taken-lt4096.false c.write_counted-taken.ensures.bytes c.write_bins.ensures.bytes
