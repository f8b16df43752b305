use Rattle.reg_tree_image.proofs.Devices.TreesOfBins.{scanned}
use Rattle.reg_tree_image.proofs.places.place_told.Goals as goal

pub key_path-requires : goal.key_path-requires
key_path-requires c = scanned c.args.bins.now 0 0 _ c.in-Ok.ensures
