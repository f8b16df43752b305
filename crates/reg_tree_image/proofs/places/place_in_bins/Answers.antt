use Rattle.reg_tree_image.proofs.Devices.TreesOfBins.{scanned}
use Rattle.reg_tree_image.proofs.Devices.PlacesFound.{keys-placed}
use Rattle.reg_tree_image.proofs.places.place_in_bins.Goals as goal

pub place_in_keys-requires-clause-table : goal.place_in_keys-requires-clause-table
place_in_keys-requires-clause-table c = scanned c.args.bins.now c.args.block.minor c.args.block.root _ c.in-Ok.ensures

pub returns-in-Ok-clause-ok : goal.returns-in-Ok-clause-ok
returns-in-Ok-clause-ok c =
    keys-placed c.args.bins.now c.args.block.minor c.args.block.root _ c.in-Ok.ensures c.place_in_keys.result c.place_in_keys.ensures.ok
