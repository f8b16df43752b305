use Rattle.std.proofs.Common.{sym}
use Rattle.reg_arena.specs.Cells.{cell_at}
use Rattle.reg_tree_image.proofs.Devices.PlacesFound.{walked-through}
use Rattle.reg_tree_image.proofs.places.place_in_keys.Goals as goal

pub returns-in-Ok-clause-ok : goal.returns-in-Ok-clause-ok
returns-in-Ok-clause-ok c =
    let k = c.in-Ok.ensures.ok in sym (walked-through (cell_at c.args.bins.now) c.args.block.minor c.args.block.root k.0 k.1)
