use Rattle.std.proofs.Common.{get_or, refl}
use Rattle.reg_arena.specs.Cells.{cell_at}
use Rattle.reg_tree_image.specs.FaultPlaces.{name_there}
use Rattle.reg_tree_image.proofs.Devices.PlaceNames.{more-names, all-names}
use Rattle.reg_tree_image.proofs.places.names_text.Goals as goal

pub loop-index-preserved : goal.loop-index-preserved
loop-index-preserved c =
    more-names (name_there (cell_at c.args.bins.now)) c.args.offsets.now c.loop-index.index (get_or c.args.offsets.now c.loop-index.index 0)
    c.loop-index-test.true refl c.loop-index.text.items c.append_part.new.text.items c.append_name.new.text.items c.loop-index.invariant
    c.in_ok-append_part.ensures.ok c.in_ok-append_name.ensures.ok

pub returns-clause-ok : goal.returns-clause-ok
returns-clause-ok c =
    all-names (name_there (cell_at c.args.bins.now)) c.args.offsets.now c.loop-index.index c.loop-index.text.items c.loop-index-test.false c.loop-index.invariant
