use Rattle.std.proofs.Common.{◌∷◌}
use Rattle.reg_arena.specs.Cells.{cell_at}
use Rattle.reg_tree_image.proofs.NamedCells.CellNaming.{entered-table}
use Rattle.reg_tree_image.proofs.Readers.PathNames.{value-there, value-not-read}
use Rattle.reg_tree_image.proofs.path_walk.value_below.Goals as goal

pub returns-in_err-found : goal.returns-in_err-found
returns-in_err-found c above seen t =
    value-not-read (cell_at c.args.bins.now) c.args.minor c.args.name.now c.args.key.now above _ seen
    (entered-table _ seen.found c.args.key.now.offset above _ _ t c.requires (c.enter.ensures.entered c.requires)) _ _ _ c.from_residual.ensures.1
    (c.in_err-found.ensures (c.args.key.now.offset ∷ above))

pub returns : goal.returns
returns c above seen t =
    value-there (cell_at c.args.bins.now) c.args.minor c.args.name.now c.args.key.now above _ seen
    (entered-table _ seen.found c.args.key.now.offset above _ _ t c.requires (c.enter.ensures.entered c.requires)) _ c.in_ok-found.found c.told.result
    c.told.ensures
    (c.in_ok-found.ensures (c.args.key.now.offset ∷ above))
