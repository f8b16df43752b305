use Rattle.std.proofs.Common.{◌∷◌}
use Rattle.reg_tree_image.proofs.NamedCells.CellNaming.{entered-table}
use Rattle.reg_tree_image.proofs.key_parts.enter_key.Goals as goal

pub returns-clause-follows : goal.returns-clause-follows
returns-clause-follows c path seen t =
    c.parts_from.ensures.follows (c.args.offset ∷ path) seen
    (entered-table _ seen.found c.args.offset path _ _ t c.requires (c.enter.ensures.entered c.requires))

pub returns-clause-spots : goal.returns-clause-spots
returns-clause-spots c path seen t =
    c.parts_from.ensures.spots (c.args.offset ∷ path) seen
    (entered-table _ seen.found c.args.offset path _ _ t c.requires (c.enter.ensures.entered c.requires))
