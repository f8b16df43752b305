use Rattle.std.proofs.Common.{◌∷◌}
use Rattle.reg_tree_image.proofs.NamedCells.CellNaming.{entered-table}
use Rattle.reg_tree_image.proofs.path_walk.key_below.Goals as goal

pub returns-clause-follows : goal.returns-clause-follows
returns-clause-follows c above seen t =
    c.subkey_from.ensures.follows (c.args.key.now.offset ∷ above) seen
    (entered-table _ seen.found c.args.key.now.offset above _ _ t c.requires (c.enter.ensures.entered c.requires))
