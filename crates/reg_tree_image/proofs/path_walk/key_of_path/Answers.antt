use Rattle.std.proofs.Common.{[]}
use Rattle.reg_names.specs.Names.{path_of}
use Rattle.reg_arena.specs.Cells.{cell_at}
use Rattle.reg_tree_image.specs.Images.{nothing}
use Rattle.reg_tree_image.proofs.Readers.PathNames.{root-named, root-exit}
use Rattle.reg_tree_image.proofs.path_walk.key_of_path.Goals as goal

pub returns-in_err-named-clause-arrives : goal.returns-in_err-named-clause-arrives
returns-in_err-named-clause-arrives c =
    root-exit (cell_at c.args.bins.now) (path_of c.args.path.now) c.args.root _ _ _ c.from_residual.ensures.1
    (c.in_err-named.ensures.follows [] nothing c.requires.table)

pub loop-name-init : goal.loop-name-init
loop-name-init c = (
  root-named (cell_at c.args.bins.now) (path_of c.args.path.now) c.args.root c.in_ok-named.named _ (c.in_ok-named.ensures.follows [] nothing c.requires.table),
  c.requires.path,
  c.in_ok-named.ensures.named,
)
