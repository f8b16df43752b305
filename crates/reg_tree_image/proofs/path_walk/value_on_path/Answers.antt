use Rattle.std.proofs.Common.{Option, Ok, subst}
use Rattle.reg_names.specs.Names.{path_of}
use Rattle.reg_arena.specs.Cells.{cell_at}
use Rattle.reg_tree_image.specs.declared.path_walk.ReachedKey.{ReachedKey}
use Rattle.reg_tree_image.specs.PathWalk.{value_reached}
use Rattle.reg_tree_image.specs.Internal.ReachedKeys.{found_in, Arrives}
use Rattle.reg_tree_image.proofs.Readers.PathNames.{found-told, found-fails}
use Rattle.reg_tree_image.proofs.path_walk.value_on_path.Goals as goal

pub returns-clause-ok : goal.returns-clause-ok
returns-clause-ok c =
    found-told (cell_at c.args.bins.now) (path_of c.args.path.now) c.args.root (value_reached (cell_at c.args.bins.now) c.args.minor c.args.name.now) found_in _
    c.in-Some.key
    (subst (λ (o : Option ReachedKey). Arrives (cell_at c.args.bins.now) (path_of c.args.path.now) c.args.root c.key_of_path.new.table.states.items (Ok o))
    c.in-Some.is
    c.in_ok-key.ensures.arrives) _ c.value_below.result c.value_below.ensures

pub returns-clause-err : goal.returns-clause-err
returns-clause-err c =
    found-fails (cell_at c.args.bins.now) (path_of c.args.path.now) c.args.root (value_reached (cell_at c.args.bins.now) c.args.minor c.args.name.now) found_in _
    c.in-Some.key
    (subst (λ (o : Option ReachedKey). Arrives (cell_at c.args.bins.now) (path_of c.args.path.now) c.args.root c.key_of_path.new.table.states.items (Ok o))
    c.in-Some.is
    c.in_ok-key.ensures.arrives) _ c.value_below.result c.value_below.ensures
