use Rattle.std.proofs.Common.{ap, ◌∙◌}
use Rattle.reg_arena.specs.Arena.{Bins}
use Rattle.reg_tree.specs.TreeKeys.{Keys}
use Rattle.reg_tree_image.proofs.Anew.RebuiltTrees.{rebuilt, not-rebuilt}
use Rattle.reg_tree_image.proofs.Devices.MadeImages.{root-is}
use Rattle.reg_tree_image.proofs.rebuilding.rebuild.Goals as goal

pub returns-clause-ok : goal.returns-clause-ok
returns-clause-ok c =
    rebuilt c.args.tree.now c.arena-arena.ensures.whole c.as_slice.result.now c.root.result.offset
    (c.as_slice.ensures.value ∙ (c.in-Ok.ensures ∙ ap (λ (bins : Bins). bins.bytes) c.arena-arena.ensures.bins))
    (root-is c.args.tree.now c.root.result c.root.ensures.at) (λ (new : Keys). new.tree) c.build_keys.result c.build_keys.ensures.ok

pub returns-clause-err : goal.returns-clause-err
returns-clause-err c =
    not-rebuilt c.args.tree.now c.arena-arena.ensures.whole c.as_slice.result.now c.root.result.offset
    (c.as_slice.ensures.value ∙ (c.in-Ok.ensures ∙ ap (λ (bins : Bins). bins.bytes) c.arena-arena.ensures.bins))
    (root-is c.args.tree.now c.root.result c.root.ensures.at) c.build_keys.result c.build_keys.ensures.err
