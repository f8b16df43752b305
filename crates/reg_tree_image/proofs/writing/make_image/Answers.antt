use Rattle.std.proofs.Common.{sym, ap, subst}
use Rattle.reg_arena.specs.Arena.{Bins}
use Rattle.reg_tree_image.proofs.Devices.MadeImages.{root-is, image-made, image-loads}
use Rattle.reg_tree_image.specs.Loads.{HoldsOwn}
use Rattle.reg_tree_image.proofs.Devices.OwnLoads.{own-of}
use Rattle.reg_tree_image.proofs.writing.make_image.Goals as goal

pub returns-clause-is : goal.returns-clause-is
returns-clause-is c =
    let keys = c.args.tree.now in
    image-made keys.bins.bytes keys.root c.args.moment c.args.sequence c.bins_size-size.result c.root-root.result.offset
    c.push_block.new.out.items c.push_bins.new.out.items c.arena-arena.result.now.bytes c.in_ok-push_block.ensures c.in_ok-push_bins.ensures
    (ap (λ (bins : Bins). bins.bytes) c.arena-arena.ensures.bins) c.bins_size-size.ensures.size
    (root-is keys c.root-root.result c.root-root.ensures.at)

pub returns-clause-loads : goal.returns-clause-loads
returns-clause-loads c =
    let keys = c.args.tree.now in
    image-loads keys.bins.bytes keys.root c.args.moment c.args.sequence c.push_bins.new.out.items keys.tree c.arena-arena.ensures.whole
    c.arena-arena.ensures.sound.small (returns-clause-is c)

pub returns-clause-own : goal.returns-clause-own
returns-clause-own c =
    let keys = c.args.tree.now in
    subst HoldsOwn (sym (returns-clause-is c))
    (own-of keys.bins.bytes keys.bins.heads keys.root c.args.moment c.args.sequence keys.tree c.arena-arena.ensures.whole c.arena-arena.ensures.sound)
