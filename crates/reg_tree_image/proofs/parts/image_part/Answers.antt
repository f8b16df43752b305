use Rattle.std.proofs.Common.{◌∙◌, ap, List, ℕ, length, drop, arith}
use Rattle.reg_arena.specs.Arena.{Bins}
use Rattle.reg_tree_image.specs.Rooms.{filled}
use Rattle.reg_tree_image.proofs.Devices.MadeImages.{parts-image}
use Rattle.reg_tree_image.proofs.Devices.ImageParts.{image-passed}
use Rattle.reg_tree_image.proofs.parts.image_part.Goals as goal

pub returns-then-offset-size : goal.returns-then-offset-size
returns-then-offset-size c =
    let keys = c.args.tree.now in
    let long = ap (λ (bins : Bins). length bins.bytes) c.arena-arena.ensures.bins in
    let size = c.bins_size-size.ensures.size in
    let behind = c.if-offset-size.true in
    image-passed keys.bins.bytes keys.root c.args.moment c.args.sequence c.args.room.now c.args.offset (omega (arith, long, size, behind))

pub returns : goal.returns
returns c =
    let whole = parts-image c.args.tree.now _ c.root.result _ c.bins_size-size.result c.args.moment c.args.sequence c.arena-arena.ensures.bins
    c.root.ensures.at c.bins_size-size.ensures.size c.base_block-block.ensures in
    c.fill_parts.ensures ∙ ap (λ (bytes : List ℕ). filled (drop c.args.offset bytes) c.args.room.now) whole
