use Rattle.reg_tree_image.proofs.Devices.ImageParts.{parts-bins, parts-front, parts-both}
use Rattle.reg_tree_image.proofs.parts.fill_parts.Goals as goal

pub returns-then-offset-ge4096 : goal.returns-then-offset-ge4096
returns-then-offset-ge4096 c =
    parts-bins c.args.block.now c.args.arena.now.bytes c.args.room.now c.args.offset c.requires.block _ c.if-offset-ge4096.true c.fill_bins.ensures

pub returns-then-room-offset : goal.returns-then-room-offset
returns-then-room-offset c =
    parts-both c.args.block.now c.args.arena.now.bytes c.args.room.now c.args.offset c.requires.block c.if-offset-ge4096.false
    c.fill_behind.new.room c.fill_bins_behind.new.room c.if-room-offset.true c.fill_behind.ensures c.fill_bins_behind.ensures

pub returns-else-room-offset : goal.returns-else-room-offset
returns-else-room-offset c =
    parts-front c.args.block.now c.args.arena.now.bytes c.args.room.now c.args.offset c.requires.block c.if-offset-ge4096.false
    c.fill_behind.new.room c.if-room-offset.false c.fill_behind.ensures
