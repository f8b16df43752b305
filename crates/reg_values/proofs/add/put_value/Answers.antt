use Rattle.std.proofs.Common.{◌+◌, length, arith}
use Rattle.reg_arena.specs.Arena.{heap_of}
use Rattle.reg_values.proofs.ValueData.FilledCells.{fills-cell, fills-room}
use Rattle.reg_values.proofs.ValueData.NewCellRoom.{room-tail, room-head, room-less}
use Rattle.reg_values.proofs.ValueData.WrittenValues.{put-fills, put-holds}
use Rattle.reg_values.proofs.add.put_value.Goals as goal

pub put_data-data-requires-clause-cells : goal.put_data-data-requires-clause-cells
put_data-data-requires-clause-cells c = room-tail (heap_of c.args.arena.now) c.args.cell c.args.cells.now _ _ c.requires.cells

pub put_vk-requires-clause-room : goal.put_vk-requires-clause-room
put_vk-requires-clause-room c =
    let r = room-less (heap_of c.args.arena.now) c.args.cell _ (20 + length c.args.name.now) (omega arith)
    (room-head (heap_of c.args.arena.now) c.args.cell c.args.cells.now _ _ c.requires.cells) in
    fills-room (heap_of c.args.arena.now) (heap_of c.put_data-data.new.arena) c.args.cells.now c.args.cell _ c.put_data-data.ensures.fills r

pub returns-clause-fills : goal.returns-clause-fills
returns-clause-fills c =
    put-fills (heap_of c.args.arena.now) (heap_of c.put_data-data.new.arena)
    (heap_of c.put_vk.new.arena) c.args.cell c.put_data-data.result.size c.put_data-data.result.offset c.args.kind c.flags_of.result
    c.args.cells.now c.args.name.now c.args.bytes.now
    c.requires.cells.once c.put_data-data.ensures.fills c.put_data-data.ensures.holds
    (fills-cell _ _ c.args.cell _ c.put_vk.ensures.written) c.put_vk.ensures.reads c.put_vk.ensures.plain c.flags_of.ensures

pub returns-clause-holds : goal.returns-clause-holds
returns-clause-holds c =
    put-holds (heap_of c.args.arena.now) (heap_of c.put_data-data.new.arena)
    (heap_of c.put_vk.new.arena) c.args.cell c.put_data-data.result.size c.put_data-data.result.offset c.args.kind c.flags_of.result
    c.args.cells.now c.args.name.now c.args.bytes.now
    c.requires.cells.once c.put_data-data.ensures.fills c.put_data-data.ensures.holds
    (fills-cell _ _ c.args.cell _ c.put_vk.ensures.written) c.put_vk.ensures.reads c.put_vk.ensures.plain c.flags_of.ensures
