use Rattle.reg_records.proofs.RoomInBins.{room-short}
use Rattle.reg_records.proofs.cells.room_is_small.Goals as goal

pub returns : goal.returns
returns c = room-short _ _ c.bins_size.ensures.sound
