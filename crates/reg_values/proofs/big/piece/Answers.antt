use Rattle.std.proofs.Common.{◌*◌}
use Rattle.reg_records.specs.declared.db.TheConstants.{SEGMENT_SIZE}
use Rattle.reg_values.proofs.ValueData.StoredData.{piece-is}
use Rattle.reg_values.proofs.big.piece.Goals as goal

pub returns : goal.returns
returns c = piece-is c.args.bytes.now (SEGMENT_SIZE * c.args.index) c.min.result SEGMENT_SIZE c.min.ensures c.requires.within
