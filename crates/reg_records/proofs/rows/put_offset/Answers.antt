use Rattle.std.proofs.Common.{arith, ◌+◌, ◌*◌}
use Rattle.reg_records.proofs.OffsetRowCodec.{put-here, put-others}
use Rattle.reg_records.proofs.rows.put_offset.Goals as goal

pub returns-clause-written : goal.returns-clause-written
returns-clause-written c = rw c.word_bytes.ensures.bytes at c.write_part.ensures

pub returns-clause-here : goal.returns-clause-here
returns-clause-here c = put-here _ _ c.args.cell c.args.index c.args.offset c.requires.room (returns-clause-written c) c.word_bytes.ensures.fits

pub returns-clause-others : goal.returns-clause-others
returns-clause-others c = put-others _ _ c.args.cell c.args.index c.args.offset c.requires.room (returns-clause-written c)

pub overflow_mul-index : goal.overflow_mul-index
overflow_mul-index c = (let l = c.room_is_small.ensures c.args.cell (4 * c.args.index + 4) c.requires.room in omega (arith, l))
