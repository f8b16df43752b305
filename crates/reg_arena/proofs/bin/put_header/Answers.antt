use Rattle.std.proofs.Common.{arith, ◌+◌}
use Rattle.byteorder.specs.Endian.{little_bytes}
use Rattle.reg_heap.specs.ByteWords.{splice}
use Rattle.reg_arena.proofs.Contents.ByteSplices.{length-splice}
use Rattle.reg_arena.proofs.bin.put_header.Goals as goal

pub put_word-requires-2 : goal.put_word-requires-2
put_word-requires-2 c =
    let one = length-splice c.args.at (little_bytes 4 1852400232) c.args.bins.now.items (omega arith) in
    rw c.put_word.ensures.items (omega arith)

pub put_word-requires-3 : goal.put_word-requires-3
put_word-requires-3 c =
    let one = length-splice c.args.at (little_bytes 4 1852400232) c.args.bins.now.items (omega arith) in
    let two = length-splice (c.args.at + 4) (little_bytes 4 c.args.at) (splice c.args.at (little_bytes 4 1852400232) c.args.bins.now.items) (omega arith) in
    rw (c.put_word-2.ensures.items, c.put_word.ensures.items) (omega arith)
