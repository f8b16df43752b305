use Rattle.std.proofs.Common.{arith}
use Rattle.byteorder.specs.Endian.{little_bytes}
use Rattle.reg_arena.proofs.Contents.ByteSplices.{length-splice}
use Rattle.reg_arena.proofs.links.put_free.Goals as goal

pub put_word-requires-2 : goal.put_word-requires-2
put_word-requires-2 c =
    let long = length-splice c.args.at (little_bytes 4 c.args.size) c.args.bins.now.items (omega arith) in
    rw c.put_word.ensures.items (omega arith)
