use Rattle.std.proofs.Common.{arith}
use Rattle.reg_tree.proofs.ByteValues.BytePieces.{bytes-each}
use Rattle.reg_tree.proofs.held_bytes.look_at.Goals as goal

pub returns : goal.returns
returns c = bytes-each c.args.bytes.now (λ k. let h = c.type_inv.bytes k in omega (arith, h))
