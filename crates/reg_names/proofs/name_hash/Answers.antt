use Rattle.std.proofs.Common.{sym, ◌∙◌}
use Rattle.reg_names.proofs.NameHashes.{hash-none, hash-next}
use Rattle.reg_names.proofs.name_hash.Goals as goal

pub loop-byte-init : goal.loop-byte-init
loop-byte-init c = sym hash-none

pub loop-byte-preserved : goal.loop-byte-preserved
loop-byte-preserved c = hash-next c.args.name.now c.loop-byte.byte-index c.loop-byte.hash c.from.result c.loop-byte-test.true c.loop-byte.invariant (c.from.ensures ∙ c.fold.ensures)
