use Rattle.std.proofs.Common.{lit≤}
use Rattle.reg_records.proofs.KeyNodeCodec.{key-room}
use Rattle.reg_tree.proofs.BuildKey.SubkeyClassWrite.{classed}
use Rattle.reg_tree.proofs.Invariant.CellReadings.{key-exists}
use Rattle.reg_tree.proofs.build.set_largest_subkey_class.Goals as goal

pub write-requires-clause-exists : goal.write-requires-clause-exists
write-requires-clause-exists c = key-exists _ _ c.requires

pub write-requires-clause-fits : goal.write-requires-clause-fits
write-requires-clause-fits c = rw c.word_bytes.ensures.bytes (key-room _ c.args.key 60 (lit≤ tt) c.requires).enough

pub returns-clause-notes : goal.returns-clause-notes
returns-clause-notes c = classed _ _ c.args.key c.args.largest c.word_bytes.ensures.fits c.requires (rw c.word_bytes.ensures.bytes at c.write.ensures.written)
