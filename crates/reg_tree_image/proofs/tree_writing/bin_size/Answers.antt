use Rattle.std.proofs.Common.{◌∙◌, arith}
use Rattle.reg_tree_image.proofs.Devices.WrittenBins.{header-length, header-size}
use Rattle.reg_tree_image.proofs.tree_writing.bin_size.Goals as goal

pub word_at-requires : goal.word_at-requires
word_at-requires c = let long = header-length _ _ c.requires c.bytes.result.now c.bytes.ensures in omega (arith, long)

pub returns : goal.returns
returns c = c.word_at.ensures ∙ header-size _ _ c.requires c.bytes.result.now c.bytes.ensures
