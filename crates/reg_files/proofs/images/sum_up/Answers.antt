use Rattle.std.proofs.Common.{◌≡◌, ◌∙◌, ap, arith}
use Rattle.std.proofs.lemmas.List.{take_all}
use Rattle.byteorder.specs.Endian.{little_bytes}
use Rattle.reg_heap.specs.ByteWords.{splice}
use Rattle.reg_tree_image.specs.BaseBlock.{checksum_of}
use Rattle.reg_files.proofs.images.sum_up.Goals as goal

pub returns : goal.returns
returns c =
    let size = c.requires in
    let whole : c.in-Some.whole.now ≡ c.args.block.now = c.in-Some.ensures.cases.same ∙ take_all 4096 c.args.block.now (omega (arith, size)) in
    c.put_number.ensures ∙ ap (λ n. splice 508 (little_bytes 4 n) c.args.block.now) (c.checksum-sum.ensures ∙ ap checksum_of whole)
