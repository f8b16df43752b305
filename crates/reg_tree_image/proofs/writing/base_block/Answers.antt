use Rattle.std.proofs.Common.{◌∙◌, ap, List, ℕ, replicate}
use Rattle.reg_heap.specs.ByteWords.{splice}
use Rattle.reg_tree_image.proofs.Devices.MadeImages.{fields-put, block-put}
use Rattle.reg_tree_image.proofs.writing.base_block.Goals as goal

pub returns : goal.returns
returns c =
    let fields = fields-put c.args.size c.args.root c.args.moment c.args.sequence c.put.new.bytes
    (c.put.ensures ∙ ap (λ (xs : List ℕ). splice 0 xs (replicate 4096 0)) c.block_fields.ensures) in
    block-put c.args.size c.args.root c.args.moment c.args.sequence c.put.new.bytes c.put-2.new.bytes c.head_checksum-checksum.result fields
    c.head_checksum-checksum.ensures (c.put-2.ensures ∙ ap (λ (xs : List ℕ). splice 508 xs c.put.new.bytes) c.word_bytes.ensures)
