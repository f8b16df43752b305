use Rattle.std.proofs.Common.{◌≤◌, ℕ, List, OnOk, IfErr, length, take, refl, subst}
use Rattle.std.specs.Io.KnownBytes.{Appends}
use Rattle.reg_tree_image.proofs.Devices.MadeImages.{parts-image, image-loads}
use Rattle.reg_tree_image.proofs.Devices.OwnLoads.{own-of}
use Rattle.reg_tree_image.proofs.tree_writing.write_tree.Goals as goal

pub returns-clause-ok : goal.returns-clause-ok
returns-clause-ok g c =
    subst (λ (bytes : List ℕ). OnOk c.write_block_and_bins.result (Appends (g.W.Sink.contents c.args.writer.now)
    (g.W.Sink.contents c.write_block_and_bins.new.writer) bytes))
    (parts-image c.args.tree.now _ c.root-root.result _ c.bins_size-size.result c.args.moment c.args.sequence c.arena-arena.ensures.bins
    c.root-root.ensures.at c.bins_size-size.ensures.size c.base_block-block.ensures)
    c.write_block_and_bins.ensures.ok

pub returns-clause-err : goal.returns-clause-err
returns-clause-err g c =
    subst (λ (bytes : List ℕ). IfErr c.write_block_and_bins.result (λ fault. (fault.written ≤ length bytes)
    × Appends (g.W.Sink.contents c.args.writer.now) (g.W.Sink.contents c.write_block_and_bins.new.writer) (take fault.written bytes)))
    (parts-image c.args.tree.now _ c.root-root.result _ c.bins_size-size.result c.args.moment c.args.sequence c.arena-arena.ensures.bins
    c.root-root.ensures.at c.bins_size-size.ensures.size c.base_block-block.ensures)
    c.write_block_and_bins.ensures.err

pub returns-clause-loads : goal.returns-clause-loads
returns-clause-loads g c =
    let keys = c.args.tree.now in
    image-loads keys.bins.bytes keys.root c.args.moment c.args.sequence _ keys.tree c.arena-arena.ensures.whole c.arena-arena.ensures.sound.small refl

pub returns-clause-own : goal.returns-clause-own
returns-clause-own g c =
    let keys = c.args.tree.now in
    own-of keys.bins.bytes keys.bins.heads keys.root c.args.moment c.args.sequence keys.tree c.arena-arena.ensures.whole c.arena-arena.ensures.sound
