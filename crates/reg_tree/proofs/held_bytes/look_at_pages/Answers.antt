use Rattle.std.proofs.Common.{subst}
use Rattle.reg_tree.specs.ValueBytes.{AreBytes}
use Rattle.reg_tree.proofs.ByteValues.SeenPages.{page-there, page-seen}
use Rattle.reg_tree.proofs.held_bytes.look_at_pages.Goals as goal

pub bytes-requires : goal.bytes-requires
bytes-requires c =
    page-there _ _ c.bins_size-page-end.ensures.sound c.loop-page.page (rw c.bins_size-page-end.ensures.size at c.loop-page-test.true)

pub loop-page-preserved : goal.loop-page-preserved
loop-page-preserved c =
    page-seen _ _ c.bins_size-page-end.ensures.sound c.loop-page.page c.loop-page.invariant (subst AreBytes c.bytes.ensures c.look_at.ensures)
