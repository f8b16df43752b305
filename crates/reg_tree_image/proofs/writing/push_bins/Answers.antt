use Rattle.std.proofs.Common.{◌++◌, ◌∙◌, ap, List, ℕ}
use Rattle.reg_tree_image.proofs.Devices.MadeImages.{page-there, page-copied}
use Rattle.reg_tree_image.proofs.writing.push_bins.Goals as goal

pub bytes-requires : goal.bytes-requires
bytes-requires c =
    page-there _ _ c.bins_size-page-end.ensures.sound c.loop-page.page (rw c.bins_size-page-end.ensures.size at c.loop-page-test.true)

pub loop-page-preserved : goal.loop-page-preserved
loop-page-preserved c =
    c.in_ok-extend_from_slice.ensures.items ∙ (ap (λ (xs : List ℕ). c.loop-page.out.items ++ xs) c.bytes.ensures
    ∙ page-copied _ _ c.bins_size-page-end.ensures.sound c.args.out.now.items c.loop-page.out.items c.loop-page.page c.loop-page.invariant)
