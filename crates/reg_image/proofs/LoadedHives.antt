-- What was read where memory lacks for a hive of it.
use Rattle.std.proofs.Common.{ℕ, ◌+◌, ◌≤◌, Option, List, length}
use Rattle.std.specs.Io.KnownBytes.{Consumes}
use Rattle.reg_heap.specs.Paths.{Tree}
use Rattle.reg_heap.specs.declared.limits.TheConstants.{BINS_LIMIT}
use Rattle.reg_tree_image.specs.declared.LoadFault.TheVariants.{Memory}
use Rattle.reg_tree_image.specs.Loads.{ReadsNumbered, IsRefused}
use Rattle.reg_tree_image.proofs.Devices.ImagesRead.{numbered-reads, memory-met}

-- the image of a tree that was read: no test of it fails, but memory may lack
pub no-memory : (unread left : Option (List ℕ)) (tree : Tree) (sequence : ℕ) → ReadsNumbered unread left tree sequence →
    (image : List ℕ) × Consumes unread left image × (length image ≤ 4096 + BINS_LIMIT) × IsRefused Memory image left
no-memory unread left tree sequence r =
    let met = memory-met unread left tree (numbered-reads unread left tree sequence r) in
    (met.image, met.consumed, met.within, met.refused)
