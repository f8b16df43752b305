use Rattle.std.proofs.Common.{subst}
use Rattle.reg_arena.specs.Arena.{Bins}
use Rattle.reg_tree.specs.ValueBytes.{AreBytes}
use Rattle.reg_tree.proofs.ByteValues.SpeltBytes.{tree-bytes}
use Rattle.reg_tree.proofs.held_bytes.hold_bytes.Goals as goal

pub returns : goal.returns
returns c =
    tree-bytes _ _ _ (subst (λ (b : Bins). AreBytes b.bytes) c.arena.ensures.bins c.look_at_pages.ensures) c.arena.ensures.whole
