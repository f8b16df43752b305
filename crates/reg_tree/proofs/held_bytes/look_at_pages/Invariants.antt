use Rattle.std.proofs.Common.{◌*◌, take}
use Rattle.reg_tree.specs.ValueBytes.{AreBytes}
use Rattle.reg_tree.proofs.held_bytes.look_at_pages.Given as goal

abbrev pub invariant-loop-page : goal.invariant-loop-page
invariant-loop-page l = AreBytes (take (l.page * 4096) l.arena.bytes)
