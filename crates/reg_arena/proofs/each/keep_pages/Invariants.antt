use Rattle.reg_arena.specs.Internal.Spares.{ArePages}
use Rattle.reg_arena.proofs.each.keep_pages.Given as goal

abbrev pub invariant-loop-spare : goal.invariant-loop-spare
invariant-loop-spare l = ArePages l.fn.kept.items → ArePages l.kept.items
