use Rattle.std.proofs.Common.{◌≡◌, ℕ, ◌*◌, ◌<◌, ◌≤◌}
use Rattle.reg_arena.specs.Internal.SizeTables.{bit_in}
use Rattle.reg_arena.proofs.bitmap.least_bit.Given as goal

abbrev pub invariant-loop-i : goal.invariant-loop-i
invariant-loop-i l = (j : ℕ) → l.from ≤ j → j < 64 * l.i → bit_in l.words.items j ≡ 0
