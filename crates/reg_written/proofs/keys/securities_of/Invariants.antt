use Rattle.std.proofs.Common.{◌≡◌, ◌++◌, map, drop}
use Rattle.reg_arena.specs.Cells.{cell_at}
use Rattle.reg_written.specs.ReadKeys.{security_in}
use Rattle.reg_written.proofs.keys.securities_of.Given as goal

abbrev pub invariant-loop-key : goal.invariant-loop-key
invariant-loop-key l = l.securities.items ++ map (security_in (cell_at l.bins)) (drop l.key-index l.keys) ≡ map (security_in (cell_at l.bins)) l.keys
