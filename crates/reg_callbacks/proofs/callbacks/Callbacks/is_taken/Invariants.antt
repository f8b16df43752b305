use Rattle.std.proofs.Common.{◌≡◌, drop, map}
use Rattle.reg_callbacks.specs.Rows.{is_among}
use Rattle.reg_callbacks.proofs.callbacks.Callbacks.is_taken.Given as goal

abbrev pub invariant-loop-row : goal.invariant-loop-row
invariant-loop-row g l = is_among l.altitude (map (λ row. row.altitude) (drop l.row-index l.row-items)) ≡ is_among l.altitude (map (λ row. row.altitude) l.row-items)
