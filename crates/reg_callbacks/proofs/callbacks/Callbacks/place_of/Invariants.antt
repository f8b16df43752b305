use Rattle.std.proofs.Common.{◌≡◌, ◌+◌, drop, map}
use Rattle.reg_callbacks.specs.Rows.{count_above}
use Rattle.reg_callbacks.proofs.callbacks.Callbacks.place_of.Given as goal

abbrev pub invariant-loop-row : goal.invariant-loop-row
invariant-loop-row g l =
    (l.place ≡ l.row-index)
    × (l.place + count_above l.altitude (map (λ row. row.altitude) (drop l.row-index l.row-items)) ≡ count_above l.altitude (map (λ row. row.altitude) l.row-items))
