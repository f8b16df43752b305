use Rattle.std.proofs.Common.{◌≡◌, drop, map}
use Rattle.reg_callbacks.specs.Rows.{is_among}
use Rattle.reg_callbacks.proofs.callbacks.Callbacks.place_of_cookie.Given as goal

abbrev pub invariant-loop-row : goal.invariant-loop-row
invariant-loop-row g l =
    (l.place ≡ l.row-index)
    × (is_among l.cookie (map (λ row. row.cookie) (drop l.row-index l.row-items)) ≡ is_among l.cookie (map (λ row. row.cookie) l.row-items))
