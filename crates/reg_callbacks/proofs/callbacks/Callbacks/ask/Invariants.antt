use Rattle.std.proofs.Common.{◌≡◌, drop, map}
use Rattle.reg_callbacks.specs.Asking.{status_of}
use Rattle.reg_callbacks.proofs.callbacks.Callbacks.ask.Given as goal

abbrev pub invariant-loop-row : goal.invariant-loop-row
invariant-loop-row g l =
    status_of (map (λ row. g.C.Callback.answers row.callback) (drop l.row-index l.row-items)) l.view
    ≡ status_of (map (λ row. g.C.Callback.answers row.callback) l.row-items) l.view
