use denote.Param.Send.{sendable}
use Rattle.std.proofs.Crossing.{crosses}
use Rattle.reg_sessions.proofs.Crossings.{registry_sync}
use Rattle.reg_sessions.proofs.driving.run_jobs.Goals as goal

pub for_each_mut-requires-sync-F : goal.for_each_mut-requires-sync-F
for_each_mut-requires-sync-F g c κs within =
    let rt = c.type_bounds.sync-Rt in
    let gate = c.type_bounds.sync-G in
    let send = c.type_bounds.send-C in
    search (registry_sync, sendable, crosses) depth 100 fits 10000
