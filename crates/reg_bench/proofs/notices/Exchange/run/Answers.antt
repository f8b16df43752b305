use denote.Param.Send.{sendable}
use Rattle.std.proofs.Crossing.{crosses}
use Rattle.reg_bench.proofs.Crossings.{exchange_sync, host_sync}
use Rattle.reg_bench.proofs.notices.Exchange.run.Goals as goal

pub for_each_mut-requires-sync-F : goal.for_each_mut-requires-sync-F
for_each_mut-requires-sync-F g c κs within =
    let rt = c.type_bounds.sync-Rt in
    search (exchange_sync, host_sync, sendable, crosses) depth 100 fits 10000
