-- What may be seen by several threads.
use denote.Ref.{NamedLft}
use denote.RattleType.{RattleType}
use denote.Param.Send.{IsSync, sendable}
use Rattle.std.proofs.Crossing.{crosses}
use Rattle.reg_sessions.proofs.Crossings.{registry_sync}
use Rattle.reg_bench.specs.contracts.calls.Bench as Bench
use Rattle.reg_bench.specs.contracts.notices.Exchange as Exchange
use Rattle.reg_bench.specs.contracts.seats.Host as Host

pub exchange_sync : IsSync Exchange.the_row
exchange_sync = search (sendable, crosses) depth 100 fits 10000

bench_sync : (k : NamedLft) (Rt : RattleType) → IsSync Rt → IsSync (Bench.the_row k Rt)
bench_sync k Rt s = search (sendable, crosses) depth 100 fits 10000

pub host_sync : (k : NamedLft) (Rt : RattleType) → IsSync Rt → IsSync (Host.the_row k Rt)
host_sync k Rt s = let b = bench_sync k Rt s in search (registry_sync, sendable, crosses) depth 100 fits 10000
