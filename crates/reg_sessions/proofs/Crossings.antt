-- What may go from thread to thread, or be seen by several: hives behind locks, whatever their callbacks, if these may go.
use denote.RattleType.{RattleType}
use denote.Param.Send.{IsSend, IsSync, sendable}
use Rattle.std.proofs.Crossing.{crosses}
use Rattle.std.proofs.MapsCrossing as maps
use Rattle.rtrb.proofs.end.End.TheSendSync as ring
use Rattle.reg_model.specs.contracts.bytes.Bytes as Bytes
use Rattle.reg_model.specs.contracts.notice.Notice as Notice
use Rattle.reg_calls.specs.contracts.hive_core.Core as Core
use Rattle.reg_sessions.specs.contracts.lines.Line as Line
use Rattle.reg_sessions.specs.contracts.locked.Locked as Locked
use Rattle.reg_sessions.specs.contracts.registry.Registry as Registry
use Rattle.reg_sessions.specs.contracts.registry.Room as Room

-- names and data: those of the journal's changes
bytes_send : IsSend Bytes.the_row
bytes_send = search (sendable, crosses) depth 60 fits 20000

core_send : IsSend Core.the_row
core_send = let b = bytes_send in search (sendable, crosses, maps.crosses) depth 2000 fits 200000

notice_send : IsSend Notice.the_row
notice_send = search (sendable, crosses) depth 100

-- with the end of a ring of notices
line_send : IsSend Line.the_row
line_send = let n = notice_send in search (ring.the_send, sendable, crosses) depth 400 fits 20000

pub locked_send : (C : RattleType) → IsSend C → IsSend (Locked.the_row C)
locked_send C s = let a = core_send in let b = line_send in search (sendable, crosses, maps.crosses) depth 400 fits 20000

room_send : (C : RattleType) → IsSend C → IsSend (Room.the_row C)
room_send C s = let a = locked_send C s in search (sendable, crosses) depth 100 fits 10000

pub registry_sync : (C : RattleType) → IsSend C → IsSync (Registry.the_row C)
registry_sync C s = let a = locked_send C s in let b = room_send C s in search (sendable, crosses) depth 100 fits 10000
