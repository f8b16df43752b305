use Rattle.std.proofs.Common.{◌+◌, ◌≤◌}
use Rattle.std.specs.Prelude.{vec_len, vec_capacity}
use Rattle.reg_notify.proofs.PlaceWalk.{IsWalked}
use Rattle.reg_notify.proofs.table.Table.end_event.Given as goal

abbrev pub invariant-loop-byte : goal.invariant-loop-byte
invariant-loop-byte l = record {
  walked : IsWalked l.fn.place l.bits l.by l.text.items l.fn.self l.self;
  room : vec_len l.text + 2 ≤ vec_capacity l.text;
}

abbrev pub decreases-loop-byte : goal.decreases-loop-byte
decreases-loop-byte l = vec_len l.text
