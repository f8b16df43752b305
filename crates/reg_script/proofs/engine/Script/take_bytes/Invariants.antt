use Rattle.std.proofs.Common.{◌≡◌, length}
use Rattle.std.specs.List.{position_or_len}
use Rattle.reg_calls.specs.HiveView.{view_of, noted_of, callbacks_of}
use Rattle.reg_calls.specs.Seats.{AreSeated}
use Rattle.reg_script.specs.Internal.Progress.{is_feed, IsSteady, position_of}
use Rattle.reg_script.proofs.ScriptParts.{IsTakenOf}
use Rattle.reg_script.proofs.engine.Script.take_bytes.Given as goal

abbrev pub invariant-loop-place : goal.invariant-loop-place
invariant-loop-place g l = record {
  seated : AreSeated (noted_of l.hive) (view_of l.hive).journal l.shares.items;
  noted : noted_of l.hive ≡ noted_of l.initial.hive;
  callbacks : callbacks_of l.hive ≡ callbacks_of l.initial.hive;
  place : l.place ≡ position_or_len is_feed l.rest;
  taken : IsSteady (position_of g.C.Callback.answers l.initial.self l.initial.hive (g.W.Write.contents l.initial.writer)) →
      IsTakenOf (position_of g.C.Callback.answers l.initial.self l.initial.hive (g.W.Write.contents l.initial.writer)) l.bytes
      (position_of g.C.Callback.answers l.self l.hive (g.W.Write.contents l.writer)) l.rest;
}

abbrev pub decreases-loop-place : goal.decreases-loop-place
decreases-loop-place g l = length l.rest
