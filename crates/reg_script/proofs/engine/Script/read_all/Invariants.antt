use Rattle.std.proofs.Common.{◌≡◌, List, ℕ, ◌≤◌, length}
use Rattle.std.specs.Io.KnownBytes.{Consumes}
use Rattle.reg_calls.specs.HiveView.{view_of, noted_of, callbacks_of}
use Rattle.reg_calls.specs.Seats.{AreSeated}
use Rattle.reg_script.specs.Internal.Progress.{IsSteady, Takes, position_of}
use Rattle.reg_script.proofs.engine.Script.read_all.Given as goal

abbrev pub invariant-loop-read : goal.invariant-loop-read
invariant-loop-read g l = record {
  seated : AreSeated (noted_of l.hive) (view_of l.hive).journal l.shares.items;
  noted : noted_of l.hive ≡ noted_of l.initial.hive;
  callbacks : callbacks_of l.hive ≡ callbacks_of l.initial.hive;
  taken : IsSteady (position_of g.C.Callback.answers l.initial.self l.initial.hive (g.W.Write.contents l.initial.writer)) →
      (taken : List ℕ) × Consumes (g.R.Read.remaining l.initial.reader) (g.R.Read.remaining l.reader) taken ×
      Takes (position_of g.C.Callback.answers l.initial.self l.initial.hive (g.W.Write.contents l.initial.writer)) taken
      (position_of g.C.Callback.answers l.self l.hive (g.W.Write.contents l.writer)) × (l._read ≤ length taken);
}
