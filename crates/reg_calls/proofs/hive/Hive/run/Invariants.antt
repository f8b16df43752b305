use Rattle.std.proofs.Common.{◌≡◌, ◌+◌, ◌≤◌, length, vec_len, vec_capacity}
use Rattle.std.specs.Vec.Iter.{into_iter_items}
use Rattle.reg_calls.specs.Runs.{Run}
use Rattle.reg_calls.specs.Seats.{HaveCounted, HaveSeats}
use Rattle.reg_calls.specs.HiveView.{view_of, noted_of, callbacks_of, asks_of}
use Rattle.reg_calls.proofs.hive.Hive.run.Given as goal

abbrev pub invariant-loop-step : goal.invariant-loop-step
invariant-loop-step g l = record {
  callbacks : callbacks_of l.self ≡ callbacks_of l.fn.self;
  noted : noted_of l.self ≡ noted_of l.fn.self;
  ran : Run (asks_of g.C.Callback.answers l.fn.self) (view_of l.fn.self) l.yielded l.outcomes.items (view_of l.self);
  counted : HaveCounted (view_of l.fn.self).journal (view_of l.self).journal l.fn.shares.items l.shares.items;
  count : vec_len l.outcomes ≡ length l.yielded;
  left : length l.yielded + length (into_iter_items l.step-iterator) ≡ length l.fn.steps.items;
  room : length l.fn.steps.items ≤ vec_capacity l.outcomes;
  seats : HaveSeats (noted_of l.fn.self) (view_of l.fn.self).journal l.fn.shares.items (into_iter_items l.step-iterator);
}
