use Rattle.std.proofs.Common.{◌≡◌, ℕ, List, ◌++◌}
use Rattle.std.specs.Vec.Iter.{into_iter_items}
use Rattle.reg_calls.specs.HiveView.{view_of, callbacks_of}
use Rattle.reg_dotreg_import.specs.Imports.{Stand, after_entries, entries_of}
use Rattle.reg_dotreg_import.specs.Internal.Standing.{IsImporting, AreEntriesMade, hands_of}
use Rattle.reg_dotreg_import.proofs.entries.Handles.apply_all.Given as goal

abbrev pub invariant-loop-numbered : goal.invariant-loop-numbered
invariant-loop-numbered g l = record {
  callbacks : callbacks_of l.hive.hive ≡ callbacks_of l.fn.hive.hive;
  moment : l.self.moment ≡ l.fn.self.moment;
  front : l.yielded ++ into_iter_items l.numbered-iterator ≡ l.fn.entries.items;
  stands : (before : List ℕ) → (s : Stand) → IsImporting before l.fn.self (view_of l.fn.hive.hive) s →
      IsImporting before l.self (view_of l.hive.hive) (after_entries l.fn.self.moment s (entries_of l.yielded));
  led : (before : List ℕ) → (s : Stand) → IsImporting before l.fn.self (view_of l.fn.hive.hive) s →
      AreEntriesMade l.fn.self.moment (hands_of l.fn.self (view_of l.fn.hive.hive) s) (entries_of l.yielded) (view_of l.fn.hive.hive) (view_of l.hive.hive)
      (hands_of l.self (view_of l.hive.hive) (after_entries l.fn.self.moment s (entries_of l.yielded)));
}
