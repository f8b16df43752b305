use Rattle.std.specs.BTreeMap.{btree_map_len}
use Rattle.reg_handles.specs.Internal.OpenKeySlab.{key_at}
use Rattle.reg_model.specs.Internal.TextNumbers.{goes_on}
use Rattle.reg_handles.proofs.KeysMarkedBelow.{AreMarked}
use Rattle.reg_handles.proofs.keys.OpenKeys.mark_deleted_under.Given as goal

abbrev pub invariant-loop-key : goal.invariant-loop-key
invariant-loop-key g l = AreMarked (goes_on l.start.items) l.fn.self.slots l.self.slots (key_at l.fn.self.by_path.entries) (key_at l.self.by_path.entries)

abbrev pub decreases-loop-key : goal.decreases-loop-key
decreases-loop-key g l = btree_map_len l.self.by_path
