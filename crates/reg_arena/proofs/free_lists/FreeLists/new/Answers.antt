use Rattle.std.proofs.Common.{refl}
use Rattle.reg_arena.proofs.FreeList.ListedFrames.{fresh}
use Rattle.reg_arena.proofs.free_lists.FreeLists.new.Goals as goal

pub returns-clause-listed : goal.returns-clause-listed
returns-clause-listed c = fresh _ _ _ _ 24 refl refl c.new.ensures.items c.new-2.ensures.items c.new-3.ensures
