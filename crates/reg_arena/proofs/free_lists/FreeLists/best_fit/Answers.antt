use Rattle.reg_arena.proofs.FreeList.BestFits.{lowered}
use Rattle.reg_arena.proofs.free_lists.FreeLists.best_fit.Goals as goal

pub returns-in_default-clause-listed : goal.returns-in_default-clause-listed
returns-in_default-clause-listed c = λ sizes w. lowered _ _ _ _ _ _ _ _ (rw (← c.self.view_is) at w) c.args.total (c.in_default.ensures sizes w)
