use Rattle.std.proofs.Common.{refl, arith}
use Rattle.reg_arena.proofs.FreeList.ListedFrames.{longer}
use Rattle.reg_arena.proofs.free_lists.FreeLists.make_room.Goals as goal

pub returns-in_err-lengthen-clause-listed : goal.returns-in_err-lengthen-clause-listed
returns-in_err-lengthen-clause-listed c = rw (← c.self.view_is) (λ bytes sizes w. longer _ _ _ _ _ _ _ _ w _ _ _ c.lengthen.ensures.same (λ x. refl)
    c.lengthen.ensures.longer (omega arith) (omega arith))

pub returns-in_err-lengthen_words-clause-listed : goal.returns-in_err-lengthen_words-clause-listed
returns-in_err-lengthen_words-clause-listed c = rw (← c.self.view_is) (λ bytes sizes w. longer _ _ _ _ _ _ _ _ w _ _ _ c.lengthen.ensures.same (λ x. refl)
    c.lengthen.ensures.longer c.lengthen_words.ensures.longer (omega arith))

pub returns-clause-listed : goal.returns-clause-listed
returns-clause-listed c = rw (← c.self.view_is) (λ bytes sizes w. longer _ _ _ _ _ _ _ _ w _ _ _ c.lengthen.ensures.same c.lengthen-2.ensures.same
    c.lengthen.ensures.longer c.lengthen_words.ensures.longer c.lengthen-2.ensures.longer)
