use Rattle.std.proofs.Common.{rules}
use Rattle.reg_tree_text.proofs.WalkSteps.{popped, none_pending, goes_on}
use Rattle.reg_tree_text.proofs.walk.Walk.retreat.Goals as goal

pub enter-requires : goal.enter-requires
enter-requires c = (let a = popped _ _ _ _ _ _ _ c.in-Some.ensures.items c.requires.1 in (_, _, a.2))

pub returns-in_ok-enter-in-Some : goal.returns-in_ok-enter-in-Some
returns-in_ok-enter-in-Some c =
    λ more m. (let a = popped _ _ _ _ _ _ more c.in-Some.ensures.items m in
    goes_on _ _ a.0 a.1 _ a.5 (c.in_ok-enter-in-Some.ensures a.0 a.1 a.2 a.4))

pub returns-in-None : goal.returns-in-None
returns-in-None c = λ more m. none_pending _ _ _ _ _ more c.in-None.ensures.items (search rules) m
