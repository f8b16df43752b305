use Rattle.std.proofs.Common.{rules}
use Rattle.reg_tree_text.proofs.WalkSteps.{first_pending, pending_from, goes_below, only_more, if_advances}
use Rattle.reg_tree_text.proofs.walk.Walk.advance.Goals as goal

pub enter-requires : goal.enter-requires
enter-requires c = (_, _, first_pending _ _ _ _ c.requires.2 _ _ (search rules) (c.in-Some.ensures c.requires.2.path c.requires.2.at))

pub returns-in_ok-enter-in-Some : goal.returns-in_ok-enter-in-Some
returns-in_ok-enter-in-Some c =
    λ here rest s.
    goes_below _ _ _ here rest s
    (c.in_ok-enter-in-Some.ensures _ _ (first_pending _ _ here rest s _ _ (search rules) (c.in-Some.ensures s.path s.at))
    (pending_from _ _ here rest s _ (search rules)))

pub retreat-requires : goal.retreat-requires
retreat-requires c = (_, c.requires.2.pending)

pub returns-in-None : goal.returns-in-None
returns-in-None c =
    λ here rest s. if_advances _ _ _ _ _ (only_more _ _ here rest s (c.in-None.ensures s.path s.at)) (c.retreat.ensures _ s.pending)
