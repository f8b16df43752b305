use Rattle.reg_tree.proofs.PathWalk.PathSteps.{some_names}
use Rattle.reg_tree.proofs.InsertKey.CreatePath.{parent_here, parent-deep, none_many, too_many, are_many}
use Rattle.reg_tree.proofs.InsertKey.CreatePathEnds.{from_shallow, empty_names}
use Rattle.reg_tree.proofs.InsertKey.KeyLimits.{test-is, test-false}
use Rattle.reg_tree.proofs.make.is_limited.Goals as goal

pub returns-then-is_empty : goal.returns-then-is_empty
returns-then-is_empty c = λ from path l. test-false _ _ _ (none_many _ from l.here path _ _ l.reaches 0 (empty_names _ c.is_empty.result c.is_empty.ensures c.if-is_empty.true))

pub pass_limits-requires-clause-here : goal.pass_limits-requires-clause-here
pass_limits-requires-clause-here c = parent_here _ c.requires.0 c.requires.2.here c.requires.1 _ _ c.requires.2.reaches 0

pub pass_limits-requires-clause-depth : goal.pass_limits-requires-clause-depth
pass_limits-requires-clause-depth c =
    let l = c.requires.2 in
    parent-deep _ c.requires.0 l.here c.requires.1 _ _ l.reaches 0 (from_shallow _ _ l.here l.depth)

pub pass_limits-requires-clause-path : goal.pass_limits-requires-clause-path
pass_limits-requires-clause-path c = c.requires.2.reaches.passes.valid

pub returns : goal.returns
returns c = λ from path l.
    let limits = c.pass_limits.ensures.many (parent_here _ from l.here path _ _ l.reaches 0) in
    test-is _ _ _ c.pass_limits.result (
      (λ e. too_many _ from l.here path _ _ l.reaches 0 l.depth (some_names _ c.is_empty.result c.is_empty.ensures c.if-is_empty.false) (limits.0 e)),
      λ m. limits.1 (are_many _ from l.here path _ _ l.reaches 0 l.depth m),
    )
