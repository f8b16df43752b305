use Rattle.std.proofs.Common.{arith}
use Rattle.reg_tree.proofs.PathWalk.PathSteps.{here_then, deep_then}
use Rattle.reg_tree.proofs.PathWalk.WalkPlaces.{starts_at, next_at, stopped_at}
use Rattle.reg_tree.proofs.find.reach.Goals as goal

pub loop-name-init : goal.loop-name-init
loop-name-init c = starts_at _ c.args.from c.args.path.now c.requires.path

pub child-requires : goal.child-requires
child-requires c = here_then _ c.args.from c.requires.here c.args.path.now c.loop-name.node c.loop-name.rest.now c.loop-name.invariant.passes

pub overflow_add-node : goal.overflow_add-node
overflow_add-node c =
    let d = deep_then _ c.args.from c.requires.here c.args.path.now c.loop-name.node c.loop-name.rest.now c.loop-name.invariant.passes c.requires.depth in
    omega (arith, d)

pub loop-name-preserved : goal.loop-name-preserved
loop-name-preserved c =
    next_at _ c.args.from c.args.path.now c.loop-name.node c.loop-name.rest.now c.loop-name.place c.loop-name.invariant c.in-Some.name.now
    c.in-Some.behind.now c.in-Ok.below.key c.in-Ok.below.place c.in-Some.ensures c.in-Ok.ensures.0 c.in-Ok.ensures.1

pub returns-in-Err-clause-place : goal.returns-in-Err-clause-place
returns-in-Err-clause-place c =
    stopped_at _ c.args.from c.args.path.now c.loop-name.node c.loop-name.rest.now c.loop-name.place c.loop-name.invariant c.in-Some.name.now
    c.in-Some.behind.now c.in-Err.place c.in-Some.ensures c.in-Err.ensures.1
