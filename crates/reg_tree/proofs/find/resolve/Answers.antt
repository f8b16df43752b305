use Rattle.std.proofs.Common.{sym, subst, arith}
use Rattle.reg_heap.specs.Edits.{folded_path}
use Rattle.reg_arena.specs.Arena.{heap_of}
use Rattle.reg_tree.specs.Internal.PathWalks.{IsWalked}
use Rattle.reg_tree.proofs.PathWalk.PathSteps.{starts, next, here_then, deep_then, none_named}
use Rattle.reg_tree.proofs.find.resolve.Goals as goal

pub loop-name-init : goal.loop-name-init
loop-name-init c = starts _ c.args.from c.args.path.now c.requires.path

pub below-requires : goal.below-requires
below-requires c = here_then _ c.args.from c.requires.here c.args.path.now c.loop-name.node c.loop-name.rest.now c.loop-name.invariant

pub overflow_add-node : goal.overflow_add-node
overflow_add-node c =
    let d = deep_then _ c.args.from c.requires.here c.args.path.now c.loop-name.node c.loop-name.rest.now c.loop-name.invariant c.requires.depth in
    omega (arith, d)

pub loop-name-preserved : goal.loop-name-preserved
loop-name-preserved c =
    next _ c.args.from c.args.path.now c.loop-name.node c.loop-name.rest.now c.loop-name.invariant c.in-Some.name.now
    c.in-Some.behind.now c.in_ok-below.field-0 c.in-Some.ensures c.in_ok-below.ensures

pub returns-in_err-below : goal.returns-in_err-below
returns-in_err-below c =
    subst (IsWalked (heap_of c.args.arena.now) c.args.from (folded_path c.args.path.now)) (sym c.from_residual.ensures)
    (none_named _ c.args.from c.args.path.now c.loop-name.node c.loop-name.rest.now c.loop-name.invariant c.in-Some.name.now
    c.in-Some.behind.now c.in-Some.ensures c.in_err-below.ensures)
