use Rattle.std.proofs.Common.{arith, ap, sym, ℕ, BTreeMap, length}
use Rattle.std.proofs.lemmas.Bool.{MatchBool-at_true, MatchBool-at_false}
use Rattle.std.specs.Ordering.{nat_cmp}
use Rattle.std.specs.BTreeMap.{get}
use Rattle.reg_arena.specs.Cells.{cell_at}
use Rattle.reg_arena.proofs.FreeList.ListMembers.{times-all}
use Rattle.reg_written.specs.Internal.WalkStates.{way_of}
use Rattle.reg_written.proofs.LeftMaps.{taken-at}
use Rattle.reg_written.proofs.RingSteps.{used-next, way-next, unfit, way-end}
use Rattle.reg_written.proofs.walk.RingWalk.go_round.Goals as goal

pub loop-count-init : goal.loop-count-init
loop-count-init c = λ used w. w

pub go_on-requires : goal.go_on-requires
go_on-requires c =
    let r = c.requires in
    times-all _ r.0 r.1 c.loop-count.self.at
    (used-next (cell_at c.args.bins.now) r.0 _ _ (way_of c.loop-count.self) (c.loop-count.invariant r.0 r.2) c.in-Some.count (sym c.in-Some.ensures.value))

pub returns-then-not-branch : goal.returns-then-not-branch
returns-then-not-branch c = λ used w.
    unfit (cell_at c.args.bins.now) used _ _ (way_of c.loop-count.self) (c.loop-count.invariant used w) c.in-Some.count (sym c.in-Some.ensures.value)
    (MatchBool-at_false _ _ c.if-not-branch.true c.in_ok-go_on.ensures.next)

pub loop-count-smaller : goal.loop-count-smaller
loop-count-smaller c =
    let len = c.in-Some.ensures.len in
    let same = ap (λ (m : BTreeMap ℕ ℕ). length m.entries) c.in_ok-go_on.ensures.left in
    omega (arith, len, same)

pub loop-count-preserved : goal.loop-count-preserved
loop-count-preserved c = λ used w.
    way-next (cell_at c.args.bins.now) used _ _ (way_of c.loop-count.self) (way_of c.go_on.new.self) (get nat_cmp c.remove.new.self) c.in-Some.count
    (c.loop-count.invariant used w) (sym c.in-Some.ensures.value)
    (taken-at c.loop-count.self.at (get nat_cmp c.loop-count.self.left) (get nat_cmp c.remove.new.self) c.in-Some.ensures.updates.0)
    (MatchBool-at_true _ _ c.if-not-branch.false c.in_ok-go_on.ensures.next)

pub returns : goal.returns
returns c = λ used w.
    way-end (cell_at c.args.bins.now) used _ _ (way_of c.loop-count.self) (get nat_cmp c.remove.new.self) c.is_closed.result (c.loop-count.invariant used w)
    (sym c.in_default.ensures.value)
    (taken-at c.loop-count.self.at (get nat_cmp c.loop-count.self.left) (get nat_cmp c.remove.new.self) c.in_default.ensures.updates.0)
    c.is_closed.ensures
