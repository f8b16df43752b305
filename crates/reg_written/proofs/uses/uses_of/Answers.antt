use Rattle.std.proofs.Common.{arith, get_or, refl, ap, subst, take_all}
use Rattle.std.specs.Ordering.{nat_cmp}
use Rattle.std.specs.BTreeMap.{get, is_at}
use Rattle.std.specs.Map.{lookup}
use Rattle.reg_written.specs.Internal.RingWalks.{AreUses}
use Rattle.reg_written.proofs.UseCounts.{counts-few, run-counted}
use Rattle.reg_written.proofs.uses.uses_of.Goals as goal

pub loop-start-init : goal.loop-start-init
loop-start-init c = λ offset. ap (λ es. lookup (is_at (nat_cmp offset)) es) c.new-uses.ensures.empty

pub loop-start-preserved : goal.loop-start-preserved
loop-start-preserved c =
    run-counted (get nat_cmp c.loop-start.uses) c.args.used.now c.loop-start.start c.loop-start.invariant c.run_end-end.result
    (get_or c.args.used.now c.loop-start.start 0) _ (get nat_cmp c.add.new.uses) c.run_end-end.ensures.within.0 refl refl c.run_end-end.ensures.run
    c.in_ok-add.ensures

pub add-requires : goal.add-requires
add-requires c =
    let few = counts-few (get nat_cmp c.loop-start.uses) c.args.used.now c.loop-start.start c.loop-start.invariant (get_or c.args.used.now c.loop-start.start 0) in
    omega (arith, few)

pub returns : goal.returns
returns c = subst (AreUses (get nat_cmp c.loop-start.uses)) (take_all c.loop-start.start c.args.used.now c.loop-start-test.false) c.loop-start.invariant
