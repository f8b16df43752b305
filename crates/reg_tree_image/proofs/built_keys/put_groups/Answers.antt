use Rattle.std.proofs.Common.{refl, arith}
use Rattle.reg_values.specs.NewValues.{all_told}
use Rattle.reg_tree_image.specs.Internal.BegunKeys.{IsLack}
use Rattle.reg_tree_image.specs.CrowdedBins.{CrowdsGroups}
use Rattle.reg_tree_image.proofs.KeyStacks.StackEnds.{if_err}
use Rattle.reg_tree_image.proofs.KeyStacks.BuiltChains.{lack-as}
use Rattle.reg_tree_image.proofs.Readers.PutValues.{begins, small-left, may-put, fit-group, one-put, none-put, all-put, all-there, some-left}
use Rattle.reg_tree_image.proofs.built_keys.put_groups.Goals as goal

pub loop-from-init : goal.loop-from-init
loop-from-init c = begins c.args.tree.now c.args.node c.args.time (all_told c.args.values.now)

pub front_of_one_more_carve-count-requires : goal.front_of_one_more_carve-count-requires
front_of_one_more_carve-count-requires c = small-left _ _ _ _ c.args.values.now _ c.loop-from.invariant _ refl c.requires.begun

pub put_more-requires-clause-more : goal.put_more-requires-clause-more
put_more-requires-clause-more c =
    let e = c.front_of_one_more_carve-count.ensures in
    may-put _ _ _ _ c.args.values.now _ c.loop-from.invariant _ refl c.front_of_one_more_carve-count.result e.within
    (e.some (some-left c.args.values.now _ _ refl c.loop-from-test.true)) e.fits e.longest c.requires.begun

pub put_more-requires-clause-fits : goal.put_more-requires-clause-fits
put_more-requires-clause-fits c =
    let e = c.front_of_one_more_carve-count.ensures in
    fit-group _ _ _ _ c.args.values.now _ c.loop-from.invariant _ refl c.front_of_one_more_carve-count.result e.within
    (e.some (some-left c.args.values.now _ _ refl c.loop-from-test.true)) e.fits e.longest

pub loop-from-preserved : goal.loop-from-preserved
loop-from-preserved c =
    let e = c.front_of_one_more_carve-count.ensures in
    one-put _ _ _ _ c.args.values.now _ c.loop-from.invariant _ refl c.front_of_one_more_carve-count.result e.within
    (e.some (some-left c.args.values.now _ _ refl c.loop-from-test.true)) e.fits e.longest _ c.in_ok-put_more.ensures.ok
    c.in_ok-put_more.ensures.nodes c.in_ok-put_more.ensures.room c.in_ok-put_more.ensures.puts

pub loop-from-smaller : goal.loop-from-smaller
loop-from-smaller c =
    let e = c.front_of_one_more_carve-count.ensures.some (some-left c.args.values.now _ _ refl c.loop-from-test.true) in
    let l = c.loop-from-test.true in
    omega (arith, e, l)

pub returns-in_err-put_more-clause-err : goal.returns-in_err-put_more-clause-err
returns-in_err-put_more-clause-err c p at =
    let e = c.front_of_one_more_carve-count.ensures in
    if_err (IsLack (CrowdsGroups c.args.tree.now p c.args.time (all_told c.args.values.now))) c.from_residual.result _
    c.from_residual.ensures.1
    (lack-as _ _ _
    (none-put _ _ _ _ c.args.values.now _ c.loop-from.invariant _ refl c.front_of_one_more_carve-count.result e.within
    (e.some (some-left c.args.values.now _ _ refl c.loop-from-test.true)) e.fits e.longest p at)
    c.in_err-put_more.ensures.err)

pub returns-clause-ok : goal.returns-clause-ok
returns-clause-ok c p at = all-there _ _ c.args.node c.args.time c.args.values.now _ c.loop-from.invariant c.loop-from-test.false p at

pub returns-clause-puts : goal.returns-clause-puts
returns-clause-puts c p at = all-put _ _ c.args.node c.args.time c.args.values.now _ c.loop-from.invariant c.loop-from-test.false p at
