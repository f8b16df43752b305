use Rattle.std.proofs.Common.{arith}
use Rattle.reg_tree.proofs.PruneTree.NextKeys.{climbs-from, first-next, climbs-top, climbs-on, beside-next, place-above, none-next, above-top}
use Rattle.reg_tree.proofs.PruneTree.TopKeys.{low, not-root, stands_somewhere}
use Rattle.reg_tree.proofs.prune.next_key.Goals as goal

pub subkey-requires-clause-depth : goal.subkey-requires-clause-depth
subkey-requires-clause-depth c = low _ _ c.requires

pub returns-in-Some : goal.returns-in-Some
returns-in-Some c = λ t. first-next _ _ t c.in-Some.first (c.in-Some.ensures t.here)

pub loop-node-init : goal.loop-node-init
loop-node-init c = λ t. climbs-from _ _ t (c.in_default.ensures t.here)

pub parent_of-above-requires-clause-top : goal.parent_of-above-requires-clause-top
parent_of-above-requires-clause-top c = climbs-top _ _ c.requires c.loop-node.node (c.loop-node.invariant c.requires)

pub place_of-place-requires : goal.place_of-place-requires
place_of-place-requires c =
    let t = climbs-top _ _ c.requires c.loop-node.node (c.loop-node.invariant c.requires) in
    stands_somewhere _ _ t.here (not-root _ _ t c.loop-node-test.true)

pub subkey_behind-requires-clause-here : goal.subkey_behind-requires-clause-here
subkey_behind-requires-clause-here c =
    let t = c.requires in
    let i = c.loop-node.invariant t in
    (above-top _ _ t c.loop-node.node i c.loop-node-test.true c.parent_of-above.result (c.parent_of-above.ensures (climbs-top _ _ t c.loop-node.node i))
    c.place_of-place.result c.place_of-place.ensures).here

pub subkey_behind-requires-clause-depth : goal.subkey_behind-requires-clause-depth
subkey_behind-requires-clause-depth c =
    let t = c.requires in
    let i = c.loop-node.invariant t in
    low _ _
    (above-top _ _ t c.loop-node.node i c.loop-node-test.true c.parent_of-above.result (c.parent_of-above.ensures (climbs-top _ _ t c.loop-node.node i))
    c.place_of-place.result c.place_of-place.ensures)

pub subkey_behind-requires-clause-place : goal.subkey_behind-requires-clause-place
subkey_behind-requires-clause-place c =
    let t = c.requires in
    let i = c.loop-node.invariant t in
    place-above _ _ t c.loop-node.node i c.loop-node-test.true c.parent_of-above.result (c.parent_of-above.ensures (climbs-top _ _ t c.loop-node.node i))
    c.place_of-place.result c.place_of-place.ensures

pub returns-in-Some-subkey_behind : goal.returns-in-Some-subkey_behind
returns-in-Some-subkey_behind c = λ t.
    let i = c.loop-node.invariant t in
    let a = c.parent_of-above.ensures (climbs-top _ _ t c.loop-node.node i) in
    let above = above-top _ _ t c.loop-node.node i c.loop-node-test.true c.parent_of-above.result a c.place_of-place.result c.place_of-place.ensures in
    beside-next _ _ t c.loop-node.node i c.loop-node-test.true c.parent_of-above.result a c.place_of-place.result c.place_of-place.ensures c.in-Some-subkey_behind.beside
    (c.in-Some-subkey_behind.ensures above.here)

pub loop-node-smaller : goal.loop-node-smaller
loop-node-smaller c =
    let t = c.requires in
    let a = c.parent_of-above.ensures (climbs-top _ _ t c.loop-node.node (c.loop-node.invariant t)) in
    let d = a.depth in
    omega (arith, d)

pub loop-node-preserved : goal.loop-node-preserved
loop-node-preserved c = λ t.
    let i = c.loop-node.invariant t in
    let a = c.parent_of-above.ensures (climbs-top _ _ t c.loop-node.node i) in
    let above = above-top _ _ t c.loop-node.node i c.loop-node-test.true c.parent_of-above.result a c.place_of-place.result c.place_of-place.ensures in
    climbs-on _ _ t c.loop-node.node i c.loop-node-test.true c.parent_of-above.result a c.place_of-place.result c.place_of-place.ensures
    (c.in_default-subkey_behind.ensures above.here)

pub returns : goal.returns
returns c = λ t. none-next _ _ t c.loop-node.node (c.loop-node.invariant t) c.loop-node-test.false
