use Rattle.std.proofs.Common.{sym, ◌∙◌}
use Rattle.reg_tree.proofs.PruneTree.MarkedKeys.{searches, search-top, tells-marked, tells-none, searches-on, fewer_left}
use Rattle.reg_tree.proofs.prune.is_kept_from.Goals as goal

pub loop-node-init : goal.loop-node-init
loop-node-init c = λ t. searches _ _ t

pub is_marked-requires : goal.is_marked-requires
is_marked-requires c = (search-top _ _ c.requires c.loop-node.node (c.loop-node.invariant c.requires)).here

pub returns-then-is_marked : goal.returns-then-is_marked
returns-then-is_marked c = λ t.
    let s = c.loop-node.invariant t in
    tells-marked _ _ t c.loop-node.node s (sym (c.is_marked.ensures (search-top _ _ t c.loop-node.node s).here) ∙ c.if-is_marked.true)

pub next_key-requires : goal.next_key-requires
next_key-requires c = search-top _ _ c.requires c.loop-node.node (c.loop-node.invariant c.requires)

pub returns-in_default : goal.returns-in_default
returns-in_default c = λ t.
    let s = c.loop-node.invariant t in
    let u = search-top _ _ t c.loop-node.node s in
    tells-none _ _ t c.loop-node.node s (sym (c.is_marked.ensures u.here) ∙ c.if-is_marked.false) (c.in_default.ensures u)

pub loop-node-smaller : goal.loop-node-smaller
loop-node-smaller c =
    let t = c.requires in
    let s = c.loop-node.invariant t in
    let u = search-top _ _ t c.loop-node.node s in
    fewer_left _ _ t c.loop-node.node s (sym (c.is_marked.ensures u.here) ∙ c.if-is_marked.false) c.in-Some.next (c.in-Some.ensures u)

pub loop-node-preserved : goal.loop-node-preserved
loop-node-preserved c = λ t.
    let s = c.loop-node.invariant t in
    let u = search-top _ _ t c.loop-node.node s in
    searches-on _ _ t c.loop-node.node s (sym (c.is_marked.ensures u.here) ∙ c.if-is_marked.false) c.in-Some.next (c.in-Some.ensures u)
