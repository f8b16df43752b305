use Rattle.reg_dotreg_writer.proofs.NamesOnWay.{way_start, way_on, way_ends, one_name, next_there, next_at}
use Rattle.reg_dotreg_writer.proofs.start.names_text.Goals as goal

pub loop-name-init : goal.loop-name-init
loop-name-init c =
    way_start c.args.tree.now c.args.root.now c.args.path.now c.root-node.result c.new-text.result.items _ c.root-node.ensures.at c.requires.path
    c.new-text.ensures.items c.in_ok-extend_from_slice.ensures.items

pub resolve-requires-clause-path : goal.resolve-requires-clause-path
resolve-requires-clause-path c = one_name c.in-Some.name.now c.in-Some.ensures.good

pub unreachable-requires : goal.unreachable-requires
unreachable-requires c =
    let w = c.loop-name.invariant in
    next_there c.args.tree.now c.args.root.now c.args.path.now c.loop-name.node c.loop-name.text.items c.loop-name.rest.now c.in-Some.name.now c.in-Some.behind.now
    w c.in-Some.ensures c.root-node.ensures.tree c.requires.there c.resolve.result (c.resolve.ensures.found w.over w.at) c.in_default-resolve.is

pub loop-name-preserved : goal.loop-name-preserved
loop-name-preserved c =
    let w = c.loop-name.invariant in
    let at = next_at c.args.tree.now c.args.root.now c.args.path.now c.loop-name.node c.loop-name.text.items c.loop-name.rest.now c.in-Some.name.now
    c.in-Some.behind.now w c.in-Some.ensures c.resolve.result c.in-Some-resolve.below (c.resolve.ensures.found w.over w.at) c.in-Some-resolve.is in
    way_on c.args.tree.now c.args.root.now c.args.path.now c.loop-name.node c.loop-name.text.items c.loop-name.rest.now c.in-Some.name.now c.in-Some.behind.now w
    c.in-Some.ensures c.in-Some-resolve.below c.name.result.now _ at (c.name.ensures.key _ at)
    (λ r e. c.name.ensures.told _ at r e) c.in_ok-push_below.ensures

pub returns : goal.returns
returns c =
    way_ends c.args.tree.now c.args.root.now c.args.path.now c.loop-name.node c.loop-name.text.items c.loop-name.rest.now c.loop-name.invariant c.in_default.ensures
