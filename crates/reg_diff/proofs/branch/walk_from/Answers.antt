use Rattle.std.proofs.Common.{refl}
use Rattle.reg_diff.proofs.BranchNames.{path_found, way_start, never_missing, way_next, way_end}
use Rattle.reg_diff.proofs.ToldPaths.{one_name}
use Rattle.reg_diff.proofs.branch.walk_from.Goals as goal

pub loop-name-init : goal.loop-name-init
loop-name-init c =
    let f = path_found c.args.tree.now.tree c.args.path.now c.requires.0 c.requires.1 in
    way_start _ c.args.path.now _ _ f.0 c.root.ensures.tree c.root.ensures.at c.new-walk.ensures.node c.new-walk.ensures.path c.new-walk.ensures.pending

pub first_name-requires : goal.first_name-requires
first_name-requires c = c.loop-name.invariant.valid

pub resolve-requires : goal.resolve-requires
resolve-requires c =
    let w = c.loop-name.invariant in
    record { from = (w.front, w.at); path = (one_name c.in-Some.name.now c.in-Some.ensures.good).valid }

pub unreachable-requires : goal.unreachable-requires
unreachable-requires c =
    let f = path_found c.args.tree.now.tree c.args.path.now c.requires.0 c.requires.1 in
    let w = c.loop-name.invariant in
    never_missing _ c.args.path.now _ _ w c.root.ensures.tree c.root.ensures.limits f.2 _ _ c.in-Some.ensures (c.in_default-resolve.ensures.found w.front w.at)

pub loop-name-preserved : goal.loop-name-preserved
loop-name-preserved c =
    let f = path_found c.args.tree.now.tree c.args.path.now c.requires.0 c.requires.1 in
    let w = c.loop-name.invariant in
    way_next _ c.args.path.now _ _ w c.root.ensures.tree c.root.ensures.limits f.2 _ _ c.in-Some.ensures _ _ _
    (c.in-Some-resolve.ensures.found w.front w.at) c.name.ensures.told refl c.in_ok-push_name.ensures refl

pub returns : goal.returns
returns c =
    λ p key.
    (let f = path_found c.args.tree.now.tree c.args.path.now p key in
    way_end _ c.args.path.now _ _ p c.loop-name.invariant c.in_default.ensures f.1)
