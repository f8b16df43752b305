use Rattle.std.proofs.Common.{◌≡◌, ◌-◌, ◌∷◌, ◌<◌, None, length, refl, ap, ◌∙◌, subst}
use Rattle.std.specs.FinMap.{get, insert}
use Rattle.std.specs.Cow.{cow_slice_items}
use Rattle.reg_names.specs.Names.{folded}
use Rattle.reg_heap.specs.declared.limits.TheConstants.{SUBKEYS_LIMIT}
use Rattle.reg_heap.specs.Paths.{Path, Tree, children_of}
use Rattle.reg_heap.specs.Edits.{child_path}
use Rattle.reg_arena.specs.Cells.{cell_at}
use Rattle.reg_tree_image.specs.Internal.BegunKeys.{told_as}
use Rattle.reg_tree_image.proofs.Readers.BegunSteps.{head-fails, head-stops, level-below, depth-below, no-parts, no-room, no-list, is-begun, begins-exit}
use Rattle.reg_tree_image.proofs.KeyStacks.ChildCounts.{HasParents}
use Rattle.reg_tree_image.proofs.KeyStacks.BuiltChains.{all-more, crowds-next}
use Rattle.reg_tree_image.proofs.KeyStacks.RoomierTrees.{still, there-yet, few-yet, read-yet, first-yet}
use Rattle.reg_tree_image.proofs.Readers.SharedDescriptors.{parts-described}
use Rattle.reg_tree_image.proofs.begin.begin_key.Goals as goal

pub returns-in_err-named-clause-begins : goal.returns-in_err-named-clause-begins
returns-in_err-named-clause-begins c levels path at seen t told built is deep =
    begins-exit c.args.building.ahead _ c.args.minor levels path (child_path at) c.args.offset seen _ _ _ _ c.from_residual.ensures.1
    (head-fails _ c.args.minor levels path (child_path at) c.args.offset seen _ _
    (head-stops (cell_at c.args.bins.now) levels path (child_path at) c.args.offset seen _ (c.in_err-named.ensures.follows path seen t)))

pub returns-in_err-reached-clause-begins : goal.returns-in_err-reached-clause-begins
returns-in_err-reached-clause-begins c levels path at seen t told built is deep =
    let s = still _ _ c.make_list_room.ensures in
    begins-exit c.args.building.ahead _ c.args.minor levels path (child_path at) c.args.offset seen _ _ _ _ c.from_residual-in_err-reached.ensures.1
    (head-fails _ c.args.minor levels path (child_path at) c.args.offset seen _ _
    (c.in_err-reached.ensures.heads (cell_at c.args.bins.now) levels path at c.args.offset seen _ (c.in_ok-named.ensures.follows path seen t) (s.tree ∙ told) (s.nodes at c.args.above.node is) deep))

pub returns-in_err-parts-clause-begins : goal.returns-in_err-parts-clause-begins
returns-in_err-parts-clause-begins c levels path at seen t told built is deep =
    let s = still _ _ c.make_list_room.ensures in
    let head = c.in_ok-reached.ensures.heads (cell_at c.args.bins.now) levels path at c.args.offset seen _ (c.in_ok-named.ensures.follows path seen t) (s.tree ∙ told) (s.nodes at c.args.above.node is) deep in
    begins-exit c.args.building.ahead _ c.args.minor levels path (child_path at) c.args.offset seen _ _ _ _ c.from_residual-in_err-parts.ensures.1
    (no-parts _ _ c.args.minor levels (levels - 1) (level-below levels _ deep c.in_ok-reached.ensures.shallow) path
    (child_path at) c.args.offset seen
    c.in_ok-named.named _ head _ (c.in_err-parts.ensures.follows path head.after head.table))

pub returns-in_err-node-clause-begins : goal.returns-in_err-node-clause-begins
returns-in_err-node-clause-begins c levels path at seen t told built is deep =
    let s = still _ _ c.make_list_room.ensures in
    let head = c.in_ok-reached.ensures.heads (cell_at c.args.bins.now) levels path at c.args.offset seen _ (c.in_ok-named.ensures.follows path seen t) (s.tree ∙ told) (s.nodes at c.args.above.node is) deep in
    let key = told_as c.in_ok-named.named c.in_ok-parts.parts in
    begins-exit c.args.building.ahead _ c.args.minor levels path (child_path at) c.args.offset seen _ _ _ _ c.from_residual-in_err-node.ensures.1
    (no-room _ _ c.args.minor levels (levels - 1) (level-below levels _ deep c.in_ok-reached.ensures.shallow) path
    (child_path at) c.args.offset seen
    c.in_ok-named.named _ head c.in_ok-parts.parts _ (c.in_ok-parts.ensures.follows path head.after head.table) c.args.table.now.states.items _ _
    (λ k. crowds-next seen.told _ (child_path at (cow_slice_items c.in_ok-named.named.name)) at key built refl (_, c.make_list_room.ensures, k))
    (c.in_err-node.ensures.err at (s.nodes at c.args.above.node is)))

pub returns-in_err-subkeys-clause-begins : goal.returns-in_err-subkeys-clause-begins
returns-in_err-subkeys-clause-begins c levels path at seen t told built is deep =
    let s = still _ _ c.make_list_room.ensures in
    let head = c.in_ok-reached.ensures.heads (cell_at c.args.bins.now) levels path at c.args.offset seen _ (c.in_ok-named.ensures.follows path seen t) (s.tree ∙ told) (s.nodes at c.args.above.node is) deep in
    begins-exit c.args.building.ahead _ c.args.minor levels path (child_path at) c.args.offset seen _ _ _ _ c.from_residual-in_err-subkeys.ensures.1
    (no-list _ _ c.args.minor levels (levels - 1) (level-below levels _ deep c.in_ok-reached.ensures.shallow) path
    (child_path at) c.args.offset seen
    c.in_ok-named.named _ head c.in_ok-parts.parts _ (c.in_ok-parts.ensures.follows path head.after head.table) c.subkeys_from.new.table.states.items _
    (c.in_err-subkeys.ensures.lists (c.args.offset ∷ path)))

pub returns-clause-begins : goal.returns-clause-begins
returns-clause-begins c levels path at seen t told built is deep =
    let s = still _ _ c.make_list_room.ensures in
    let head = c.in_ok-reached.ensures.heads (cell_at c.args.bins.now) levels path at c.args.offset seen _ (c.in_ok-named.ensures.follows path seen t) (s.tree ∙ told) (s.nodes at c.args.above.node is) deep in
    let name = cow_slice_items c.in_ok-named.named.name in
    let made = c.in_ok-node.ensures.ok at (s.nodes at c.args.above.node is) in
    let key = made.1 in
    is-begun _ _ c.args.minor levels (levels - 1) (level-below levels _ deep c.in_ok-reached.ensures.shallow) path
    (child_path at) c.args.offset seen
    c.in_ok-named.named _ head c.in_ok-parts.parts _ (c.in_ok-parts.ensures.follows path head.after head.table) _ c.in_ok-subkeys.subkeys
    c.in_ok-node.node (c.in_ok-subkeys.ensures.lists (c.args.offset ∷ path)) _ key
    (depth-below levels _ _ at (folded name) deep c.in_ok-reached.ensures.shallow is.depth key.depth)
    (subst (λ (tree : Tree). get tree (child_path at name) ≡ None) (s.tree ∙ told) (c.in_ok-reached.ensures.free at (s.nodes at c.args.above.node is)))
    (made.0 ∙ ap (λ (tree : Tree). insert tree (child_path at name) (told_as c.in_ok-named.named c.in_ok-parts.parts)) (s.tree ∙ told))
    (all-more seen.told _ _ (child_path at name) at (told_as c.in_ok-named.named c.in_ok-parts.parts) built refl
    (_, c.make_list_room.ensures, c.in_ok-node.ensures.builds at (s.nodes at c.args.above.node is)))
    (subst (λ (tree : Tree). HasParents tree) (s.tree ∙ told) c.root.ensures.tree.parents)

pub build_sharing-requires-clause-firsts : goal.build_sharing-requires-clause-firsts
build_sharing-requires-clause-firsts c =
    let s = still _ _ c.make_list_room.ensures in
    let r = read-yet _ _ s _ _ _ c.requires.read in
    let head = c.in_ok-reached.ensures.heads (cell_at c.args.bins.now) r.levels r.path r.at c.args.offset r.seen _ (c.in_ok-named.ensures.follows r.path r.seen r.table) r.told r.there r.deep in
    let done = c.in_ok-parts.ensures.follows r.path head.after head.table in (
      cell_at c.args.bins.now,
      first-yet _ _ s _ c.args.firsts.now c.requires.firsts,
      parts-described (cell_at c.args.bins.now) c.args.minor (c.args.offset ∷ r.path) c.in_ok-named.named.node.fields head.after done.after _
          done.gives,
    )

pub returns-clause-firsts : goal.returns-clause-firsts
returns-clause-firsts c =
    let s = still _ _ c.make_list_room.ensures in
    let r = read-yet _ _ s _ _ _ c.requires.read in
    let head = c.in_ok-reached.ensures.heads (cell_at c.args.bins.now) r.levels r.path r.at c.args.offset r.seen _ (c.in_ok-named.ensures.follows r.path r.seen r.table) r.told r.there r.deep in
    let done = c.in_ok-parts.ensures.follows r.path head.after head.table in
    c.in_ok-node.ensures.firsts (cell_at c.args.bins.now) (first-yet _ _ s _ c.args.firsts.now c.requires.firsts)
    (parts-described (cell_at c.args.bins.now) c.args.minor (c.args.offset ∷ r.path) c.in_ok-named.named.node.fields head.after done.after _
    done.gives)

pub build_sharing-requires-clause-few : goal.build_sharing-requires-clause-few
build_sharing-requires-clause-few c p is =
    let few = few-yet _ _ (still _ _ c.make_list_room.ensures) _ c.requires.few in
    subst (λ (q : Path). length (children_of c.make_list_room.new.tree.tree q) < SUBKEYS_LIMIT)
    (c.root.ensures.one_path few.0 p c.args.above.node few.1 is) few.2

pub build_sharing-requires-clause-above : goal.build_sharing-requires-clause-above
build_sharing-requires-clause-above c = there-yet _ _ (still _ _ c.make_list_room.ensures) _ c.requires.above

pub returns-clause-nodes : goal.returns-clause-nodes
returns-clause-nodes c path node at =
    c.in_ok-node.ensures.nodes path node ((still _ _ c.make_list_room.ensures).nodes path node at)

pub reach_below-requires-clause-above : goal.reach_below-requires-clause-above
reach_below-requires-clause-above c = there-yet _ _ (still _ _ c.make_list_room.ensures) _ c.requires.above
