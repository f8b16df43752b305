use Rattle.std.proofs.Common.{◌≡◌, ℕ, List, IfSome, ◌<◌, ◌∙◌, None, Err, length, refl, ap, sym, subst}
use Rattle.std.specs.Cow.{cow_slice_items}
use Rattle.std.specs.FinMap.{get, insert}
use Rattle.reg_names.specs.declared.TheConstants.{PATH_LIMIT}
use Rattle.reg_heap.specs.declared.limits.TheConstants.{SUBKEYS_LIMIT}
use Rattle.reg_heap.specs.Paths.{Path, Rec, Tree, children_of}
use Rattle.reg_heap.specs.Edits.{child_path, descriptor_of}
use Rattle.reg_tree.specs.Reaching.{IsWalkedTo}
use Rattle.reg_tree.specs.TreeKeys.{IsAt}
use Rattle.reg_tree.specs.BuiltKeys.{AreWhole, built_key}
use Rattle.reg_tree_image.specs.Internal.BegunKeys.{IsLack, told_as}
use Rattle.reg_tree_image.specs.Internal.NamedRecords.{members_in}
use Rattle.reg_tree_image.specs.CrowdedBins.{CrowdsInRoom}
use Rattle.reg_tree_image.proofs.KeyStacks.StackEnds.{if_err}
use Rattle.reg_tree_image.proofs.KeyStacks.BuiltChains.{as-lack, lack-as, told-below, builds-one, crowds-below, crowds-key}
use Rattle.reg_tree_image.proofs.KeyStacks.RoomierTrees.{same-keys, at-still, at-before, there-still, walked-still, of-tree, like-still}
use Rattle.reg_tree_image.proofs.built_keys.build_below.Goals as goal

pub build_key-requires-clause-parent : goal.build_key-requires-clause-parent
build_key-requires-clause-parent c = there-still _ _ _ c.make_key_room.ensures c.args.above c.requires.above

pub build_key-requires-clause-like : goal.build_key-requires-clause-like
build_key-requires-clause-like c =
    subst (λ (d : List ℕ). IfSome c.args.like (λ node. (q : Path) × IsAt c.make_key_room.new.tree q node × (descriptor_of (get c.make_key_room.new.tree.tree q) ≡ d)))
    (sym (ap (λ (r : Rec). r.descriptor) c.new_key.ensures.built)) (like-still _ _ _ c.make_key_room.ensures _ c.args.like c.requires.like)

pub build_key-requires-clause-reached : goal.build_key-requires-clause-reached
build_key-requires-clause-reached c =
    subst (λ name. IsWalkedTo c.make_key_room.new.tree c.args.above name c.args.reached) (sym (ap (λ (r : Rec). r.name) c.new_key.ensures.built))
    (walked-still _ _ _ c.make_key_room.ensures _ _ _ c.requires.reached)

pub build_key-requires-clause-room : goal.build_key-requires-clause-room
build_key-requires-clause-room c p is =
    let name = ap (λ (r : Rec). r.name) c.new_key.ensures.built in
    let was = at-before _ _ _ c.make_key_room.ensures p c.args.above is in
    record {
      free = subst (λ name. get c.make_key_room.new.tree.tree (child_path p name) ≡ None) (sym name)
          (of-tree _ _ _ c.make_key_room.ensures (λ (tree : Tree). get tree (child_path p (cow_slice_items c.args.named.now.name)) ≡ None) (c.requires.free p was));
      deep = subst (λ n. n < PATH_LIMIT) is.depth c.requires.shallow;
      few = of-tree _ _ _ c.make_key_room.ensures (λ (tree : Tree). length (children_of tree p) < SUBKEYS_LIMIT) (c.requires.few p was);
    }

pub put_values-requires-clause-bare : goal.put_values-requires-clause-bare
put_values-requires-clause-bare c =
    let above = c.requires.above in
    let built = c.in-Ok.ensures.ok above.0 (at-still _ _ _ c.make_key_room.ensures above.0 c.args.above above.1) in
    record {
      path = child_path above.0 c.new_key.result.name.now;
      base = c.make_key_room.new.tree.tree;
      key = built_key c.new_key.result;
      at = built.1;
      put = built.0;
      bare = refl;
      timed = ap (λ (r : Rec). r.time) c.new_key.ensures.built;
    }

pub returns-in_err-put_values-in-Ok-clause-err : goal.returns-in_err-put_values-in-Ok-clause-err
returns-in_err-put_values-in-Ok-clause-err c p was =
    let is = at-still _ _ _ c.make_key_room.ensures p c.args.above was in
    let whole : AreWhole _ = record { sound = c.arena.ensures.sound; whole = c.arena.ensures.whole } in
    let key = told_as c.args.named.now c.args.parts.now in
    if_err (IsLack (CrowdsInRoom c.args.building.ahead c.args.tree.now p key)) c.from_residual.result _ c.from_residual.ensures.1
    (lack-as _ _ _
    (crowds-below (built_key c.new_key.result) key (members_in c.as_slice-values.result.now) c.new_key.ensures.built
    (ap members_in c.as_slice-values.ensures.value) _ _ _ p c.make_key_room.ensures (c.in-Ok.ensures.builds p is) whole)
    (c.in_err-put_values-in-Ok.ensures.err (child_path p c.new_key.result.name.now) (c.in-Ok.ensures.ok p is).1))

pub returns-in_ok-put_values-in-Ok-clause-ok : goal.returns-in_ok-put_values-in-Ok-clause-ok
returns-in_ok-put_values-in-Ok-clause-ok c p was =
    let is = at-still _ _ _ c.make_key_room.ensures p c.args.above was in
    let built = c.in-Ok.ensures.ok p is in
    let path = child_path p c.new_key.result.name.now in
    let key = told_as c.args.named.now c.args.parts.now in
    let told = told-below (built_key c.new_key.result) key (members_in c.as_slice-values.result.now) c.new_key.ensures.built
    (ap members_in c.as_slice-values.ensures.value) _ _ p _
    (c.in_ok-put_values-in-Ok.ensures.ok path built.1 c.make_key_room.new.tree.tree (built_key c.new_key.result) built.0 refl
    (ap (λ (r : Rec). r.time) c.new_key.ensures.built))
    (c.in_ok-put_values-in-Ok.ensures.nodes path _ built.1) in
    (told.0 ∙ ap (λ (tree : Tree). insert tree (child_path p key.name) key) (same-keys _ _ c.make_key_room.ensures).tree, told.1)

pub returns-in_ok-put_values-in-Ok-clause-builds : goal.returns-in_ok-put_values-in-Ok-clause-builds
returns-in_ok-put_values-in-Ok-clause-builds c p was =
    let is = at-still _ _ _ c.make_key_room.ensures p c.args.above was in
    let whole : AreWhole _ = record { sound = c.arena.ensures.sound; whole = c.arena.ensures.whole } in
    let key = told_as c.args.named.now c.args.parts.now in
    builds-one (built_key c.new_key.result) key (members_in c.as_slice-values.result.now) c.new_key.ensures.built
    (ap members_in c.as_slice-values.ensures.value) _ _ _ _ p c.make_key_room.ensures (c.in-Ok.ensures.builds p is) whole
    (c.in_ok-put_values-in-Ok.ensures.puts (child_path p c.new_key.result.name.now) (c.in-Ok.ensures.ok p is).1)

pub returns-in-Err-clause-err : goal.returns-in-Err-clause-err
returns-in-Err-clause-err c p was =
    let is = at-still _ _ _ c.make_key_room.ensures p c.args.above was in
    let key = told_as c.args.named.now c.args.parts.now in
    as-lack (CrowdsInRoom c.args.building.ahead c.args.tree.now p key) c.in-Err.fault c.lack.result c.lack.ensures
    (λ full. crowds-key (built_key c.new_key.result) key (members_in c.args.parts.now.values.items) c.new_key.ensures.built refl _ _ p
    c.make_key_room.ensures (c.in-Err.ensures.space p is (ap Err full)))

pub returns-in_ok-put_values-in-Ok-clause-nodes : goal.returns-in_ok-put_values-in-Ok-clause-nodes
returns-in_ok-put_values-in-Ok-clause-nodes c = λ path node at.
    c.in_ok-put_values-in-Ok.ensures.nodes path node (c.in-Ok.ensures.nodes path node (at-still _ _ _ c.make_key_room.ensures path node at))
