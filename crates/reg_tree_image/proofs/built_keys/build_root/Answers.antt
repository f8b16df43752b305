use Rattle.std.proofs.Common.{[], refl, ap, ◌∙◌}
use Rattle.std.specs.FinMap.{empty}
use Rattle.reg_heap.specs.Paths.{Rec}
use Rattle.reg_tree.specs.BuiltKeys.{AreWhole, built_key}
use Rattle.reg_tree_image.specs.Internal.BegunKeys.{IsLack, told_as}
use Rattle.reg_tree_image.specs.Internal.NamedRecords.{members_in}
use Rattle.reg_tree_image.specs.CrowdedBins.{CrowdsRoot}
use Rattle.reg_tree_image.proofs.KeyStacks.StackEnds.{if_err}
use Rattle.reg_tree_image.proofs.KeyStacks.BuiltChains.{lack-as, builds-first, crowds-root}
use Rattle.reg_tree_image.proofs.KeyStacks.RoomierTrees.{same-keys}
use Rattle.reg_tree_image.proofs.built_keys.build_root.Goals as goal

pub put_values-requires-clause-bare : goal.put_values-requires-clause-bare
put_values-requires-clause-bare c = record {
  path = [];
  base = empty;
  key = built_key c.new_key.result;
  at = c.root-root.ensures.at;
  put = (same-keys _ _ c.make_root_room.ensures).tree ∙ c.in-Ok.ensures.ok;
  bare = refl;
  timed = ap (λ (r : Rec). r.time) c.new_key.ensures.built;
}

pub returns-in_err-put_values-clause-err : goal.returns-in_err-put_values-clause-err
returns-in_err-put_values-clause-err c =
    let whole : AreWhole _ = record { sound = c.arena.ensures.sound; whole = c.arena.ensures.whole } in
    let key = told_as c.args.named.now c.args.parts.now in
    if_err (IsLack (CrowdsRoot c.args.building.ahead key)) c.from_residual.result _ c.from_residual.ensures.1
    (lack-as _ _ _
    (crowds-root (built_key c.new_key.result) key (members_in c.as_slice-values.result.now) c.new_key.ensures.built
    (ap members_in c.as_slice-values.ensures.value) _ _ c.in-Ok.ensures.builds whole c.make_root_room.ensures)
    (c.in_err-put_values.ensures.err [] c.root-root.ensures.at))

pub returns-clause-builds : goal.returns-clause-builds
returns-clause-builds c =
    let whole : AreWhole _ = record { sound = c.arena.ensures.sound; whole = c.arena.ensures.whole } in
    let key = told_as c.args.named.now c.args.parts.now in
    builds-first (built_key c.new_key.result) key (members_in c.as_slice-values.result.now) c.new_key.ensures.built
    (ap members_in c.as_slice-values.ensures.value) _ _ _ c.in-Ok.ensures.builds whole c.make_root_room.ensures
    (c.in_ok-put_values.ensures.puts [] c.root-root.ensures.at)
