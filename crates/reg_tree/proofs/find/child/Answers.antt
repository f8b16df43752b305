use Rattle.reg_arena.specs.Arena.{heap_of}
use Rattle.reg_index.specs.Subkeys.{flat}
use Rattle.reg_tree.proofs.Invariant.KeyOfTree.{key_there}
use Rattle.reg_tree.proofs.PathWalk.SubkeysFound.{some_subkeys, child_found, child_missing}
use Rattle.reg_tree.proofs.PathWalk.PlacesFound.{stands_at, belongs_at}
use Rattle.reg_tree.proofs.find.child.Goals as goal

pub subkeys_list-list-requires : goal.subkeys_list-list-requires
subkeys_list-list-requires c = key_there _ _ c.requires

pub find-requires : goal.find-requires
find-requires c = some_subkeys _ _ c.requires _ _ c.subkeys_list-list.ensures

pub at_place-requires-clause-subkeys : goal.at_place-requires-clause-subkeys
at_place-requires-clause-subkeys c = some_subkeys _ _ c.requires _ _ c.subkeys_list-list.ensures

pub returns-in-Ok : goal.returns-in-Ok
returns-in-Ok c = (
  child_found _ _ c.requires _ _ c.subkeys_list-list.ensures c.args.name.now
      (flat (heap_of c.args.arena.now) c.subkeys_list-list.result.count c.subkeys_list-list.result.offset c.in-Ok.place) c.at_place.result
      c.in-Ok.ensures.index c.at_place.ensures,
  stands_at _ _ c.requires _ _ c.subkeys_list-list.ensures c.args.name.now c.in-Ok.place c.at_place.result c.in-Ok.ensures.index
      c.in-Ok.ensures.place c.at_place.ensures,
)

pub returns-in-Err : goal.returns-in-Err
returns-in-Err c = (
  child_missing _ _ c.requires _ _ c.subkeys_list-list.ensures c.args.name.now
      (flat (heap_of c.args.arena.now) c.subkeys_list-list.result.count c.subkeys_list-list.result.offset c.in-Err.place) c.in-Err.ensures.index,
  belongs_at _ _ _ _ c.subkeys_list-list.ensures c.args.name.now c.in-Err.place c.in-Err.ensures.index c.in-Err.ensures.place,
)
