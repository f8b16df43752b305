use Rattle.reg_tree.proofs.Invariant.CellReadings.{is_some_of}
use Rattle.reg_tree.proofs.DeleteKey.SubkeyUnlinked.{found-stands, not-missing, listed-subkeys, parent-there, listed_by}
use Rattle.reg_tree.proofs.unmake.place_of.Goals as goal

pub fields-requires : goal.fields-requires
fields-requires c = is_some_of _ _ c.requires.1.reads

pub subkeys_list-list-requires : goal.subkeys_list-list-requires
subkeys_list-list-requires c = parent-there _ _ _ _ _ _ (listed_by _ _ _ c.requires.1 _ c.fields.ensures)

pub find-requires : goal.find-requires
find-requires c = (c.requires.1.entries, listed-subkeys _ _ _ _ _ _ (listed_by _ _ _ c.requires.1 _ c.fields.ensures) _ _ c.subkeys_list-list.ensures)

pub name_of-requires : goal.name_of-requires
name_of-requires c = is_some_of _ _ c.requires.1.reads

pub unreachable-requires : goal.unreachable-requires
unreachable-requires c =
    let l = listed_by _ _ _ c.requires.1 _ c.fields.ensures in
    not-missing _ _ _ _ _ _ l c.name_of.result.now c.name_of.ensures _
    (c.in_default.ensures.index c.requires.1.entries (listed-subkeys _ _ _ _ _ _ l _ _ c.subkeys_list-list.ensures))

pub returns : goal.returns
returns c =
    let l = listed_by _ _ _ c.requires.1 _ c.fields.ensures in
    found-stands _ _ _ c.requires.1 _ c.fields.ensures _ _ c.subkeys_list-list.ensures c.in-Ok.place c.in-Ok.ensures.place c.name_of.result.now
    c.name_of.ensures (c.in-Ok.ensures.index c.requires.1.entries (listed-subkeys _ _ _ _ _ _ l _ _ c.subkeys_list-list.ensures))
