use Rattle.std.proofs.Common.{subst, sym}
use Rattle.std.specs.Prelude.{IsSome}
use Rattle.reg_arena.specs.Arena.{heap_of}
use Rattle.reg_tree.proofs.DeleteKey.SubkeyUnlinked.{listed-subkeys, stands-list, flat-list, parent-there, parent-stays, unlinked}
use Rattle.reg_tree.proofs.unmake.unlink.Goals as goal

pub subkeys_list-list-requires : goal.subkeys_list-list-requires
subkeys_list-list-requires c = parent-there _ _ _ _ _ _ c.requires.3

pub remove-after-requires-clause-subkeys : goal.remove-after-requires-clause-subkeys
remove-after-requires-clause-subkeys c = (c.requires.2, listed-subkeys _ _ _ _ _ _ c.requires.3 _ _ c.subkeys_list-list.ensures)

pub remove-after-requires-clause-place : goal.remove-after-requires-clause-place
remove-after-requires-clause-place c = stands-list _ _ _ _ _ _ c.requires.3 _ _ c.subkeys_list-list.ensures _ c.requires.4

pub note_subkeys-requires-clause-exists : goal.note_subkeys-requires-clause-exists
note_subkeys-requires-clause-exists c =
    subst IsSome (sym (parent-stays _ _ _ _ _ _ c.requires.3 _ _ c.subkeys_list-list.ensures (heap_of c.remove-after.new.arena) _ c.remove-after.ensures.moves))
    (parent-there _ _ _ _ _ _ c.requires.3)

pub returns-clause-unlinks : goal.returns-clause-unlinks
returns-clause-unlinks c = λ key above entries l.
    unlinked _ _ _ above entries _ l _ _ c.subkeys_list-list.ensures _ _ _ (heap_of c.remove-after.new.arena)
    (heap_of c.note_subkeys.new.arena) c.args.moment (flat-list _ _ _ above entries _ l _ _ c.subkeys_list-list.ensures c.args.place)
    c.remove-after.ensures.subkeys c.remove-after.ensures.moves c.note_subkeys.ensures.notes
