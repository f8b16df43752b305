-- What is saved of a hive (this project's own).
use Rattle.std.specs.Prelude.{◌≡◌, ◌⊎◌, ◌&&◌, not, ℕ, Bool, true, false, List, Option, Some, None}
use Rattle.reg_callbacks.specs.declared.callback.NoCallback.{NoCallback}
use Rattle.reg_calls.specs.HiveView.{view_of}
use Rattle.reg_calls.specs.declared.hive.Hive.{Hive}
use Rattle.reg_edits.specs.declared.edits.Edited.{Edited}
use Rattle.reg_edits.specs.declared.copying.CopiedTree.{CopiedTree}
use Rattle.reg_tree.specs.TreeKeys.{Keys}
use Rattle.reg_tree_image.specs.FreeBytes.{are_sparse}
use Rattle.reg_tree_image.specs.Images.{image_of}
use Rattle.reg_tree_image.specs.declared.LoadFault.TheVariants.{Limit, Memory}
use Rattle.reg_words.specs.declared.request.EditRequest.{EditRequest}
use Rattle.reg_files.specs.declared.fault.Step.{Step}
use Rattle.reg_files.specs.declared.fault.Step.TheVariants.{Clock, Find, Open, Lock, Read, Create, Permit, Write, Sync, Rename, SyncFolder}
use Rattle.reg_files.specs.declared.fault.Fault.{Fault}
use Rattle.reg_files.specs.declared.fault.Fault.TheVariants.{Rebuild}
use Rattle.reg_files.specs.declared.saved.Saved.{Saved}
use Rattle.reg_files.specs.declared.saved.SavedTree.{SavedTree}
use Rattle.reg_files.specs.declared.saved.SavedTree.TheVariants.{Own, Anew}

-- whether an edited hive is saved: a call may have changed a key, and the words ask for no dry run
abbrev pub is_saved : EditRequest → Edited → Bool
is_saved edit edited = edited.is_changed && not edit.dry_run

-- the keys that are saved, with their bins
abbrev pub saved_keys : SavedTree → Keys
saved_keys (Own tree) = tree.now
saved_keys (Anew tree) = tree

-- the tree to save of a hive's keys: where more than half of the bytes of the bins are free, one of the same keys that was built anew; else
-- the hive's own, whose bins are saved as they stand
abbrev pub IsTreeToSave : Keys → SavedTree → Type 0
IsTreeToSave own (Own tree) = (are_sparse own.bins.bytes ≡ false) × (tree.now ≡ own)
IsTreeToSave own (Anew tree) = (are_sparse own.bins.bytes ≡ true) × (tree.tree ≡ own.tree)

-- what is to be saved of an edited hive: nothing, or just the keys that the edit left, with its moment and its sequence number
abbrev pub IsToSave : EditRequest → Edited → Option Saved → Type 0
IsToSave edit edited None = is_saved edit edited ≡ false
IsToSave edit edited (Some saved) =
    (is_saved edit edited ≡ true) × IsTreeToSave (view_of edited.seated.hive).keys saved.tree × (saved.moment ≡ edited.moment)
    × (saved.sequence ≡ edited.sequence)

-- what is to be saved of a tree with a copy: nothing of a dry run, or just its keys, with the copy's moment and its sequence number
abbrev pub IsCopyToSave : EditRequest → CopiedTree → Option Saved → Type 0
IsCopyToSave edit copied None = edit.dry_run ≡ true
IsCopyToSave edit copied (Some saved) =
    (edit.dry_run ≡ false) × IsTreeToSave copied.tree saved.tree × (saved.moment ≡ copied.moment) × (saved.sequence ≡ copied.sequence)

-- of a fresh hive: its bins as they stand, at moment 0, with sequence number 1
abbrev pub IsToMake : Hive NoCallback → Saved → Type 0
IsToMake hive saved = (saved_keys saved.tree ≡ (view_of hive).keys) × (saved.moment ≡ 0) × (saved.sequence ≡ 1)

-- the image that is written
abbrev pub image_to_save : Saved → List ℕ
image_to_save saved = let keys = saved_keys saved.tree in image_of keys.bins.bytes keys.root saved.moment saved.sequence

-- a hive can't be built anew: memory runs out, or the new bins have no room
abbrev pub IsNotRebuilt : Fault → Type 0
IsNotRebuilt (Rebuild why) = (why ≡ Memory) ⊎ (why ≡ Limit)
IsNotRebuilt other = ⊥

-- whether a step is one of saving, on the file that is written
abbrev pub is_of_saving : Step → Bool
is_of_saving Clock = false
is_of_saving Find = false
is_of_saving Open = false
is_of_saving Lock = false
is_of_saving Read = false
is_of_saving Create = true
is_of_saving Permit = true
is_of_saving Write = true
is_of_saving Sync = true
is_of_saving Rename = true
is_of_saving SyncFolder = true
