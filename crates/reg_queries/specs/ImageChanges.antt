-- What is written of the changes from one image to another as a .reg text (this project's own), and which calls of the readers and of the
-- writer failed, where that is known.
use Rattle.std.specs.Prelude.{◌≡◌, ℕ, Bool, List, Option}
use Rattle.reg_heap.specs.Paths.{Tree}
use Rattle.reg_heap.specs.Trees.{IsTree, IsWithinLimits}
use Rattle.reg_text.specs.Failures.{Stays}
use Rattle.reg_tree.specs.ValueBytes.{IsOfBytes}
use Rattle.reg_tree_image.specs.Loads.{ReadsImage, MeetsFault, IsBlamed}
use Rattle.reg_dotreg_writer.specs.Exports.{ExportBlames}
use Rattle.reg_dotreg_writer.specs.ChangeExports.{AreExported, ChangesStop as TreesStop}
use Rattle.reg_queries.specs.Blames.{NoneFailed}
use Rattle.reg_queries.specs.declared.fault.ChangesEnd.{ChangesEnd}
use Rattle.reg_queries.specs.declared.fault.ChangesEnd.TheVariants.{Old, New, Export}

-- an image was read; what changes from an old tree to its tree was written, and it was answered whether nothing does. That is a tree within
-- the limits, the types of its values have 32 bits, and their data are bytes
pub record ExportsChangesFrom (old : Tree) (unread left : Option (List ℕ)) (is_utf8 is_none : Bool) (before after : Option (List ℕ)) : Type 0 where
  pub tree : Tree
  pub reads : ReadsImage unread left tree
  pub is_tree : IsTree tree
  pub limits : IsWithinLimits tree
  pub of_bytes : IsOfBytes tree
  pub written : AreExported old tree is_utf8 is_none before after

-- two images were read, an old one and a new one, and what changes from the tree of the one to that of the other was written
pub record ExportsChanges (unread_old left_old unread_new left_new : Option (List ℕ)) (is_utf8 is_none : Bool) (before after : Option (List ℕ)) : Type 0 where
  pub old : Tree
  pub reads : ReadsImage unread_old left_old old
  pub is_tree : IsTree old
  pub limits : IsWithinLimits old
  pub new : ExportsChangesFrom old unread_new left_new is_utf8 is_none before after

-- why it wasn't, or not to the end: the new image doesn't load, and nothing was written; or what ended the writing
abbrev pub ChangesFromStop : ChangesEnd → Tree → (unread left : Option (List ℕ)) → (is_utf8 : Bool) → (before after : Option (List ℕ)) → Type 0
ChangesFromStop (Old fault) old unread left is_utf8 before after = ⊥
ChangesFromStop (New fault) old unread left is_utf8 before after = MeetsFault fault unread left × (after ≡ before)
ChangesFromStop (Export fault) old unread left is_utf8 before after =
    (tree : Tree) × ReadsImage unread left tree × TreesStop fault old tree is_utf8 before after

-- so of two images: the old one doesn't load, and nothing of the new one was read, and nothing written; or it does, and the new one stops
-- it
abbrev pub ChangesStop : ChangesEnd → (unread_old left_old unread_new left_new : Option (List ℕ)) → (is_utf8 : Bool) → (before after : Option (List ℕ)) → Type 0
ChangesStop (Old fault) unread_old left_old unread_new left_new is_utf8 before after =
    MeetsFault fault unread_old left_old × (left_new ≡ unread_new) × (after ≡ before)
ChangesStop fault unread_old left_old unread_new left_new is_utf8 before after =
    (old : Tree) × ReadsImage unread_old left_old old × ChangesFromStop fault old unread_new left_new is_utf8 before after

-- the new image's reader failed where its load tells that, once, and else not; the writer where the writing tells a write
abbrev pub ChangesFromBlame : ChangesEnd → (read now_read written now_written : Option ℕ) → Type 0
ChangesFromBlame (Old fault) read now_read written now_written = ⊥
ChangesFromBlame (New fault) read now_read written now_written = IsBlamed fault read now_read × Stays written now_written
ChangesFromBlame (Export fault) read now_read written now_written = Stays read now_read × ExportBlames fault written now_written

-- the old one's reader failed where its load tells that, and then nothing else did; else the new one is as above
abbrev pub ChangesBlame : ChangesEnd → (old now_old new now_new written now_written : Option ℕ) → Type 0
ChangesBlame (Old fault) old now_old new now_new written now_written = IsBlamed fault old now_old × NoneFailed new now_new written now_written
ChangesBlame (New fault) old now_old new now_new written now_written = Stays old now_old × IsBlamed fault new now_new × Stays written now_written
ChangesBlame (Export fault) old now_old new now_new written now_written =
    Stays old now_old × Stays new now_new × ExportBlames fault written now_written
