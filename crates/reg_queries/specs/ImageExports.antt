-- What is written of an image as a .reg text (this project's own).
use Rattle.std.specs.Prelude.{◌≡◌, ℕ, Bool, List, Option}
use Rattle.reg_heap.specs.Paths.{Tree}
use Rattle.reg_heap.specs.Trees.{IsTree, IsWithinLimits}
use Rattle.reg_tree.specs.ValueBytes.{IsOfBytes}
use Rattle.reg_tree_image.specs.Loads.{ReadsImage, MeetsFault}
use Rattle.reg_dotreg_writer.specs.Exports.{IsExported, ExportStops}
use Rattle.reg_queries.specs.declared.fault.ExportEnd.{ExportEnd}
use Rattle.reg_queries.specs.declared.fault.ExportEnd.TheVariants.{Load, Export}

-- an image was read, and the key at a path of its tree was written; that is a tree within the limits, the types of its values have 32
-- bits, and their data are bytes. A front that is given stands for the root's name
pub record Exports (unread left : Option (List ℕ)) (path : List ℕ) (front : Option (List ℕ)) (is_utf8 : Bool) (before after : Option (List ℕ))
    : Type 0 where
  pub tree : Tree
  pub reads : ReadsImage unread left tree
  pub is_tree : IsTree tree
  pub limits : IsWithinLimits tree
  pub of_bytes : IsOfBytes tree
  pub written : IsExported tree path front is_utf8 before after

-- why it wasn't, or not to the end: the image doesn't load, and nothing was written; or what ended the writing of its tree's key
abbrev pub ExportEnds : ExportEnd → (unread left : Option (List ℕ)) → (path : List ℕ) → (front : Option (List ℕ)) → (is_utf8 : Bool) →
    (before after : Option (List ℕ)) → Type 0
ExportEnds (Load fault) unread left path front is_utf8 before after = MeetsFault fault unread left × (after ≡ before)
ExportEnds (Export fault) unread left path front is_utf8 before after =
    (tree : Tree) × ReadsImage unread left tree × ExportStops fault tree path front is_utf8 before after
