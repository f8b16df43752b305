-- Images that the tool read (this project's own).
use Rattle.std.specs.Prelude.{ℕ, List, ◌++◌, codes, Option}
use Rattle.std.specs.Fmt.{decimal}
use Rattle.std.specs.Io.KnownBytes.{Appends}
use Rattle.reg_heap.specs.Paths.{Tree}
use Rattle.reg_text.specs.Texts.{line_feed}
use Rattle.reg_tree_image.specs.declared.LoadFault.{LoadFault}
use Rattle.reg_tree_image.specs.declared.LoadFault.TheVariants.{Memory}
use Rattle.reg_tree_image.specs.Loads.{fault_number, ReadsImage}

-- an image was read, and what was written is that text of its tree
pub record WritesTreeText (text_of : Tree → List ℕ) (unread left before after : Option (List ℕ)) : Type 0 where
  pub tree : Tree
  pub reads : ReadsImage unread left tree
  pub appended : Appends before after (text_of tree)

-- the line that tells a load fault
abbrev pub fault_line : LoadFault → List ℕ
fault_line Memory = codes "error 8\n"
fault_line fault = codes "error 1009 load " ++ (decimal (fault_number fault) ++ line_feed)
