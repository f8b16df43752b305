-- A value of an image told with its type (this project's own).
use Rattle.std.specs.Prelude.{ℕ, List, Option}
use Rattle.reg_heap.specs.Paths.{Tree}
use Rattle.reg_tree_image.specs.Loads.{ReadsImage}
use Rattle.reg_tree_text.specs.PathQueries.{value_at, IsTold}
use Rattle.reg_tables.specs.TypedValues.{typed_line}

-- an image was read, and the line of the value of that name of the key at a path of its tree was written
pub record TellsTyped (unread left : Option (List ℕ)) (path name : List ℕ) (before after : Option (List ℕ)) : Type 0 where
  pub tree : Tree
  pub reads : ReadsImage unread left tree
  pub written : IsTold (value_at tree path name) typed_line before after
