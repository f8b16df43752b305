-- How many keys and values a tree has (this project's own).
use Rattle.std.specs.Prelude.{◌≡◌, length}
use Rattle.reg_heap.specs.Paths.{Tree}
use Rattle.reg_tree_text.specs.declared.counts.Counts.{Counts}
use Rattle.reg_tree_text.specs.DumpTexts.{keys_told, values_in}

-- the keys that are told of a tree, and their values
pub record IsCounted (tree : Tree) (counts : Counts) : Type 0 where
  pub keys : counts.keys ≡ length (keys_told tree)
  pub values : counts.values ≡ values_in (keys_told tree)
