-- What the first pass over bins says of them, before their keys are tested one by one.
use Rattle.std.specs.Prelude.{◌≡◌, ℕ, suc, Some, Ok, IsSome, List, []}
use Rattle.reg_names.specs.declared.TheConstants.{PATH_LIMIT}
use Rattle.reg_arena.specs.declared.Cell.{Cell}
use Rattle.reg_arena.specs.Cells.{cells_of, cell_at}
use Rattle.reg_shape.specs.Whole.{Meets}
use Rattle.reg_tree_image.specs.WalkSteps.{Seen}
use Rattle.reg_tree_image.specs.LoadingWalk.{root_path, key_from}
use Rattle.reg_tree_image.specs.Images.{nothing}
use Rattle.reg_tree_image.specs.Internal.KeysNamed.{key_offsets}

-- the walk of an image of minor version 5 meets no fault, each allocated cell is met, and these are the offsets of the keys
pub record IsMet (bins : List ℕ) (root : ℕ) (keys : List ℕ) : Type 0 where
  pub cells : List Cell
  pub cells_are : cells_of bins ≡ Some cells
  pub seen : Seen
  pub walked : key_from (cell_at bins) 5 (suc PATH_LIMIT) [] root_path root nothing ≡ Ok (tt, seen)
  pub met : (offset : ℕ) → IsSome (cell_at bins offset) → Meets seen.found offset
  pub keys_are : keys ≡ key_offsets seen.found
