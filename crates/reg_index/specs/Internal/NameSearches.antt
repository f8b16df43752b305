-- How far a search among names has come.
use Rattle.std.specs.Prelude.{◌≡◌, ℕ, ◌<◌, ◌≤◌, List, [], length, get_or}
use Rattle.std.specs.Ordering.{nat_cmp}
use Rattle.std.specs.declared.cmp.Ordering.TheVariants.{Less}
use Rattle.std.specs.Cmp.Lexicographic.{slice_cmp}
use Rattle.reg_heap.specs.Heaps.{Heap}
use Rattle.reg_shape.specs.Nodes.{KeyList}
use Rattle.reg_index.specs.Subkeys.{entries_in, flat_among, names_in, numbered}

-- the names before one index come before the name, and those from another one on behind it
pub record Between (names : List (List ℕ)) (name : List ℕ) (low high : ℕ) : Type 0 where
  pub order_is : low ≤ high
  pub within : high ≤ length names
  pub before : (k : ℕ) → k < low → slice_cmp nat_cmp (get_or names k []) name ≡ Less
  pub behind : (k : ℕ) → high ≤ k → k < length names → slice_cmp nat_cmp name (get_or names k []) ≡ Less

-- a folded name stands or belongs in the list of this number
pub record IsListFor (heap : Heap) (lists : List KeyList) (name : List ℕ) (number : ℕ) : Type 0 where
  pub within : number < length lists
  pub between : Between (names_in heap (entries_in lists)) name (flat_among lists (record { list = number; index = 0 }))
      (flat_among lists (record { list = number; index = length (numbered number lists).list.entries }))
