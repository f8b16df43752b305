-- A tree, or a part of it, made again below the root of another (this project's own).
use Rattle.std.specs.Prelude.{◌≡◌, ℕ, ◌&&◌, ◌||◌, if◌then◌else◌, List, [], ◌∷◌, is_some, IsSome, None}
use Rattle.std.specs.FinMap.{get}
use Rattle.reg_heap.specs.Paths.{Path, Tree}
use Rattle.reg_heap.specs.Members.{value_named}
use Rattle.reg_heap.specs.Edits.{values_at, is_within}
use Rattle.reg_tree_text.specs.DumpTexts.{name_of}

-- the root alone, without values, under any name
pub record IsBare (tree : Tree) : Type 0 where
  pub root : IsSome (get tree [])
  pub values : values_at tree [] ≡ []
  pub alone : (name : List ℕ) (rest : Path) → get tree (name ∷ rest) ≡ None

-- a tree has keys at just the paths where another has one, each with the same values, in their order, and below the root with the
-- same name, as it is spelt
pub record HasSame (new tree : Tree) : Type 0 where
  pub keys : (path : Path) → is_some (get new path) ≡ is_some (get tree path)
  pub values : (path : Path) → values_at new path ≡ values_at tree path
  pub names : (name : List ℕ) (rest : Path) → name_of (get new (name ∷ rest)) ≡ name_of (get tree (name ∷ rest))

-- a tree has, of the keys of another, just those at or below a path and those on the way to it: at or below it with the same values, in
-- their order, on the way without values, and below the root with the same names, as they are spelt
pub record HasSameBelow (new tree : Tree) (path : Path) : Type 0 where
  pub keys : (q : Path) → is_some (get new q) ≡ (is_some (get tree q) && (is_within path q || is_within q path))
  pub values : (q : Path) → values_at new q ≡ (if is_within path q then values_at tree q else [])
  pub names : (name : List ℕ) (rest : Path) → IsSome (get new (name ∷ rest)) → name_of (get new (name ∷ rest)) ≡ name_of (get tree (name ∷ rest))

-- a tree has keys at just the paths where another has one, and in each the same value of each name, as it is spelt, or none; in any order
pub record HasAlike (new tree : Tree) : Type 0 where
  pub keys : (path : Path) → is_some (get new path) ≡ is_some (get tree path)
  pub values : (path : Path) (name : List ℕ) → value_named name (values_at new path) ≡ value_named name (values_at tree path)
