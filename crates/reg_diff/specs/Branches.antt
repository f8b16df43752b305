-- The key at a path of a tree and those below it (this project's own).
use Rattle.std.specs.Prelude.{ℕ, ◌+◌, Bool, bytes_eq, List, [], ◌∷◌, ◌++◌, map}
use Rattle.std.specs.List.{starts_with}
use Rattle.std.specs.FinMap.{get}
use Rattle.reg_names.specs.declared.TheConstants.{PATH_LIMIT}
use Rattle.reg_names.specs.Names.{folded}
use Rattle.reg_heap.specs.Paths.{Path, Tree}
use Rattle.reg_tree_text.specs.DumpTexts.{Told, name_of, told_from}

-- the names of the keys from one on that are on the way along a path below it, as given
unfoldable pub names_along : Tree → (above path : List (List ℕ)) → List (List ℕ)
names_along tree above [] = []
names_along tree above (name ∷ path) = name_of (get tree (above ++ name ∷ [])) ∷ names_along tree (above ++ name ∷ []) path

-- the names that lead to a key from the root, as given
abbrev pub names_to : Tree → Path → List (List ℕ)
names_to tree path = names_along tree [] path

-- the key at a path and those below it, in the order of a dump, each with the names that lead to it from the root
unfoldable pub keys_from : Tree → Path → List Told
keys_from tree path = told_from (PATH_LIMIT + 1) tree (names_to tree path) path

-- whether a key that is told stands at a path or below it: `BranchLaw` has that these are just those above, of all that are told of the tree
abbrev pub is_within : Path → Told → Bool
is_within path told = starts_with bytes_eq (map folded told.names) path
