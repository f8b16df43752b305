-- Trees whose values hold bytes (this project's own).
use Rattle.std.specs.Prelude.{◌≡◌, ℕ, ◌<◌, List, Some}
use Rattle.std.specs.List.{AllByRecursion}
use Rattle.std.specs.FinMap.{get}
use Rattle.reg_heap.specs.Paths.{Path, Tree, Rec, Member}

-- numbers of eight bits
abbrev pub AreBytes : List ℕ → Type 0
AreBytes bytes = AllByRecursion (λ (b : ℕ). b < 256) bytes

-- a value whose type has 32 bits, and whose data are bytes
abbrev pub HoldsBytes : Member → Type 0
HoldsBytes value = (value.kind < 4294967296) × AreBytes value.bytes

-- a tree of such values
pub record IsOfBytes (tree : Tree) : Type 0 where
  pub values : (path : Path) (key : Rec) → get tree path ≡ Some key → AllByRecursion HoldsBytes key.values
