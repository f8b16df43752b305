-- Values that are made together, as all that a key has, and the cells that they take (Suhanov, Windows registry file format
-- specification, "Cell", "Key values list", "Key value").
use Rattle.std.specs.Prelude.{◌≡◌, ◌+◌, ◌*◌, ℕ, None, List, [], ◌∷◌, ◌++◌, map, length, ⊤}
use Rattle.reg_heap.specs.Paths.{Member}
use Rattle.reg_heap.specs.Members.{index_named}
use Rattle.reg_heap.specs.Trees.{IsSmallValue}
use Rattle.reg_arena.specs.NewCells.{cell_size}
use Rattle.reg_values.specs.declared.making.NewValue.{NewValue}
use Rattle.reg_values.specs.ValueSizes.{data_sizes}

-- a value as it is told
abbrev pub told : NewValue → Member
told value = record { name = value.name.now; kind = value.kind; bytes = value.bytes.now }

-- values, in their order
abbrev pub all_told : List NewValue → List Member
all_told values = map told values

-- each of these values is within the limits, and none before it has its name, after folding
abbrev pub MayFollow : List Member → List Member → Type 0
MayFollow before [] = ⊤
MayFollow before (m ∷ members) = IsSmallValue m × (index_named m.name before ≡ None) × MayFollow (before ++ m ∷ []) members

-- the cells of a value: its record's and its data's
abbrev pub one_value_sizes : Member → List ℕ
one_value_sizes m = cell_size (20 + length m.name) ∷ data_sizes (length m.bytes)

-- the cells of several values
abbrev pub each_value_sizes : List Member → List ℕ
each_value_sizes [] = []
each_value_sizes (m ∷ members) = one_value_sizes m ++ each_value_sizes members

-- the cells of all values of a key: their list's, which has room for so many values, and then each value's
abbrev pub all_value_sizes : ℕ → List Member → List ℕ
all_value_sizes room [] = []
all_value_sizes room (m ∷ members) = cell_size (4 * room) ∷ each_value_sizes (m ∷ members)
