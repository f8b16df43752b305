-- The cells of a new hive (Suhanov, Windows registry file format specification, "Hive bin", "Cell", "Key node", "Key security").
use Rattle.std.specs.Prelude.{◌≡◌, ℕ, ◌+◌, ◌-◌, Some, List, [], ◌∷◌, ◌++◌, length, replicate}
use Rattle.reg_heap.specs.declared.limits.TheConstants.{NONE}
use Rattle.reg_arena.specs.Arena.{heap_of}
use Rattle.reg_arena.specs.Carves.{rest_of}
use Rattle.reg_arena.specs.Cells.{cells_of}
use Rattle.reg_arena.specs.NewBin.{IsBinSize}
use Rattle.reg_arena.specs.NewCells.{cell_size, total_of, carved}
use Rattle.reg_records.specs.KeyNodes.{nk_bytes}
use Rattle.reg_records.specs.KeySecurities.{sk_bytes}
use Rattle.reg_records.specs.declared.nk.KeyFields.{KeyFields}
use Rattle.reg_tree.specs.TreeKeys.{Keys}

-- the sizes of a new hive's cells: the root's key node with its name, and the security with its descriptor
abbrev pub new_sizes : List ℕ → List ℕ → List ℕ
new_sizes name descriptor = cell_size (76 + length name) ∷ cell_size (20 + length descriptor) ∷ []

-- the root's cell is the first, and its security's stands behind it
abbrev pub security_offset : List ℕ → ℕ
security_offset name = 32 + cell_size (76 + length name)

-- the fixed part of a new root's key node: no delete, hive entry, a name of one byte a character (0x2C); no parent, no subkeys, no
-- class, no values, no longest name
abbrev pub root_fields : ℕ → ℕ → KeyFields
root_fields security moment = record {
  flags = 44;
  time = moment;
  parent = NONE;
  subkeys = 0;
  subkeys_list = NONE;
  values = 0;
  values_list = NONE;
  security = security;
  class = NONE;
  class_length = 0;
  largest_subkey_name = 0;
  largest_subkey_class = 0;
  largest_value_name = 0;
  largest_value_data = 0;
}

-- what a cell holds that was made for a record of so many bytes: the record, and zeros behind it
abbrev pub in_cell : ℕ → List ℕ → List ℕ
in_cell size bytes = bytes ++ replicate (cell_size size - 4 - size) 0

-- all bins are one, of the least size for the two cells; they stand in it side by side, the root's first, and the rest is free; and
-- they hold the two records and zeros: the root's key node, and a ring of one security, which one key uses
pub record IsNewHive (keys : Keys) (name descriptor : List ℕ) (moment : ℕ) : Type 0 where
  pub size : ℕ
  pub least : IsBinSize size (total_of (new_sizes name descriptor))
  pub root : keys.root ≡ 32
  pub cells : cells_of keys.bins.bytes ≡
      Some (carved 32 (new_sizes name descriptor) ++
      rest_of (32 + total_of (new_sizes name descriptor)) (size - 32 - total_of (new_sizes name descriptor)))
  pub node : heap_of keys.bins 32 ≡ Some (in_cell (76 + length name) (nk_bytes (root_fields (security_offset name) moment) name))
  pub security : heap_of keys.bins (security_offset name) ≡
      Some (in_cell (20 + length descriptor) (sk_bytes (record { flink = security_offset name; blink = security_offset name; count = 1 }) descriptor))
