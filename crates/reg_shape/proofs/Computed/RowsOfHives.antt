-- The definitions at the bytes of hives that were worked out by hand: a fresh hive, and the same after its first value.
use Rattle.std.proofs.Common.{◌≡◌, ℕ, List, [], ◌∷◌, ◌++◌, replicate, Some, refl}
use Rattle.reg_heap.specs.ByteWords.{half, word, long}
use Rattle.reg_heap.specs.Kinds.{Found}
use Rattle.reg_heap.specs.Kinds.Kind.{Key, ValueList, Value, Security}
use Rattle.reg_arena.specs.Cells.{cells_of, cell_at}
use Rattle.reg_arena.specs.NewCells.{used, unused}
use Rattle.reg_records.specs.KeyNodes.{nk_of, key_at}
use Rattle.reg_records.specs.KeyValues.{vk_of}
use Rattle.reg_records.specs.KeySecurities.{sk_of, security_at}
use Rattle.reg_shape.specs.Walk.{walk}
use Rattle.reg_records.specs.BigData.{plainly, segment_size}
use Rattle.reg_records.specs.OffsetRows.{row_in, offsets_at}
use Rattle.reg_shape.specs.Nodes.{Node, look}
use Rattle.reg_shape.specs.Nodes.Index.{Unlisted}
use Rattle.reg_shape.specs.Spelt.{keys_from, spelt}
use Rattle.reg_records.specs.declared.nk.KeyFields.{KeyFields}
use Rattle.std.specs.FinMap.{insert, empty}

-- `hbin`, offset 0, size 4096 and 20 zeros
abbrev pub header : List ℕ
header = (104 ∷ 98 ∷ 105 ∷ 110 ∷ 0 ∷ 0 ∷ 0 ∷ 0 ∷ 0 ∷ 16 ∷ 0 ∷ 0 ∷ []) ++ replicate 20 0

abbrev pub none : List ℕ
none = 255 ∷ 255 ∷ 255 ∷ 255 ∷ []

abbrev pub zeros : List ℕ
zeros = 0 ∷ 0 ∷ 0 ∷ 0 ∷ []

-- -88; the key node `ROOT`: flags 0x2C, time 0, no parent, no subkeys, so many values in a list, security 120, no class
abbrev pub root_cell : List ℕ → List ℕ → List ℕ → List ℕ
root_cell values list largest =
    (168 ∷ 255 ∷ 255 ∷ 255 ∷ []) ++
    ((110 ∷ 107 ∷ 44 ∷ 0 ∷ []) ++
    (replicate 8 0 ++ (zeros ++
    (none ++ (zeros ++ (zeros ++
    (none ++ (none ++ (values ++
    (list ++ ((120 ∷ 0 ∷ 0 ∷ 0 ∷ []) ++
    (none ++ (replicate 12 0 ++ (largest ++ (zeros ++ ((4 ∷ 0 ∷ 0 ∷ 0 ∷ []) ++ ((82 ∷ 79 ∷ 79 ∷ 84 ∷ []) ++ zeros)))))))))))))))))

-- -48; the key security, first and last of its ring, so many keys, a descriptor of 20 bytes
abbrev pub security_cell : ℕ → List ℕ
security_cell count =
    (208 ∷ 255 ∷ 255 ∷ 255 ∷ []) ++
    ((115 ∷ 107 ∷ 0 ∷ 0 ∷ []) ++
    ((120 ∷ 0 ∷ 0 ∷ 0 ∷ []) ++
    ((120 ∷ 0 ∷ 0 ∷ 0 ∷ []) ++ ((count ∷ 0 ∷ 0 ∷ 0 ∷ []) ++ ((20 ∷ 0 ∷ 0 ∷ 0 ∷ []) ++ ((1 ∷ 0 ∷ 4 ∷ 128 ∷ []) ++ (replicate 16 0 ++ zeros)))))))

-- ---- a fresh hive

abbrev pub fresh : List ℕ
fresh = header ++ (root_cell zeros none zeros ++ (security_cell 1 ++ ((88 ∷ 15 ∷ 0 ∷ 0 ∷ 255 ∷ 255 ∷ 255 ∷ 255 ∷ []) ++ replicate 3920 0)))

pub fresh-cells : cells_of fresh ≡ Some (used 32 88 ∷ used 120 48 ∷ unused 168 3928 ∷ [])
unfolding cells_of word
fresh-cells = refl

pub fresh-walk : walk 3 (cell_at fresh) (plainly Key 32) ≡ Some (record { kind = Key; offset = 32 } ∷ record { kind = Security; offset = 120 } ∷ [])
unfolding cell_at cells_of word half long walk nk_of sk_of
fresh-walk = refl

-- ---- after the first value: its record of 24 bytes at 168, and the list of it at 192

abbrev pub valued : List ℕ
valued =
    header ++ (root_cell (1 ∷ 0 ∷ 0 ∷ 0 ∷ []) (192 ∷ 0 ∷ 0 ∷ 0 ∷ []) (4 ∷ 0 ∷ 0 ∷ 0 ∷ []) ++ (security_cell 1
    ++ ((232 ∷ 255 ∷ 255 ∷ 255 ∷ []) ++ ((118 ∷ 107 ∷ 0 ∷ 0 ∷ []) ++ ((4 ∷ 0 ∷ 0 ∷ 128 ∷ []) ++ ((1 ∷ 0 ∷ 0 ∷ 0 ∷ []) ++ ((4 ∷ 0 ∷ 0 ∷ 0 ∷ []) ++ (zeros
    ++ ((248 ∷ 255 ∷ 255 ∷ 255 ∷ []) ++ ((168 ∷ 0 ∷ 0 ∷ 0 ∷ [])
    ++ ((56 ∷ 15 ∷ 0 ∷ 0 ∷ 255 ∷ 255 ∷ 255 ∷ 255 ∷ []) ++ replicate 3888 0)))))))))))

pub valued-cells : cells_of valued ≡ Some (used 32 88 ∷ used 120 48 ∷ used 168 24 ∷ used 192 8 ∷ unused 200 3896 ∷ [])
unfolding cells_of word
valued-cells = refl

pub valued-walk : walk 5 (cell_at valued) (plainly Key 32) ≡ Some (record { kind = Key; offset = 32 } ∷ record {
  kind = Security;
  offset =
      120;
} ∷ record { kind = ValueList; offset = 192 } ∷ record { kind = Value; offset = 168 } ∷ [])
unfolding cell_at cells_of word half long walk nk_of sk_of vk_of row_in offsets_at segment_size
valued-walk = refl

-- ---- what the fresh hive is

abbrev pub fresh_fields : KeyFields
fresh_fields = record {
  flags = 44;
  time = 0;
  parent = 4294967295;
  subkeys = 0;
  subkeys_list = 4294967295;
  values = 0;
  values_list = 4294967295;
  security = 120;
  class = 4294967295;
  class_length = 0;
  largest_subkey_name = 0;
  largest_subkey_class = 0;
  largest_value_name = 0;
  largest_value_data = 0;
}

abbrev pub root_name : List ℕ
root_name = 82 ∷ 79 ∷ 79 ∷ 84 ∷ []

abbrev pub descriptor : List ℕ
descriptor = (1 ∷ 0 ∷ 4 ∷ 128 ∷ []) ++ replicate 16 0

abbrev pub fresh_found : List Found
fresh_found = record { kind = Key; offset = 32 } ∷ record { kind = Security; offset = 120 } ∷ []

abbrev pub fresh_node : Node
fresh_node = record { key = record { fields = fresh_fields; name = root_name }; class = []; values = []; cells = fresh_found; index = Unlisted }

pub fresh-look : look (cell_at fresh) 32 ≡ Some fresh_node
unfolding cell_at cells_of word half long nk_of key_at look
fresh-look = refl

pub fresh-spelt : spelt 3 (cell_at fresh) 32 ≡ Some (insert empty [] (record { name = root_name; marks = 8; class = []; descriptor = descriptor; time = 0; values = [] }))
unfolding cell_at cells_of word half long nk_of sk_of key_at security_at look keys_from spelt
fresh-spelt = refl
