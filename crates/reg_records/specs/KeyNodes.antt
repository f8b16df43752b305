-- Key nodes (Suhanov, Windows registry file format specification, "Key node").
use Rattle.std.specs.Prelude.{◌≡◌, ℕ, ◌+◌, ◌^◌, ◌<◌, ◌==◌, not, nat_lt, Bool, List, ◌∷◌, ◌++◌, Option, length, take, drop, bit_and, if◌then◌else◌}
use Rattle.std.specs.Prelude.{Result, Ok, Err}
use Rattle.reg_heap.specs.ByteWords.{half, word, long}
use Rattle.reg_records.specs.declared.RecordFault.{RecordFault}
use Rattle.reg_records.specs.declared.RecordFault.TheVariants.{Short, Signature, Length, NotInProfile}
use Rattle.reg_records.specs.declared.nk.KeyFields.{KeyFields}
use Rattle.byteorder.specs.Endian.{little_bytes}
use Rattle.reg_heap.specs.declared.limits.TheConstants.{NONE}
use Rattle.reg_records.specs.Letters.{is_signed}
use Rattle.reg_records.specs.RecordCells.{Heap, read_at}

-- a key node as it is read: its fixed part, and the bytes of its name
pub record KeyRecord : Type 0 where
  pub fields : KeyFields
  pub name : List ℕ

-- the flags are without 0x40
abbrev pub is_in_profile : ℕ → Bool
is_in_profile flags = bit_and flags 0x40 == 0

-- the numbers fit their fields
pub record FitKey (fields : KeyFields) : Type 0 where
  pub flags : fields.flags < 2 ^ 16
  pub time : fields.time < 2 ^ 64
  pub parent : fields.parent < 2 ^ 32
  pub subkeys : fields.subkeys < 2 ^ 32
  pub subkeys_list : fields.subkeys_list < 2 ^ 32
  pub values : fields.values < 2 ^ 32
  pub values_list : fields.values_list < 2 ^ 32
  pub security : fields.security < 2 ^ 32
  pub class : fields.class < 2 ^ 32
  pub class_length : fields.class_length < 2 ^ 16
  pub largest_subkey_name : fields.largest_subkey_name < 2 ^ 32
  pub largest_subkey_class : fields.largest_subkey_class < 2 ^ 32
  pub largest_value_name : fields.largest_value_name < 2 ^ 32
  pub largest_value_data : fields.largest_value_data < 2 ^ 32

-- what is read: each field at its offset
abbrev pub nk_fields_of : List ℕ → KeyFields
nk_fields_of content = record {
  flags = half content 2;
  time = long content 4;
  parent = word content 16;
  subkeys = word content 20;
  subkeys_list = word content 28;
  values = word content 36;
  values_list = word content 40;
  security = word content 44;
  class = word content 48;
  class_length = half content 74;
  largest_subkey_name = word content 52;
  largest_subkey_class = word content 56;
  largest_value_name = word content 60;
  largest_value_data = word content 64;
}

-- the key node at the start of a content, or the first fault that holds: too short, not `nk`, a length past the end, flag 0x40
unfoldable pub nk_of : List ℕ → Result KeyRecord RecordFault
nk_of content =
    if nat_lt (length content) 76 then Err Short
    else if not (is_signed 110 107 content) then Err Signature
    else if nat_lt (length content) (76 + half content 72) then Err Length
    else if not (is_in_profile (half content 2)) then Err NotInProfile
    else Ok (record { fields = nk_fields_of content; name = take (half content 72) (drop 76 content) })

-- the key node that the cell at an offset holds, or None where there is no cell or no key node
unfoldable pub key_at : Heap → ℕ → Option KeyRecord
key_at heap cell = read_at nk_of heap cell

-- the fixed part as it is written, with the name's length: `nk`, then each field in its place; 0 for the access bits,
-- the number of volatile subkeys and WorkVar, 0xFFFFFFFF for the list of volatile subkeys
abbrev pub nk_head : KeyFields → ℕ → List ℕ
nk_head fields name_length =
    110 ∷ 107 ∷ little_bytes 2 fields.flags
    ++ little_bytes 8 fields.time
    ++ little_bytes 4 0
    ++ little_bytes 4 fields.parent
    ++ little_bytes 4 fields.subkeys
    ++ little_bytes 4 0
    ++ little_bytes 4 fields.subkeys_list
    ++ little_bytes 4 0xFFFFFFFF
    ++ little_bytes 4 fields.values
    ++ little_bytes 4 fields.values_list
    ++ little_bytes 4 fields.security
    ++ little_bytes 4 fields.class
    ++ little_bytes 4 fields.largest_subkey_name
    ++ little_bytes 4 fields.largest_subkey_class
    ++ little_bytes 4 fields.largest_value_name
    ++ little_bytes 4 fields.largest_value_data
    ++ little_bytes 4 0
    ++ little_bytes 2 name_length
    ++ little_bytes 2 fields.class_length

-- a key node as it is written: its fixed part and its name
unfoldable pub nk_bytes : KeyFields → List ℕ → List ℕ
nk_bytes fields name = nk_head fields (length name) ++ name

-- what a key node holds beside what is read of it, as it is written: 0 for the access bits, the number of volatile subkeys and
-- WorkVar, and no list of volatile subkeys
pub record IsPlainKey (content : List ℕ) : Type 0 where
  pub access : word content 12 ≡ 0
  pub volatile_subkeys : word content 24 ≡ 0
  pub volatile_list : word content 32 ≡ NONE
  pub work : word content 68 ≡ 0
