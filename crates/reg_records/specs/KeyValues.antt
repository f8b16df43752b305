-- Key values (Suhanov, Windows registry file format specification, "Key value").
use Rattle.std.specs.Prelude.{◌≡◌, ℕ, ◌+◌, ◌^◌, ◌<◌, not, nat_lt, List, ◌∷◌, ◌++◌, Option, length, take, drop, if◌then◌else◌, Result, Ok, Err}
use Rattle.reg_heap.specs.ByteWords.{half, word}
use Rattle.reg_records.specs.declared.RecordFault.{RecordFault}
use Rattle.reg_records.specs.declared.RecordFault.TheVariants.{Short, Signature, Length}
use Rattle.reg_records.specs.declared.vk.ValueFields.{ValueFields}
use Rattle.byteorder.specs.Endian.{little_bytes}
use Rattle.reg_records.specs.Letters.{is_signed}
use Rattle.reg_records.specs.RecordCells.{Heap, read_at}

-- a key value as it is read: its fixed part, and the bytes of its name
pub record KeyValueRecord : Type 0 where
  pub fields : ValueFields
  pub name : List ℕ

-- the numbers fit their fields
pub record FitValue (fields : ValueFields) : Type 0 where
  pub size : fields.size < 2 ^ 32
  pub offset : fields.offset < 2 ^ 32
  pub kind : fields.kind < 2 ^ 32
  pub flags : fields.flags < 2 ^ 16

-- what is read: each field at its offset
abbrev pub vk_fields_of : List ℕ → ValueFields
vk_fields_of content = record {
  size = word content 4;
  offset = word content 8;
  kind = word content 12;
  flags = half content 16;
}

-- the key value at the start of a content, or the first fault that holds: too short, not `vk`, a length past the end
unfoldable pub vk_of : List ℕ → Result KeyValueRecord RecordFault
vk_of content =
    if nat_lt (length content) 20 then Err Short
    else if not (is_signed 118 107 content) then Err Signature
    else if nat_lt (length content) (20 + half content 2) then Err Length
    else Ok (record { fields = vk_fields_of content; name = take (half content 2) (drop 20 content) })

-- the key value that the cell at an offset holds, or None where there is no cell or no key value
unfoldable pub value_record_at : Heap → ℕ → Option KeyValueRecord
value_record_at heap cell = read_at vk_of heap cell

-- the fixed part as it is written, with the name's length: `vk`, then each field in its place, and 0 for the spare bytes
abbrev pub vk_head : ValueFields → ℕ → List ℕ
vk_head fields name_length =
    118 ∷ 107 ∷ little_bytes 2 name_length
    ++ little_bytes 4 fields.size
    ++ little_bytes 4 fields.offset
    ++ little_bytes 4 fields.kind
    ++ little_bytes 2 fields.flags
    ++ little_bytes 2 0

-- a key value as it is written: its fixed part and its name
unfoldable pub vk_bytes : ValueFields → List ℕ → List ℕ
vk_bytes fields name = vk_head fields (length name) ++ name

-- the spare bytes of a key value, as they are written
abbrev pub IsPlainValue : List ℕ → Type 0
IsPlainValue content = half content 18 ≡ 0
