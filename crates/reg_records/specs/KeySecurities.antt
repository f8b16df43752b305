-- Key securities (Suhanov, Windows registry file format specification, "Key security").
use Rattle.std.specs.Prelude.{◌≡◌, ℕ, ◌+◌, ◌^◌, ◌<◌, not, nat_lt, List, ◌∷◌, ◌++◌, Option, length, take, drop, if◌then◌else◌, Result, Ok, Err}
use Rattle.reg_heap.specs.ByteWords.{half, word}
use Rattle.reg_records.specs.declared.RecordFault.{RecordFault}
use Rattle.reg_records.specs.declared.RecordFault.TheVariants.{Short, Signature, Length}
use Rattle.reg_records.specs.declared.sk.SecurityFields.{SecurityFields}
use Rattle.byteorder.specs.Endian.{little_bytes}
use Rattle.reg_records.specs.Letters.{is_signed}
use Rattle.reg_records.specs.RecordCells.{Heap, read_at}

-- a key security as it is read: its fixed part, and the bytes of its descriptor
pub record KeySecurityRecord : Type 0 where
  pub fields : SecurityFields
  pub descriptor : List ℕ

-- the numbers fit their fields
pub record FitSecurity (fields : SecurityFields) : Type 0 where
  pub flink : fields.flink < 2 ^ 32
  pub blink : fields.blink < 2 ^ 32
  pub count : fields.count < 2 ^ 32

-- what is read: each field at its offset
abbrev pub sk_fields_of : List ℕ → SecurityFields
sk_fields_of content = record {
  flink = word content 4;
  blink = word content 8;
  count = word content 12;
}

-- the key security at the start of a content, or the first fault that holds: too short, not `sk`, a length past the end
unfoldable pub sk_of : List ℕ → Result KeySecurityRecord RecordFault
sk_of content =
    if nat_lt (length content) 20 then Err Short
    else if not (is_signed 115 107 content) then Err Signature
    else if nat_lt (length content) (20 + word content 16) then Err Length
    else Ok (record { fields = sk_fields_of content; descriptor = take (word content 16) (drop 20 content) })

-- the key security that the cell at an offset holds, or None where there is no cell or no key security
unfoldable pub security_at : Heap → ℕ → Option KeySecurityRecord
security_at heap cell = read_at sk_of heap cell

-- the fixed part as it is written, with the descriptor's size: `sk`, 0 for the reserved bytes, then each field in its place
abbrev pub sk_head : SecurityFields → ℕ → List ℕ
sk_head fields size =
    115 ∷ 107 ∷ little_bytes 2 0
    ++ little_bytes 4 fields.flink
    ++ little_bytes 4 fields.blink
    ++ little_bytes 4 fields.count
    ++ little_bytes 4 size

-- a key security as it is written: its fixed part and its descriptor
unfoldable pub sk_bytes : SecurityFields → List ℕ → List ℕ
sk_bytes fields descriptor = sk_head fields (length descriptor) ++ descriptor

-- the reserved bytes of a key security, as they are written
abbrev pub IsPlainSecurity : List ℕ → Type 0
IsPlainSecurity content = half content 2 ≡ 0
