-- Where a value's data stands (Suhanov, Windows registry file format specification, "Key value", "Big data").
use Rattle.std.specs.Prelude.{ℕ, zero, suc, ◌+◌, ◌-◌, ◌/◌, nat_lt, nat_le, not, min, Bool, if◌then◌else◌, Option, List, [], ◌∷◌, ◌++◌, length, Result, Ok, Err}
use Rattle.std.specs.Result.{result_ok}
use Rattle.byteorder.specs.Endian.{little_bytes}
use Rattle.reg_heap.specs.ByteWords.{half, word}
use Rattle.reg_heap.specs.Kinds.{Kind}
use Rattle.reg_heap.specs.Kinds.Kind.{Segment}
use Rattle.reg_records.specs.declared.db.TheConstants.{SEGMENT_SIZE}
use Rattle.reg_records.specs.declared.RecordFault.{RecordFault}
use Rattle.reg_records.specs.declared.RecordFault.TheVariants.{Short, Signature}
use Rattle.reg_records.specs.Letters.{is_signed}

-- a record that another names: what kind is meant there, how much of it (bytes of a class, of data or of a segment, entries of
-- a row of offsets; else 0), and its offset
pub record Named : Type 0 where
  pub kind : Kind
  pub size : ℕ
  pub offset : ℕ

abbrev pub named : Kind → ℕ → ℕ → Named
named kind size offset = record { kind = kind; size = size; offset = offset }

-- a record that is named without a size
abbrev pub plainly : Kind → ℕ → Named
plainly kind offset = named kind 0 offset

-- a record that is named where its size isn't 0
abbrev pub if_any : Kind → ℕ → ℕ → List Named
if_any kind zero offset = []
if_any kind (suc n) offset = named kind (suc n) offset ∷ []

-- how many bytes of data one cell holds at most, and each segment but the last (section "Big data")
unfoldable pub segment_size : ℕ
segment_size = SEGMENT_SIZE

-- the size field has the top bit: the data stands in the field of its offset
abbrev pub is_inline : ℕ → Bool
is_inline size = nat_le 2147483648 size

-- the size that such a field gives
abbrev pub inline_size : ℕ → ℕ
inline_size size = size - 2147483648

-- how many segments data of a size has
abbrev pub segments_for : ℕ → ℕ
segments_for size = (size + (segment_size - 1)) / segment_size

-- the segments at these offsets, each of the largest size but the last, which has the rest
abbrev pub segments : ℕ → List ℕ → List Named
segments size [] = []
segments size (offset ∷ offsets) = named Segment (min segment_size size) offset ∷ segments (size - segment_size) offsets

-- a big data record as it is read: how many segments its list has, and the list's offset
pub record BigData : Type 0 where
  pub count : ℕ
  pub list : ℕ

-- the big data record at the start of a content, or the first fault that holds: too short, not `db`
unfoldable pub db_in : List ℕ → Result BigData RecordFault
db_in content =
    if nat_lt (length content) 8 then Err Short
    else if not (is_signed 100 98 content) then Err Signature
    else Ok (record { count = half content 2; list = word content 4 })

-- the same, or None where there is none
unfoldable pub db_of : List ℕ → Option BigData
db_of content = result_ok (db_in content)

-- a big data record as it is written: `db`, the number of segments, and the list's offset
unfoldable pub db_bytes : ℕ → ℕ → List ℕ
db_bytes count list = 100 ∷ 98 ∷ little_bytes 2 count ++ little_bytes 4 list
