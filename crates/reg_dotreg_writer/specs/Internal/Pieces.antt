-- The bytes of a file in the pieces in which they are gathered.
use Rattle.std.specs.Prelude.{◌≡◌, ℕ, zero, suc, ◌≤◌, Bool, true, false, List, [], ◌∷◌, ◌++◌, length, codes, flat_map, Option, Some, None}
use Rattle.std.specs.Char.Utf16.{has_unpaired_surrogate}
use Rattle.reg_names.specs.Names.{text_of}
use Rattle.reg_heap.specs.Paths.{Path, Tree, Member}
use Rattle.reg_tree_text.specs.DumpTexts.{Told}
use Rattle.reg_dotreg_writer.specs.EntryTexts.{line_end, quoted_unit, name_told, text_of_data, plain_data}
use Rattle.reg_dotreg_writer.specs.Entries.{keys_from, heading, key_line, encoded, mark}

-- characters of ASCII in UTF-8 or in UTF-16
abbrev pub plain : (is_utf8 : Bool) → List ℕ → List ℕ
plain true part = part
plain false part = flat_map (λ b. b ∷ 0 ∷ []) part

-- what stands behind a byte that others follow, where so many more may stand in the row
abbrev pub comma_told : (room : ℕ) → List ℕ
comma_told zero = codes ",\\\r\n  "
comma_told (suc room) = codes ","

-- how many more may stand in the row of the next one
abbrev pub room_behind : (room : ℕ) → ℕ
room_behind zero = 24
room_behind (suc room) = room

-- the text of a string between quotes
unfoldable pub text_pieces : (is_utf8 : Bool) → List ℕ → List ℕ
text_pieces is_utf8 text = plain is_utf8 (34 ∷ []) ++ (encoded is_utf8 (flat_map quoted_unit text) ++ plain is_utf8 (34 ∷ []))

-- the text of a string, or else other data
abbrev pub data_pieces : (is_utf8 : Bool) → (text : Option (List ℕ)) → (kind : ℕ) (bytes : List ℕ) → List ℕ
data_pieces is_utf8 None kind bytes = plain is_utf8 (plain_data kind bytes)
data_pieces is_utf8 (Some text) kind bytes = text_pieces is_utf8 text

-- the entry of a value
unfoldable pub entry_pieces : (is_utf8 : Bool) → (name : List ℕ) (kind : ℕ) (bytes : List ℕ) → List ℕ
entry_pieces is_utf8 name kind bytes =
    plain is_utf8 (name_told name) ++ (plain is_utf8 (61 ∷ []) ++
    (data_pieces is_utf8 (text_of_data kind bytes) kind bytes ++ plain is_utf8 line_end))

-- the entries of some values
abbrev pub entries_pieces : (is_utf8 : Bool) → List Member → List ℕ
entries_pieces is_utf8 values = flat_map (λ (value : Member). entry_pieces is_utf8 value.name value.kind value.bytes) values

-- the block of a key
abbrev pub block_pieces : (is_utf8 : Bool) → Told → List ℕ
block_pieces is_utf8 told =
    plain is_utf8 (key_line (text_of told.names)) ++ (entries_pieces is_utf8 told.key.values ++ plain is_utf8 line_end)

-- what stands before the first key
unfoldable pub head_pieces : (is_utf8 : Bool) → List ℕ
head_pieces is_utf8 = mark is_utf8 ++ plain is_utf8 heading

-- the file
unfoldable pub file_pieces : (is_utf8 : Bool) → (root : List ℕ) → Tree → Path → List ℕ
file_pieces is_utf8 root tree path = head_pieces is_utf8 ++ flat_map (block_pieces is_utf8) (keys_from root tree path)

-- units behind the first character, which is no surrogate without its partner, and begins with this unit
pub record IsBehind (first : ℕ) (rest behind : List ℕ) : Type 0 where
  pub shorter : length behind ≤ length rest
  pub same : has_unpaired_surrogate behind ≡ has_unpaired_surrogate (first ∷ rest)
